use Rattle.xl_curve.proofs.Common.{◌∙◌, ap, in_turn, place_without, places_of, refl, sym}
use Rattle.xl_curve.proofs.RankLemmas.{turn_mapped, turn_thinned}
use Rattle.xl_curve.proofs.stack.Stack.remove_where.Goals as goal

pub returns : goal.returns
returns g c =
    let s = c.self.inside.slots in
    rw (← c.self.view_is)
    (record {
      removed = λ q test. ap (in_turn s.ranks) (c.vacate_where.ensures.purged q test) ∙ sym (turn_mapped (place_without q) refl s.ranks (places_of s.places));
      thinned = turn_thinned s.ranks (places_of s.places) (places_of c.vacate_where.new.slots) c.vacate_where.ensures.thinned;
    })
