use Rattle.xl_curve.proofs.Common.{◌∙◌, ap, in_turn, is_leaf, place_without, places_of, refl, sym}
use Rattle.xl_curve.proofs.RankLemmas.{turn_mapped, turn_thinned}
use Rattle.xl_curve.proofs.stack.Stack.remove_named.Goals as goal

pub returns-then-lacks : goal.returns-then-lacks
returns-then-lacks c =
    let s = c.self.inside.slots in
    rw (← c.self.view_is)
    (record {
      removed = λ space first o n.
          sym (turn_mapped (place_without (is_leaf space first o)) refl s.ranks (places_of s.places)
          ∙ ap (in_turn s.ranks) (c.lacks.ensures space first o n c.if-lacks.true));
      thinned = λ t hole held. held;
    })

pub returns : goal.returns
returns c =
    let s = c.self.inside.slots in
    rw (← c.self.view_is)
    (record {
      removed = λ space first o n.
          ap (in_turn s.ranks) (c.vacate_named.ensures.purged space first o n)
          ∙ sym (turn_mapped (place_without (is_leaf space first o)) refl s.ranks (places_of s.places));
      thinned = turn_thinned s.ranks (places_of s.places) (places_of c.vacate_named.new.slots) c.vacate_named.ensures.thinned;
    })
