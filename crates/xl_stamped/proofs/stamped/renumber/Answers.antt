use Rattle.xl_stamped.proofs.Common.{◌<◌, ◌∙◌, ◌≡◌, ap, arith, cases_lt, get_or-set_other, get_or-set_same, get_or_default, inl, inr, length, length-set, rank_of, set}
use Rattle.xl_stamped.proofs.RankLemmas.{renumbered_more}
use Rattle.xl_stamped.proofs.stamped.renumber.Goals as goal

pub loop-i-preserved : goal.loop-i-preserved
loop-i-preserved c =
    let i = c.loop-i.i in
    let long : length (set c.loop-i.ranks c.loop-i.i c.rank.result) ≡ length c.args.places.now = length-set c.loop-i.ranks c.loop-i.i c.rank.result ∙ c.loop-i.invariant.long in
    record {
      ranks = λ k d l.
          elim (cases_lt k c.loop-i.i) [
            | inl below ↦ get_or-set_other c.loop-i.ranks c.loop-i.i k c.rank.result 0 (λ (e : k ≡ c.loop-i.i). omega arith) ∙ c.loop-i.invariant.ranks k d below
            | inr here ↦
                let e : k ≡ c.loop-i.i = omega arith in
                let inside : c.loop-i.i < length c.loop-i.ranks = omega arith in
                rw e (get_or-set_same c.loop-i.ranks c.loop-i.i c.rank.result 0 inside ∙ c.rank.ensures
                ∙ ap (λ (p : _). rank_of c.args.places.now p.stamp) (get_or_default c.args.places.now c.loop-i.i _ d c.loop-i-test.true))
          ];
      long = long;
    }

pub loop-i-2-preserved : goal.loop-i-2-preserved
loop-i-2-preserved c = record {
  ranks = c.loop-i-2.invariant.ranks;
  places = renumbered_more c.args.places.now c.loop-i-2.places c.loop-i-2.i _ _ c.loop-i-2-test.true c.loop-i-2.invariant.places
      (c.loop-i-2.invariant.ranks c.loop-i-2.i _ c.loop-i-2-test.true);
  long = c.loop-i-2.invariant.long;
}
