use Rattle.xl_array.proofs.Common.{◌∙◌, ◌≡◌, ap, arith, array_in, leaves_in_sets, nat_tests, reaches_leaf, sym, TlbArray}
use Rattle.xl_array.proofs.HeldLemmas.{none-leaves}
use Rattle.xl_array.proofs.SmallLemmas.{purged-small}
use Rattle.xl_array.proofs.any.AnyArray.fence.Goals as goal

pub invariant_of-self : goal.invariant_of-self
invariant_of-self c =
    let old = array_in c.self.inside.array in
    let new = array_in c.fence_in-left.new.arrays in
    record {
      counts = c.lowered-self-inside.ensures (leaves_in_sets old.sets) (leaves_in_sets new.sets) c.self.invariant.counts c.fence_in-left.ensures.left;
      smalls = λ none. rw c.fence_in-left.ensures.array (purged-small (reaches_leaf c.args.reach) old (c.self.invariant.smalls none));
      spec_is = c.self.invariant.spec_is ∙ sym (ap (λ (z : TlbArray). z.spec) c.fence_in-left.ensures.array);
      some = c.self.invariant.some;
    }

pub returns-then-self-eq0-clause-array : goal.returns-then-self-eq0-clause-array
returns-then-self-eq0-clause-array c =
    let zero : c.self.inside.held ≡ 0 = let t = c.if-self-eq0.true in grind (arith, nat_tests) in
    rw (← c.self.view_is) (none-leaves (reaches_leaf c.args.reach) (array_in c.self.inside.array) (c.self.invariant.counts (omega arith) ∙ zero))
