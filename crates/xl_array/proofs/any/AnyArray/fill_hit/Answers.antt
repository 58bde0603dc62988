use Rattle.xl_array.proofs.Common.{◌∙◌, ap, array_in, filled-spec, leaf_hit, leaves_in_sets, sym, TlbArray}
use Rattle.xl_array.proofs.SmallLemmas.{filled-small}
use Rattle.xl_array.proofs.any.AnyArray.fill_hit.Goals as goal

pub invariant_of-self : goal.invariant_of-self
invariant_of-self c =
    let old = array_in c.self.inside.array in
    record {
      counts = rw c.fill_hit_in_array-filled.ensures.grown (c.raise.ensures (leaves_in_sets old.sets) c.self.invariant.counts);
      smalls = λ none. rw c.fill_hit_in_array-filled.ensures.array
          (filled-small (leaf_hit c.args.space c.args.page c.args.hit) old (c.with_order-self-inside.ensures.new none) (c.self.invariant.smalls (sym (c.with_order-self-inside.ensures.same (c.with_order-self-inside.ensures.new none)) ∙ none)));
      spec_is = c.self.invariant.spec_is ∙ sym (ap (λ (z : TlbArray). z.spec) c.fill_hit_in_array-filled.ensures.array ∙ filled-spec (leaf_hit c.args.space c.args.page c.args.hit) old);
      some = c.self.invariant.some;
    }
