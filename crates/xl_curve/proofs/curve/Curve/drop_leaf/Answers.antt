use Rattle.xl_curve.proofs.Common.{◌≡◌, ap, arith, is_leaf, length}
use Rattle.xl_curve.proofs.CurveLemmas.{purged_by, purged_kept}
use Rattle.xl_curve.proofs.curve.Curve.drop_leaf.Goals as goal

pub remove_named-requires : goal.remove_named-requires
remove_named-requires c = rw c.deref_mut.ensures.value c.self.invariant

pub invariant_of-self : goal.invariant_of-self
invariant_of-self c =
    let i = c.self.inside in
    let same : length i.stacks.items ≡ i.stacks.len = omega (arith, c.deref_mut.ensures.len, ap length c.deref_mut.ensures.value) in
    purged_kept i.stacks.items c.remove_named.new.stacks i.stacks.len (is_leaf c.args.space c.args.first c.args.order) same (rw c.deref_mut.ensures.value at c.remove_named.ensures) c.self.invariant

pub returns : goal.returns
returns c =
    let i = c.self.inside in
    let same : length i.stacks.items ≡ i.stacks.len = omega (arith, c.deref_mut.ensures.len, ap length c.deref_mut.ensures.value) in
    rw (← c.self.view_is) (purged_by i.stacks.items c.remove_named.new.stacks i.stacks.len (is_leaf c.args.space c.args.first c.args.order) same (rw c.deref_mut.ensures.value at c.remove_named.ensures) i.counts i.lookups)
