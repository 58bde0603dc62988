use Rattle.xl_curve.proofs.Common.{◌≡◌, ap, arith, length}
use Rattle.xl_curve.proofs.CurveLemmas.{purged_by, written}
use Rattle.xl_curve.proofs.curve.Curve.drop_where.Goals as goal

pub invariant_of-self : goal.invariant_of-self
invariant_of-self g c =
    let i = c.self.inside in
    let same : length c.remove_from_each.new.stacks ≡ i.stacks.len = omega (arith, c.remove_from_each.ensures.sets, c.deref_mut.ensures.len) in
    rw (written i.stacks.len c.remove_from_each.new.stacks i.stacks.items same) (c.remove_from_each.ensures.kept (rw c.deref_mut.ensures.value c.self.invariant))

pub returns : goal.returns
returns g c = λ q test.
    let i = c.self.inside in
    let same : length i.stacks.items ≡ i.stacks.len = omega (arith, c.deref_mut.ensures.len, ap length c.deref_mut.ensures.value) in
    rw (← c.self.view_is) (purged_by i.stacks.items c.remove_from_each.new.stacks i.stacks.len q same
    (rw c.deref_mut.ensures.value at (c.remove_from_each.ensures.removed q test)) i.counts i.lookups)
