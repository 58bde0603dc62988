use Rattle.xl_curve.proofs.Common.{◌≡◌, ap, arith, covers_anywhere, length}
use Rattle.xl_curve.proofs.CurveLemmas.{purged_by, purged_kept}
use Rattle.xl_curve.proofs.curve.Curve.drop_anywhere.Goals as goal

pub remove_anywhere-requires : goal.remove_anywhere-requires
remove_anywhere-requires c = rw c.deref_mut.ensures.value c.self.invariant

pub invariant_of-self : goal.invariant_of-self
invariant_of-self c =
    let i = c.self.inside in
    let same : length i.stacks.items ≡ i.stacks.len = omega (arith, c.deref_mut.ensures.len, ap length c.deref_mut.ensures.value) in
    purged_kept i.stacks.items c.remove_anywhere.new.stacks i.stacks.len (covers_anywhere c.args.page) same (rw c.deref_mut.ensures.value at c.remove_anywhere.ensures) c.self.invariant

pub returns : goal.returns
returns c =
    let i = c.self.inside in
    let same : length i.stacks.items ≡ i.stacks.len = omega (arith, c.deref_mut.ensures.len, ap length c.deref_mut.ensures.value) in
    rw (← c.self.view_is) (purged_by i.stacks.items c.remove_anywhere.new.stacks i.stacks.len (covers_anywhere c.args.page) same (rw c.deref_mut.ensures.value at c.remove_anywhere.ensures) i.counts i.lookups)
