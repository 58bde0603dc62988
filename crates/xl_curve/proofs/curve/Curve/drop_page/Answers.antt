use Rattle.xl_curve.proofs.Common.{◌≡◌, ap, arith, covers, length}
use Rattle.xl_curve.proofs.CurveLemmas.{purged_by, purged_kept}
use Rattle.xl_curve.proofs.curve.Curve.drop_page.Goals as goal

pub remove_page-requires : goal.remove_page-requires
remove_page-requires c = rw c.deref_mut.ensures.value c.self.invariant

pub invariant_of-self : goal.invariant_of-self
invariant_of-self c =
    let i = c.self.inside in
    let same : length i.stacks.items ≡ i.stacks.len = omega (arith, c.deref_mut.ensures.len, ap length c.deref_mut.ensures.value) in
    purged_kept i.stacks.items c.remove_page.new.stacks i.stacks.len (covers c.args.space c.args.page) same (rw c.deref_mut.ensures.value at c.remove_page.ensures) c.self.invariant

pub returns : goal.returns
returns c =
    let i = c.self.inside in
    let same : length i.stacks.items ≡ i.stacks.len = omega (arith, c.deref_mut.ensures.len, ap length c.deref_mut.ensures.value) in
    rw (← c.self.view_is) (purged_by i.stacks.items c.remove_page.new.stacks i.stacks.len (covers c.args.space c.args.page) same (rw c.deref_mut.ensures.value at c.remove_page.ensures) i.counts i.lookups)
