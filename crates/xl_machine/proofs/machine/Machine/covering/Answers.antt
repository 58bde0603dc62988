use Rattle.xl_machine.proofs.Common.{◌≡◌, IfSome, IsFit, Leaf, None, Option, Some}
use Rattle.xl_machine.proofs.Accesses.{page_in, walked_fit}
use Rattle.xl_machine.proofs.machine.Machine.covering.Goals as goal

each_fit : (o m : Option Leaf) → o ≡ m → ((leaf : Leaf) → Some leaf ≡ m → IsFit leaf) → IfSome o IsFit
each_fit None m e fit = tt
each_fit (Some leaf) m e fit = fit leaf e

pub leaf_at-requires : goal.leaf_at-requires
leaf_at-requires g c = page_in c.self.invariant.served c.page_of-page.result c.args.va (rw c.self.invariant.span_is at c.page_of-page.ensures)

pub returns-clause-fit : goal.returns-clause-fit
returns-clause-fit g c = each_fit c.leaf_at.result _ c.leaf_at.ensures (λ leaf e. walked_fit c.self.invariant.served c.page_of-page.result leaf e)
