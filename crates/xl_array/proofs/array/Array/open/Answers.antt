use Rattle.xl_array.proofs.FillLemmas.{opened, opened_kept}
use Rattle.xl_array.proofs.array.Array.open.Goals as goal

pub invariant_of-result : goal.invariant_of-result
invariant_of-result g c = rw c.of.ensures (opened_kept c.args.spec c.in_ok-sets.sets g.row.W c.requires.sets c.requires.width c.requires.some c.requires.most c.in_ok-sets.ensures)

pub returns : goal.returns
returns g c = rw c.of.ensures (opened c.args.spec c.in_ok-sets.sets c.in_ok-sets.ensures)
