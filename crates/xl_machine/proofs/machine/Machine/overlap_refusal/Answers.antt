use Rattle.xl_machine.proofs.Common.{◌<◌, row_of}
use Rattle.xl_machine.proofs.RefusalLemmas.{block-in}
use Rattle.xl_machine.proofs.machine.Machine.overlap_refusal.Goals as goal

pub meets-requires : goal.meets-requires
meets-requires g c =
    let small : c.args.space < (row_of c.self.inside.row).spaces = rw (← c.self.view_is) at c.requires.space in
    rw c.page_of.ensures (block-in (row_of c.self.inside.row) (g.S.Structure.table c.self.inside.table) c.args.space c.args.va c.args.order c.self.invariant.served.fits small c.requires.aligned)
