use Rattle.xl_machine.proofs.Common.{◌<◌, arith, row_of}
use Rattle.xl_machine.proofs.Accesses.{page_small}
use Rattle.xl_machine.proofs.machine.Machine.leaf_named.Goals as goal

pub leaf_at-requires : goal.leaf_at-requires
leaf_at-requires g c =
    let small : c.args.space < (row_of c.self.inside.row).spaces = rw (← c.self.view_is) at c.requires in
    let p = page_small c.self.inside.row.mode c.args.va c.page_of-first.result c.page_of-first.ensures in
    let t = c.self.invariant.served.fits.spaces_in in
    let q = c.self.invariant.served.fits.pages_in in
    record { space_in = omega (arith, small, t); page_in = omega (arith, p.1, q) }
