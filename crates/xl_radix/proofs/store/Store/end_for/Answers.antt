use Rattle.xl_radix.proofs.LookLemmas.{is-new}
use Rattle.xl_radix.proofs.store.Store.end_for.Goals as goal

pub returns-clause-new : goal.returns-clause-new
returns-clause-new g c =
    let valid = rw (← c.self.view_is) at c.requires.valid in
    let free = rw (← c.self.view_is) at c.requires.free in
    rw (← c.self.view_is) (is-new g.row.LEVELS _ c.args.leaf.now _ _ _ _ c.self.invariant valid free)
