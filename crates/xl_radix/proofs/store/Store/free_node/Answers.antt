use Rattle.xl_radix.proofs.Common.{◌%◌, refl, rules, up}
use Rattle.xl_radix.proofs.RemovalLemmas.{release-step}
use Rattle.xl_radix.proofs.store.Store.free_node.Goals as goal

pub overflow_sub-index_mut : goal.overflow_sub-index_mut
overflow_sub-index_mut g c =
    let at = rw (← c.self.view_is) at c.requires.at in
    let below = rw (← c.self.view_is) at c.requires.below in
    let empty = rw (← c.self.view_is) at c.requires.empty in
    let unused = rw (← c.self.view_is) at c.requires.unused in
    let step = release-step g.row.LEVELS _ c.args.space c.args.page c.args.above.level c.args.above.node c.args.child (up c.args.above.level c.args.page % 512) c.index_mut.result.now _ _ _ _ c.self.invariant c.requires.low c.requires.high at below empty unused refl c.index_mut.ensures.value in
    step.some

pub invariant_of-self : goal.invariant_of-self
invariant_of-self g c =
    let at = rw (← c.self.view_is) at c.requires.at in
    let below = rw (← c.self.view_is) at c.requires.below in
    let empty = rw (← c.self.view_is) at c.requires.empty in
    let unused = rw (← c.self.view_is) at c.requires.unused in
    let step = release-step g.row.LEVELS _ c.args.space c.args.page c.args.above.level c.args.above.node c.args.child c.index_of.result c.index_mut.result.now _ _ _ _ c.self.invariant c.requires.low c.requires.high at below empty unused c.index_of.ensures.value c.index_mut.ensures.value in
    rw (c.give.ensures, c.set.ensures) (rw step.back step.store)

pub returns : goal.returns
returns g c =
    let at = rw (← c.self.view_is) at c.requires.at in
    let below = rw (← c.self.view_is) at c.requires.below in
    let empty = rw (← c.self.view_is) at c.requires.empty in
    let unused = rw (← c.self.view_is) at c.requires.unused in
    let step = release-step g.row.LEVELS _ c.args.space c.args.page c.args.above.level c.args.above.node c.args.child c.index_of.result c.index_mut.result.now _ _ _ _ c.self.invariant c.requires.low c.requires.high at below empty unused c.index_of.ensures.value c.index_mut.ensures.value in
    let near = rw (← c.self.view_is) at c.requires.nearly in
    record {
      leaves = rw (c.give.ensures, c.set.ensures, ← c.self.view_is) step.back;
      spaces = search rules;
      taken = rw (c.give.ensures, ← c.self.view_is) step.taken;
      nearly = rw (c.give.ensures, c.set.ensures) (rw step.back (step.nearly near));
    }
