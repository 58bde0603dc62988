use Rattle.xl_radix.proofs.Common.{◌≡◌, arith, inl, inr, Pte, read_back, subst, sym, up}
use Rattle.xl_radix.proofs.PathLemmas.{ended}
use Rattle.xl_radix.proofs.SlotLemmas.{Says}
use Rattle.xl_radix.proofs.StepLemmas.{next-at_node, read-says, stops}
use Rattle.xl_radix.proofs.store.Store.end_of.Goals as goal

pub down-preserved : goal.down-preserved
down-preserved g c =
    let inv = rw (← c.self.view_is) at c.down.invariant in
    let says = read-says g.row.LEVELS _ c.args.space c.args.page c.down.level c.down.node c.index_of.result c.get.result _ _ _ _ c.self.invariant inv.at inv.level_in c.index_of.ensures.value c.get.ensures in
    let h = subst (λ (w : Pte). Says w c.args.space c.down.level (up c.down.level c.args.page) (read_back c.self.inside.numbers c.self.inside.words) c.self.inside.numbers) (sym c.in-Pointer.ensures.value) says in
    rw (← c.self.view_is) (record {
      least_in = omega arith;
      level_in = omega arith;
      at = next-at_node c.args.space c.args.page c.down.level c.in-Pointer.next _ _ h;
    })

pub returns-in_default : goal.returns-in_default
returns-in_default g c =
    let inv = rw (← c.self.view_is) at c.down.invariant in
    let exact = rw (← c.self.view_is) at c.requires.exact in
    let says = read-says g.row.LEVELS _ c.args.space c.args.page c.down.level c.down.node c.index_of.result c.get.result _ _ _ _ c.self.invariant inv.at inv.level_in c.index_of.ensures.value c.get.ensures in
    let h = subst (λ (w : Pte). Says w c.args.space c.down.level (up c.down.level c.args.page) (read_back c.self.inside.numbers c.self.inside.words) c.self.inside.numbers) (sym c.decode.ensures.value) says in
    let none = stops g.row.LEVELS _ c.args.space c.down.level (up c.down.level c.args.page) c.decode.result _ _ inv.level_in c.self.invariant.mapping exact h c.in_default.not-Pointer in
    rw (← c.self.view_is) (ended g.row.LEVELS _ c.args.space c.args.page c.args.least c.down.level c.down.node _ _ _ _ c.self.invariant inv.least_in inv.level_in inv.at (inr none))

pub returns : goal.returns
returns g c =
    let inv = rw (← c.self.view_is) at c.down.invariant in
    let e : c.down.level ≡ c.args.least = omega arith in
    rw (← c.self.view_is) (ended g.row.LEVELS _ c.args.space c.args.page c.args.least c.down.level c.down.node _ _ _ _ c.self.invariant inv.least_in inv.level_in inv.at (inl e))
