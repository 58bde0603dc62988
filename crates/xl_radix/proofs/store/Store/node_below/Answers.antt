use Rattle.xl_radix.proofs.Common.{arith, Pte, read_back, subst, sym, up}
use Rattle.xl_radix.proofs.SlotLemmas.{pointer-low, Says}
use Rattle.xl_radix.proofs.StepLemmas.{next-at_node, read-says, stops}
use Rattle.xl_radix.proofs.store.Store.node_below.Goals as goal

pub unreachable-requires : goal.unreachable-requires
unreachable-requires g c =
    let at = rw (← c.self.view_is) at c.requires.at in
    let exact = rw (← c.self.view_is) at c.requires.exact in
    let needed = rw (← c.self.view_is) at c.requires.needed in
    let says = read-says g.row.LEVELS _ c.args.space c.args.page c.args.above.level c.args.above.node c.index_of.result c.get-word.result _ _ _ _ c.self.invariant at c.requires.high c.index_of.ensures.value c.get-word.ensures in
    let h = subst (λ (w : Pte). Says w c.args.space c.args.above.level (up c.args.above.level c.args.page) (read_back c.self.inside.numbers c.self.inside.words) c.self.inside.numbers) (sym c.decode.ensures.value) says in
    c.self.invariant.image.full c.args.space c.args.above.level (up c.args.above.level c.args.page) needed (let h = c.requires.high in omega arith) (stops g.row.LEVELS _ c.args.space c.args.above.level (up c.args.above.level c.args.page) c.decode.result _ _ c.requires.high c.self.invariant.mapping exact h c.in_default.not-Pointer)

pub returns : goal.returns
returns g c =
    let at = rw (← c.self.view_is) at c.requires.at in
    let says = read-says g.row.LEVELS _ c.args.space c.args.page c.args.above.level c.args.above.node c.index_of.result c.get-word.result _ _ _ _ c.self.invariant at c.requires.high c.index_of.ensures.value c.get-word.ensures in
    let h = subst (λ (w : Pte). Says w c.args.space c.args.above.level (up c.args.above.level c.args.page) (read_back c.self.inside.numbers c.self.inside.words) c.self.inside.numbers) (sym c.in-Pointer.ensures.value) says in
    record {
      low = pointer-low c.args.space c.args.above.level (up c.args.above.level c.args.page) c.in-Pointer.node _ h.1;
      at = rw (← c.self.view_is) (next-at_node c.args.space c.args.page c.args.above.level c.in-Pointer.node _ _ h);
      empty = rw (← c.self.view_is) h.0;
    }
