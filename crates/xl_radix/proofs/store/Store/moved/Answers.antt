use Rattle.xl_radix.proofs.Common.{◌∙◌, ◌≡◌, IsMove, Leaf, lit<, read_back, same_Some, subst, sym}
use Rattle.xl_radix.proofs.PermLemmas.{named-page}
use Rattle.xl_radix.proofs.ShiftLemmas.{at_block, moves, named-at-page}
use Rattle.xl_radix.proofs.store.Store.moved.Goals as goal

pub leaf_at-requires : goal.leaf_at-requires
leaf_at-requires g c =
    let name = rw (← c.self.view_is) at c.requires.named in
    let p = named-page g.row.LEVELS _ c.args.space c.args.first c.args.order _ _ _ _ c.self.invariant name in
    (lit< tt, (c.requires.exact, (rw (← c.self.view_is) p.0, p.1)))

pub unreachable-requires : goal.unreachable-requires
unreachable-requires g c =
    let name = rw (← c.self.view_is) at c.requires.named in
    let page = rw (← c.self.view_is) at c.leaf_at.ensures in
    let found = named-at-page g.row.LEVELS _ c.args.space c.args.first c.args.order _ c.self.invariant.mapping name in
    c.in_default.not-Some found.0 (page ∙ found.2)

pub returns : goal.returns
returns g c =
    let name = rw (← c.self.view_is) at c.requires.named in
    let page = rw (← c.self.view_is) at c.leaf_at.ensures in
    let found = named-at-page g.row.LEVELS _ c.args.space c.args.first c.args.order _ c.self.invariant.mapping name in
    let same : found.0 ≡ c.in-Some.old = same_Some _ _ (sym (page ∙ found.2) ∙ c.in-Some.is) in
    rw (← c.self.view_is) (subst (λ (v : Leaf). IsMove g.row.LEVELS c.self.inside.spaces c.args.space c.args.first c.args.to c.args.order (at_block c.args.space c.args.to c.args.order v) (read_back c.self.inside.numbers c.self.inside.words) c.self.inside.numbers) same
    (moves g.row.LEVELS _ c.args.space c.args.first c.args.to c.args.order found.0 _ _ _ _ c.self.invariant found.1 (rw (← c.self.view_is) at c.requires.block) (rw (← c.self.view_is) at c.requires.free)))
