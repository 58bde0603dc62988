use Rattle.xl_radix.proofs.Common.{◌∙◌, ◌≡◌, ap, arith, IsAtNode, Leaf, leaf_named, level-low, level_of, lit<, read_back, same_Some, Some, subst, sym}
use Rattle.xl_radix.proofs.PermLemmas.{found-named, named-page, protected-is}
use Rattle.xl_radix.proofs.store.Store.set_perm.Goals as goal

pub end_of-node-requires : goal.end_of-node-requires
end_of-node-requires g c =
    let name = rw (← c.self.view_is) at c.requires.named in
    let p = named-page g.row.LEVELS _ c.args.space c.args.first c.args.order _ _ _ _ c.self.invariant name in
    let low = level-low c.args.order in
    let e = c.level.ensures in
    (lit< tt, (c.requires.exact, (rw (← c.self.view_is) p.0, (p.1, omega arith))))

pub leaf_at-requires : goal.leaf_at-requires
leaf_at-requires g c =
    let name = rw (← c.self.view_is) at c.requires.named in
    let p = named-page g.row.LEVELS _ c.args.space c.args.first c.args.order _ _ _ _ c.self.invariant name in
    (lit< tt, (c.requires.exact, (rw (← c.self.view_is) p.0, p.1)))

pub unreachable-requires : goal.unreachable-requires
unreachable-requires g c =
    let name = rw (← c.self.view_is) at c.requires.named in
    let end = rw (← c.self.view_is) at c.end_of-node.ensures in
    let page = rw (← c.self.view_is) at c.leaf_at.ensures in
    let f = found-named g.row.LEVELS _ c.args.space c.args.first c.end_of-node.result.level c.end_of-node.result.node c.args.order c.leaf_at.result _ _ _ _ c.self.invariant name (rw c.level.ensures at end) page in
    c.in_default.not-Some f.leaf f.at_page

pub write_perm-requires : goal.write_perm-requires
write_perm-requires g c =
    let name = rw (← c.self.view_is) at c.requires.named in
    let end = rw (← c.self.view_is) at c.end_of-node.ensures in
    let page = rw (← c.self.view_is) at c.leaf_at.ensures in
    let f = found-named g.row.LEVELS _ c.args.space c.args.first c.end_of-node.result.level c.end_of-node.result.node c.args.order c.leaf_at.result _ _ _ _ c.self.invariant name (rw c.level.ensures at end) page in
    let same : f.leaf ≡ c.in-Some.old = same_Some _ _ (sym f.at_page ∙ c.in-Some.is) in
    let own = subst (λ (v : Leaf). leaf_named v.space v.first v.order (read_back c.self.inside.numbers c.self.inside.words) ≡ Some v) same f.own in
    let at = subst (λ (v : Leaf). IsAtNode v.space v.first (level_of v.order) c.end_of-node.result.node c.self.inside.numbers) same f.at in
    (lit< tt, (c.requires.exact, (rw (← c.self.view_is) own, rw (← c.self.view_is) at)))

pub returns-clause-leaves : goal.returns-clause-leaves
returns-clause-leaves g c =
    let name = rw (← c.self.view_is) at c.requires.named in
    let end = rw (← c.self.view_is) at c.end_of-node.ensures in
    let page = rw (← c.self.view_is) at c.leaf_at.ensures in
    let f = found-named g.row.LEVELS _ c.args.space c.args.first c.end_of-node.result.level c.end_of-node.result.node c.args.order c.leaf_at.result _ _ _ _ c.self.invariant name (rw c.level.ensures at end) page in
    let same : f.leaf ≡ c.in-Some.old = same_Some _ _ (sym f.at_page ∙ c.in-Some.is) in
    let is = f.is ∙ ap Some same in
    let h = protected-is c.args.space c.args.first c.args.order c.args.perm c.in-Some.old _ is in
    c.write_perm.ensures.leaves ∙ rw (← c.self.view_is) (sym h)
