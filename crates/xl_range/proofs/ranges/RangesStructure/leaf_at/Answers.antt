use Rattle.xl_range.proofs.Common.{◌∙◌, ap, leaf_at_page, leaf_by, row_table, Some, sym, TableState}
use Rattle.xl_range.proofs.FindLemmas.{found-at, leaf-found}
use Rattle.xl_range.proofs.ranges.RangesStructure.leaf_at.Goals as goal

pub leaf_in-requires : goal.leaf_in-requires
leaf_in-requires c =
    found-at c.args.space c.args.page c.self.inside.treap.seen.kept c.in-Some.range c.self.invariant.whole.held (sym c.find.ensures ∙ c.in-Some.is)

pub returns-in-Some : goal.returns-in-Some
returns-in-Some c =
    ap Some c.leaf_in.ensures ∙ ap (leaf_by c.args.page) (sym c.in-Some.is ∙ c.find.ensures)
    ∙ leaf-found c.args.space c.args.page c.self.inside.treap.seen.kept c.self.invariant.whole.held
    ∙ ap (λ (t : TableState). leaf_at_page c.args.space c.args.page t.leaves) (ap row_table c.self.view_is)

pub returns-in-None : goal.returns-in-None
returns-in-None c =
    ap (leaf_by c.args.page) (sym c.in-None.is ∙ c.find.ensures)
    ∙ leaf-found c.args.space c.args.page c.self.inside.treap.seen.kept c.self.invariant.whole.held
    ∙ ap (λ (t : TableState). leaf_at_page c.args.space c.args.page t.leaves) (ap row_table c.self.view_is)
