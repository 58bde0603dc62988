use Rattle.xl_range.proofs.Common.{◌∙◌, sym}
use Rattle.xl_range.proofs.FindLemmas.{found-range, named-range, no-range}
use Rattle.xl_range.proofs.pieces.range_with.Goals as goal

pub find-requires-clause-space_in : goal.find-requires-clause-space_in
find-requires-clause-space_in c =
    (named-range c.args.space c.args.first c.args.order c.args.treap.now.seen.kept c.requires.held c.requires.named).space_in

pub find-requires-clause-page_in : goal.find-requires-clause-page_in
find-requires-clause-page_in c =
    (named-range c.args.space c.args.first c.args.order c.args.treap.now.seen.kept c.requires.held c.requires.named).first_in

pub unreachable-requires : goal.unreachable-requires
unreachable-requires c =
    no-range c.args.space c.args.first c.args.order c.args.treap.now.seen.kept c.requires.held c.requires.named (sym c.in-None.is ∙ c.find.ensures)

pub returns : goal.returns
returns c =
    found-range c.args.space c.args.first c.args.order c.args.treap.now.seen.kept c.in-Some.range c.requires.held c.requires.named (sym c.in-Some.is ∙ c.find.ensures)
