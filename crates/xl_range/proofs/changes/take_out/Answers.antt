use Rattle.xl_range.proofs.StepLemmas.{remove-done}
use Rattle.xl_range.proofs.changes.take_out.Goals as goal

pub returns : goal.returns
returns c =
    remove-done c.args.space c.args.first c.args.order c.args.ranges c.args.treap.now.seen c.cut_within.new.treap.seen c.range_with-range.result c.cut_within.result c.requires.whole c.range_with-range.ensures c.cut_within.ensures.test c.cut_within.ensures.made c.cut_within.ensures.same
