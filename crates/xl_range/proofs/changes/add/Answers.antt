use Rattle.xl_range.proofs.StepLemmas.{insert-clear, insert-done}
use Rattle.xl_range.proofs.changes.add.Goals as goal

pub put_within-requires-clause-clear : goal.put_within-requires-clause-clear
put_within-requires-clause-clear c = insert-clear c.args.ranges c.args.treap.now.seen c.args.leaf c.requires.whole c.requires.valid c.requires.free

pub returns : goal.returns
returns c =
    insert-done c.args.ranges c.args.treap.now.seen c.put_within.new.treap.seen c.args.leaf c.put_within.result c.requires.whole c.requires.valid c.requires.free c.put_within.ensures.test c.put_within.ensures.made c.put_within.ensures.same
