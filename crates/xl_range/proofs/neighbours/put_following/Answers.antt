use Rattle.xl_range.proofs.PutLemmas.{no-room}
use Rattle.xl_range.proofs.neighbours.put_following.Goals as goal

pub unreachable-requires : goal.unreachable-requires
unreachable-requires c = no-room c.args.prev c.args.range c.args.treap.now.seen.kept c.args.treap.now.seen.nodes c.in-None.is c.requires.room c.in-Err.ensures.full
