use Rattle.xl_range.proofs.Common.{arith}
use Rattle.xl_range.proofs.CutCallLemmas.{following-room}
use Rattle.xl_range.proofs.pieces.put_rest.Goals as goal

pub unreachable-requires : goal.unreachable-requires
unreachable-requires c = following-room c.args.pages c.args.rest c.args.treap.now.seen.kept c.args.treap.now.seen.nodes (omega arith) c.requires.room c.in-Err.ensures.full
