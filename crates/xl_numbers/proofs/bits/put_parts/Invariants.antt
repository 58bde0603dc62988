use Rattle.xl_numbers.proofs.Common.{◌*◌, AreWords, IsStack}
use Rattle.xl_numbers.proofs.bits.put_parts.Given as goal

abbrev pub invariant-loop-i : goal.invariant-loop-i
invariant-loop-i g l = IsStack l.low l.middle l.top × AreWords l.fn.low l.low (g.row.SIZE * l.first) (g.row.SIZE * l.i) l.word
