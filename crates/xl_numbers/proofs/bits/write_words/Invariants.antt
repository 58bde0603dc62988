use Rattle.xl_numbers.proofs.Common.{AreWords}
use Rattle.xl_numbers.proofs.bits.write_words.Given as goal

abbrev pub invariant-loop-i : goal.invariant-loop-i
invariant-loop-i l = AreWords l.fn.words l.words l.first l.i l.word
