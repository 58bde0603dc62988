use Rattle.xl_script.proofs.Common.{◌-◌, ◌≡◌, slice_get, words_of}
use Rattle.xl_script.proofs.text.word.Given as goal

abbrev pub invariant-loop : goal.invariant-loop
invariant-loop l = slice_get (words_of l.rest) (l.i - l.counter) ≡ slice_get (words_of l.fn.line) l.i
