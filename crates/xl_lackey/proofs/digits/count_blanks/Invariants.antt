use Rattle.xl_lackey.proofs.Common.{◌≡◌, after, drop, is_blank}
use Rattle.xl_lackey.proofs.digits.count_blanks.Given as goal

abbrev pub invariant-loop-at : goal.invariant-loop-at
invariant-loop-at l = after is_blank (drop l.at l.text) ≡ after is_blank l.text
