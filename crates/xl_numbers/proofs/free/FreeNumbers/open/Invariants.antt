use Rattle.xl_numbers.proofs.Common.{◌++◌, ◌-◌, ◌≡◌, false, replicate, true}
use Rattle.xl_numbers.proofs.free.FreeNumbers.open.Given as goal

abbrev pub invariant-given : goal.invariant-given
invariant-given l = l.numbers ≡ replicate l.number true ++ replicate (l.count - l.number) false
