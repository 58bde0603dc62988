use Rattle.xl_script.proofs.Common.{◌<◌, ◌^◌, ◌≡◌, drop, number_after, number_in}
use Rattle.xl_script.proofs.number.number.Given as goal

abbrev pub invariant-loop-digit : goal.invariant-loop-digit
invariant-loop-digit l = (number_after l.base l.n (drop l.digit-index l.digits) ≡ number_in l.base l.digits) × (l.n < 2 ^ 64)
