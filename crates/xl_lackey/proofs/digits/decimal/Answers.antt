use Rattle.xl_lackey.proofs.Common.{arith}
use Rattle.xl_lackey.proofs.AddressLemmas.{decimal_small}
use Rattle.xl_lackey.proofs.digits.decimal.Goals as goal

pub overflow_mul-value : goal.overflow_mul-value
overflow_mul-value c = omega (arith, decimal_small c.loop-at.at c.loop-at.value (omega arith) c.loop-at.invariant.small)

pub overflow_add-value : goal.overflow_add-value
overflow_add-value c = omega (arith, c.is_ascii_digit.ensures.value, decimal_small c.loop-at.at c.loop-at.value (omega arith) c.loop-at.invariant.small)
