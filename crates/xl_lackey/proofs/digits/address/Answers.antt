use Rattle.xl_lackey.proofs.Common.{arith}
use Rattle.xl_lackey.proofs.AddressLemmas.{after_first, hex_small}
use Rattle.xl_lackey.proofs.digits.address.Goals as goal

pub loop-at-init : goal.loop-at-init
loop-at-init c = record {
  few = omega (arith, c.requires.few);
  small = c.requires.small;
  same = after_first c.args.text.now c.args.first c.args.count c.requires.value c.requires.within (omega (arith, c.requires.few));
}

pub overflow_mul-value : goal.overflow_mul-value
overflow_mul-value c = omega (arith, hex_small c.loop-at.at c.loop-at.value (omega arith) c.loop-at.invariant.small)

pub overflow_add-value : goal.overflow_add-value
overflow_add-value c = omega (arith, c.in_ok-digit.ensures.bound, hex_small c.loop-at.at c.loop-at.value (omega arith) c.loop-at.invariant.small)
