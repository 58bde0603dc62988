use Rattle.xl_report.proofs.Common.{◌<◌, ◌^◌, arith, length-decimal-le, rules}
use Rattle.xl_report.proofs.SizeLemmas.{four_more, one_digit}
use Rattle.xl_report.proofs.size.digits.Goals as goal

pub returns-then-n-lt10-clause-size : goal.returns-then-n-lt10-clause-size
returns-then-n-lt10-clause-size c = one_digit c.args.n c.if-n-lt10.true

pub overflow_add-last : goal.overflow_add-last
overflow_add-last c =
    let most = length-decimal-le 20 c.args.n (omega arith) (omega (arith, c.ranges.n.fits)) c.ranges.n.fits in
    omega (arith, c.loop-left.invariant)

pub loop-left-preserved : goal.loop-left-preserved
loop-left-preserved c =
    let small : c.loop-left.left < 2 ^ 64 = search rules in
    let more = four_more c.loop-left.left (omega (arith, c.loop-left-test.true)) small in
    omega (arith, c.loop-left.invariant)

pub overflow_add-result : goal.overflow_add-result
overflow_add-result c =
    let most = length-decimal-le 20 c.args.n (omega arith) (omega (arith, c.ranges.n.fits)) c.ranges.n.fits in
    omega (arith, c.loop-left.invariant, c.few_digits.ensures)

pub returns-clause-most : goal.returns-clause-most
returns-clause-most c =
    let most = length-decimal-le 20 c.args.n (omega arith) (omega (arith, c.ranges.n.fits)) c.ranges.n.fits in
    omega (arith, c.loop-left.invariant, c.few_digits.ensures)
