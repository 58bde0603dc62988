use Rattle.xl_lackey.proofs.Common.{◌<◌, ◌≤◌, arith, nat_tests}
use Rattle.xl_lackey.proofs.TableLemmas.{digit_read, digit_refused}
use Rattle.xl_lackey.proofs.digits.hex_digit.Goals as goal

pub returns-then-value-lt16-clause-value : goal.returns-then-value-lt16-clause-value
returns-then-value-lt16-clause-value c =
    let small : c.digit_or_page-value.result < 4096 = grind (arith, nat_tests) in
    digit_read c.args.byte c.digit_or_page-value.result c.digit_or_page-value.ensures.value small

pub returns-else-value-lt16-clause-value : goal.returns-else-value-lt16-clause-value
returns-else-value-lt16-clause-value c =
    let large : 16 ≤ c.digit_or_page-value.result = grind (arith, nat_tests) in
    digit_refused c.args.byte c.digit_or_page-value.result c.digit_or_page-value.ensures.value large
