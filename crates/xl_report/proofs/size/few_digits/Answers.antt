use Rattle.xl_report.proofs.Common.{rules}
use Rattle.xl_report.proofs.SizeLemmas.{four_digits, one_digit, three_digits, two_digits}
use Rattle.xl_report.proofs.size.few_digits.Goals as goal

pub returns-then-n-lt10 : goal.returns-then-n-lt10
returns-then-n-lt10 c = one_digit c.args.n (search rules)

pub returns-else-n-lt10 : goal.returns-else-n-lt10
returns-else-n-lt10 c = two_digits c.args.n (search rules) (search rules)

pub returns-then-n-lt1000 : goal.returns-then-n-lt1000
returns-then-n-lt1000 c = three_digits c.args.n (search rules) (search rules)

pub returns-else-n-lt1000 : goal.returns-else-n-lt1000
returns-else-n-lt1000 c = four_digits c.args.n (search rules) (search rules)
