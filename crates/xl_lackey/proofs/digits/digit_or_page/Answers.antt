use Rattle.xl_lackey.proofs.Common.{arith}
use Rattle.xl_lackey.proofs.TableLemmas.{digit_most, table_value}
use Rattle.xl_lackey.proofs.digits.digit_or_page.Goals as goal

pub returns-clause-value : goal.returns-clause-value
returns-clause-value c = table_value c.args.byte (omega (arith, c.ranges.byte.fits))

pub returns-clause-bound : goal.returns-clause-bound
returns-clause-bound c = omega (arith, table_value c.args.byte (omega (arith, c.ranges.byte.fits)), digit_most c.args.byte)
