use Rattle.xl_numbers.proofs.Common.{rules}
use Rattle.xl_numbers.proofs.BitLemmas.{first-bit}
use Rattle.xl_numbers.proofs.bits.first_bit.Goals as goal

pub returns : goal.returns
returns c = first-bit c.args.words.now c.args.at c.requires.first (search rules)
