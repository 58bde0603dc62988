use Rattle.xl_lackey.proofs.Common.{arith}
use Rattle.xl_lackey.proofs.LaneLemmas.{word_small}
use Rattle.xl_lackey.proofs.digits.word.Goals as goal

pub returns : goal.returns
returns c = omega (arith, word_small c.args.bytes c.fits-bytes.0 c.fits-bytes.1)
