use Rattle.xl_way.proofs.Common.{◌∙◌, and_mask, ap, bit_and}
use Rattle.xl_way.proofs.places.masked.Goals as goal

pub returns : goal.returns
returns c = λ bits e. ap (bit_and c.args.hash) e ∙ and_mask c.args.hash bits
