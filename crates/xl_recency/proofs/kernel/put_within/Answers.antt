use Rattle.xl_recency.proofs.Common.{◌∙◌, ap, arith, take}
use Rattle.xl_recency.proofs.FrontLemmas.{put-within}
use Rattle.xl_recency.proofs.kernel.put_within.Goals as goal

pub returns-then-width-le16 : goal.returns-then-width-le16
returns-then-width-le16 g c = ap (take c.args.width) c.put_in_front.ensures ∙ put-within c.args.width 15 c.args.item c.args.slots.now c.requires.some (omega arith)
