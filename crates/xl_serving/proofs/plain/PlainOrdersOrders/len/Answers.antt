use Rattle.xl_serving.proofs.Common.{◌∙◌, sym}
use Rattle.xl_serving.proofs.PlainLemmas.{length-steps}
use Rattle.xl_serving.proofs.plain.PlainOrdersOrders.len.Goals as goal

pub returns : goal.returns
returns c = c.len.ensures.value ∙ sym (length-steps _)
