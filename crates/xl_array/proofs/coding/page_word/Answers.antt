use Rattle.xl_array.proofs.Common.{refl}
use Rattle.xl_array.proofs.PageLemmas.{page_says}
use Rattle.xl_array.proofs.coding.page_word.Goals as goal

pub returns : goal.returns
returns c = λ space. page_says space c.args.page c.args.hit.word c.following_start.result _ c.args.hit.order c.following_start.ensures.is refl
