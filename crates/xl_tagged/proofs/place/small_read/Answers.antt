use Rattle.xl_tagged.proofs.SlotLemmas.{small-read}
use Rattle.xl_tagged.proofs.place.small_read.Goals as goal

pub returns : goal.returns
returns c = small-read c.args._space c.args._page c.args.word c.small_word.result c.small_word.ensures.some c.small_word.ensures.none
