use Rattle.xl_radix_walk.proofs.Common.{small_leaf}
use Rattle.xl_radix_walk.proofs.WalkedLemmas.{filling-walked}
use Rattle.xl_radix_walk.proofs.row.straight_filling.Goals as goal

pub returns-clause-some : goal.returns-clause-some
returns-clause-some g c =
    filling-walked g.row.LEVELS c.args.from.level c.args.space c.args.page (small_leaf c.args.space c.args.page c.in_ok-word.word) c.args.radix.now c.straight.new.radix c.args.caches.now c.fill.new.self c.straight.new.path c.words_read_back.ensures
    c.in_ok-word.ensures.some c.in_ok-word.ensures.path c.fill.ensures
