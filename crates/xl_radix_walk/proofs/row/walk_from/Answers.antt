use Rattle.xl_radix_walk.proofs.Common.{small_leaf}
use Rattle.xl_radix_walk.proofs.WalkedLemmas.{straight-walked}
use Rattle.xl_radix_walk.proofs.row.walk_from.Goals as goal

pub returns-in-Some-clause-walked : goal.returns-in-Some-clause-walked
returns-in-Some-clause-walked g c =
    straight-walked g.row.LEVELS c.args.from.level c.args.from.node c.args.space c.args.page (small_leaf c.args.space c.args.page c.in-Some.word) c.args.radix.now c.straight.new.radix c.args.caches.now c.words_read_back.ensures c.requires.node
    c.in-Some.ensures.some (c.fills_none.ensures c.if-fills_none.true)
