use Rattle.xl_radix_walk.proofs.Common.{lit<}
use Rattle.xl_radix_walk.proofs.WalkedLemmas.{uncached-start, uncached-walk}
use Rattle.xl_radix_walk.proofs.row.walk_uncached.Goals as goal

pub straight-requires : goal.straight-requires
straight-requires g c =
    let s = uncached-start g.row.LEVELS c.args.space c.args.page c.args.radix.now c.args.caches.now c.words_read_back.ensures c.requires.page c.requires.row (c.are_off.ensures c.if-not-are_off.false) in
    (lit< tt, (rw c.root.ensures s.number, rw c.root.ensures s.low))

pub returns-clause-some : goal.returns-clause-some
returns-clause-some g c =
    uncached-walk g.row.LEVELS c.args.space c.args.page c.args.radix.now c.args.caches.now c.words_read_back.ensures c.requires.page c.requires.row (c.are_off.ensures c.if-not-are_off.false)
    c.straight.new.radix c.args.kind c.straight.result (rw c.root.ensures at c.straight.ensures.some) c.straight.ensures.allows
