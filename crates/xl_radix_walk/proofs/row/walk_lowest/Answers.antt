use Rattle.xl_radix_walk.proofs.Common.{page-low}
use Rattle.xl_radix_walk.proofs.LowestLemmas.{walk-none, walk-some}
use Rattle.xl_radix_walk.proofs.row.walk_lowest.Goals as goal

pub look_lowest-requires : goal.look_lowest-requires
look_lowest-requires g c = record { page = page-low g.row.LEVELS c.args.page c.requires.row.low c.requires.page.page_in }

pub returns-clause-some : goal.returns-clause-some
returns-clause-some g c = walk-some g.row.LEVELS c.args.space c.args.page c.args.radix.now c.args.caches.now c.look_lowest.new.self c.in_ok-node.node c.words_read_back.ensures c.requires.page c.requires.row c.in_ok-node.ensures.some c.straight.new.radix c.args.kind c.straight.result c.straight.ensures.some c.straight.ensures.allows

pub returns-clause-none : goal.returns-clause-none
returns-clause-none g c = walk-none g.row.LEVELS c.args.space c.args.page c.args.radix.now c.args.caches.now c.look_lowest.new.self c.in_ok-node.node c.words_read_back.ensures c.requires.page c.requires.row c.in_ok-node.ensures.some c.straight.new.radix c.straight.result c.straight.ensures.none
