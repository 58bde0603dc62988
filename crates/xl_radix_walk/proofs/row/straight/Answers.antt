use Rattle.xl_radix_walk.proofs.Common.{arith, number-some, small_leaf, suc}
use Rattle.xl_radix_walk.proofs.WalkedLemmas.{straight-found, straight-path}
use Rattle.xl_radix_walk.proofs.row.straight.Goals as goal

pub quick_word-requires-clause-node : goal.quick_word-requires-clause-node
quick_word-requires-clause-node g c =
    let h = (number-some c.args._space (suc c.args.from.level) _ c.args.from.node _ c.requires.node).0 in
    let s = c.words_read_back.ensures.kept.small in
    omega arith

pub returns-clause-some : goal.returns-clause-some
returns-clause-some g c =
    straight-found g.row.LEVELS c.args.from.level c.args.from.node c.args._space c.args.page c.in_ok-word.word c.args.radix.now c.count_loads.new.self c.words_read_back.ensures c.requires.node
    (c.in_ok-word.ensures.finds _ (c.front.ensures.front, c.front.ensures.lines)) c.count_loads.ensures

pub returns-clause-path : goal.returns-clause-path
returns-clause-path g c =
    straight-path g.row.LEVELS c.args.from.level c.args.from.node c.args._space c.args.page (small_leaf c.args._space c.args.page c.in_ok-word.word) c.args.radix.now c.count_loads.new.self c.quick_word.new.path c.words_read_back.ensures c.requires.node
    (straight-found g.row.LEVELS c.args.from.level c.args.from.node c.args._space c.args.page c.in_ok-word.word c.args.radix.now c.count_loads.new.self c.words_read_back.ensures c.requires.node
    (c.in_ok-word.ensures.finds _ (c.front.ensures.front, c.front.ensures.lines)) c.count_loads.ensures)
    (c.in_ok-word.ensures.path _ (c.front.ensures.front, c.front.ensures.lines))
