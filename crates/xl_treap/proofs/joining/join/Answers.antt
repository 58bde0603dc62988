use Rattle.xl_treap.proofs.Common.{length}
use Rattle.xl_treap.proofs.RiseLemmas.{can-rise}
use Rattle.xl_treap.proofs.joining.join.Goals as goal

pub rise-requires : goal.rise-requires
rise-requires g c =
    let w = c.merge_down-spine.result in
    can-rise c.args.words.now c.merge_down-spine.new.path c.args.low c.args.high (length c.args.path.now) c.args.key w.depth w.at g.pair c.requires.0 c.merge_down-spine.ensures c.requires.1
