use Rattle.xl_cuckoo_walk.proofs.Common.{◌||◌, ◌∙◌, ap, is_some, lit<, looked_from, sym, ways_in}
use Rattle.xl_cuckoo_walk.proofs.LookLemmas.{block-met, block-parts}
use Rattle.xl_cuckoo_walk.proofs.look.is_met.Goals as goal

pub has_smaller-requires : goal.has_smaller-requires
has_smaller-requires g c = (lit< tt, block-parts c.args.parts.now c.args.space c.args.first c.args.order c.requires.block)

pub look_from-requires : goal.look_from-requires
look_from-requires g c = (lit< tt, block-parts c.args.parts.now c.args.space c.args.first c.args.order c.requires.block)

pub returns-then-has_smaller : goal.returns-then-has_smaller
returns-then-has_smaller g c =
    c.if-has_smaller.true
    ∙ ap (λ t. t || is_some (looked_from c.args.order c.args.space c.args.first (ways_in c.args.parts.now))) (sym c.if-has_smaller.true ∙ c.has_smaller.ensures)
    ∙ block-met c.words_read_back.ensures c.args.parts.now c.requires.whole c.args.space c.args.first c.args.order c.requires.block

pub returns-else-has_smaller : goal.returns-else-has_smaller
returns-else-has_smaller g c =
    c.is_some.ensures ∙ ap is_some c.look_from.ensures
    ∙ ap (λ t. t || is_some (looked_from c.args.order c.args.space c.args.first (ways_in c.args.parts.now))) (sym c.if-has_smaller.false ∙ c.has_smaller.ensures)
    ∙ block-met c.words_read_back.ensures c.args.parts.now c.requires.whole c.args.space c.args.first c.args.order c.requires.block
