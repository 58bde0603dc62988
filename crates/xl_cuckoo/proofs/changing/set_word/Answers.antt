use Rattle.xl_cuckoo.proofs.Common.{◌∙◌, shapes, sym}
use Rattle.xl_cuckoo.proofs.KeyLemmas.{held-at, reworded-is, some-held}
use Rattle.xl_cuckoo.proofs.changing.set_word.Goals as goal

pub set_word_at-requires-clause-held : goal.set_word_at-requires-clause-held
set_word_at-requires-clause-held c = held-at c.args.key c.in-Some.at c.args.ways.now (sym c.holder.ensures.is ∙ c.in-Some.is)

pub unreachable-requires : goal.unreachable-requires
unreachable-requires c = some-held c.args.key (shapes c.args.ways.now) c.requires.held (sym c.holder.ensures.is ∙ c.in-None.is)

pub returns : goal.returns
returns c =
    c.set_word_at.ensures
    ∙ reworded-is c.args.key c.args.word c.in-Some.at c.args.ways.now c.requires.once c.in-Some.ensures.inside
    (held-at c.args.key c.in-Some.at c.args.ways.now (sym c.holder.ensures.is ∙ c.in-Some.is))
