use Rattle.xl_cuckoo.proofs.Common.{◌∙◌, shapes, sym}
use Rattle.xl_cuckoo.proofs.KeyLemmas.{cleared-is, held-at, some-held}
use Rattle.xl_cuckoo.proofs.changing.remove.Goals as goal

pub clear_at-requires-clause-held : goal.clear_at-requires-clause-held
clear_at-requires-clause-held c = held-at c.args.key c.in-Some.at c.args.ways.now (sym c.holder.ensures.is ∙ c.in-Some.is)

pub unreachable-requires : goal.unreachable-requires
unreachable-requires c = some-held c.args.key (shapes c.args.ways.now) c.requires.held (sym c.holder.ensures.is ∙ c.in-None.is)

pub returns : goal.returns
returns c =
    c.clear_at.ensures
    ∙ cleared-is c.args.key c.in-Some.at c.args.ways.now c.requires.once c.in-Some.ensures.inside
    (held-at c.args.key c.in-Some.at c.args.ways.now (sym c.holder.ensures.is ∙ c.in-Some.is))
