use Rattle.xl_array.proofs.Common.{◌∙◌, ap, is_some, sym}
use Rattle.xl_array.proofs.SmallLemmas.{hit-small}
use Rattle.xl_array.proofs.array.Array.hits.Goals as goal

pub returns-else-large : goal.returns-else-large
returns-else-large g c =
    c.if-large.false ∙ sym c.if-has.false ∙ c.has.ensures
    ∙ ap is_some (sym (hit-small c.args.self.now c.args.space c.args.page (c.requires.smalls c.if-large.false)))
