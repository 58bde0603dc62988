use Rattle.xl_chain.proofs.Common.{◌∙◌, ap, ChainShape}
use Rattle.xl_chain.proofs.IndexLemmas.{index-none}
use Rattle.xl_chain.proofs.places.open_places.Goals as goal

pub returns : goal.returns
returns g c =
    index-none c.args.entries.now c.in_ok-open.field-0 c.requires c.in_ok-open.ensures.held
    (c.in_ok-open.ensures.entries ∙ ap (λ (s : ChainShape). s.entries) c.shape-shape.ensures.is) c.words_read_back.ensures.places
