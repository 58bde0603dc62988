use Rattle.xl_chain.proofs.Common.{◌∙◌, ◌≡◌, ap, false, has_tag, is_some, known, None, sym, tags_of}
use Rattle.xl_chain.proofs.IndexLemmas.{none-found}
use Rattle.xl_chain.proofs.places.look_placed.Goals as goal

pub returns-in-None : goal.returns-in-None
returns-in-None g c =
    let a = c.args in
    let unknown : known a.places.now a.tag ≡ None = sym c.place_known.ensures ∙ c.in-None.is in
    let none : has_tag (tags_of a.entries.now.held) a.tag ≡ false = sym (c.words_read_back.ensures.places a.tag) ∙ ap is_some (sym (c.requires.each a.tag) ∙ unknown) in
    sym (none-found a.tag a.entries.now.held none)
