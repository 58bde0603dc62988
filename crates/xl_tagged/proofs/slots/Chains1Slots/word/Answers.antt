use Rattle.xl_tagged.proofs.Common.{◌∙◌, ap, word_found}
use Rattle.xl_tagged.proofs.SearchLemmas.{found-one}
use Rattle.xl_tagged.proofs.slots.Chains1Slots.word.Goals as goal

pub returns : goal.returns
returns c =
    let a = c.args in
    found-one a.space a.page c.tag_of.result c.word_of.result a.order a.self.now.held c.tag_of.ensures (c.word_of.ensures ∙ ap word_found c.look.ensures)
