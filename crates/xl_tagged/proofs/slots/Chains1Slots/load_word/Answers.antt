use Rattle.xl_tagged.proofs.Common.{◌∙◌, ap, ChainState, word_found}
use Rattle.xl_tagged.proofs.SearchLemmas.{found-one, loads-one}
use Rattle.xl_tagged.proofs.slots.Chains1Slots.load_word.Goals as goal

pub returns-clause-word : goal.returns-clause-word
returns-clause-word c =
    let a = c.args in
    found-one a.space a.page c.tag_of.result c.word_of.result a.order a.self.now.held c.tag_of.ensures (c.word_of.ensures ∙ ap word_found c.probe.ensures.end)

pub returns-clause-after : goal.returns-clause-after
returns-clause-after c =
    let a = c.args in
    let d : ChainState = a.self.now in
    c.probe.ensures.after ∙ ap (λ n. let r : ChainState = record d { loads = n } in r) (loads-one a.space a.page c.tag_of.result a.order d c.tag_of.ensures)
