use Rattle.xl_tagged.proofs.Common.{◌∙◌, ◌≡◌, arith, ChainState, found_of, held_with, lit<, sym}
use Rattle.xl_tagged.proofs.ChainLemmas.{found-under}
use Rattle.xl_tagged.proofs.SearchLemmas.{absent-word, slot-value}
use Rattle.xl_tagged.proofs.StepLemmas.{entry-held, not-held}
use Rattle.xl_chain.specs.declared.shape.Seek.TheVariants as seek
use Rattle.xl_tagged.proofs.slots.word_in.Goals as goal

pub value-requires : goal.value-requires
value-requires c =
    let d : ChainState = c.args.chains.now in
    let f : found_of (held_with c.args.tag d.held) ≡ seek.Found c.in-Found.entry c.in-Found.value = sym c.look.ensures ∙ c.in-Found.is in
    (lit< tt, (entry-held c.args.tag c.in-Found.entry c.in-Found.value d.held (found-under c.args.tag d.held c.in-Found.entry c.in-Found.value f), omega (arith, c.requires)))

pub returns-in-Found : goal.returns-in-Found
returns-in-Found c =
    let d : ChainState = c.args.chains.now in
    let f : found_of (held_with c.args.tag d.held) ≡ seek.Found c.in-Found.entry c.in-Found.value = sym c.look.ensures ∙ c.in-Found.is in
    c.value.ensures ∙ slot-value c.args.tag c.in-Found.entry c.in-Found.value c.args.slot d.held c.words_read_back.ensures.single f

pub returns-in_default : goal.returns-in_default
returns-in_default c =
    let d : ChainState = c.args.chains.now in
    sym (absent-word c.args.tag c.args.slot d.held (not-held c.args.tag d.held (λ e v h. c.in_default.not-Found e v (c.look.ensures ∙ h))))
