use Rattle.xl_hashed.proofs.Common.{◌∙◌, ◌≡◌, ap, arith, ChainState, entry-held, given_word, IsSet, lit<, not-held, One, set-slot, subst, sym, values_under, word-first, word_at, word_found}
use Rattle.xl_list_lemmas.proofs.MemberLemmas.{both}
use Rattle.xl_tagged.proofs.ChainLemmas.{found-under, IsUnderTag}
use Rattle.xl_hashed.proofs.slots.give.Goals as goal

pub set_value-requires : goal.set_value-requires
set_value-requires c =
    let d : ChainState = c.args.chains.now in
    let u : IsUnderTag c.args.tag d.held c.in-Found.entry c.in-Found.value = found-under c.args.tag d.held c.in-Found.entry c.in-Found.value (sym c.look.ensures ∙ c.in-Found.is) in
    (lit< tt, (entry-held c.args.tag c.in-Found.entry c.in-Found.value d.held u, lit< tt))

pub unreachable-requires : goal.unreachable-requires
unreachable-requires c =
    both _ c.requires.held (not-held c.args.tag c.args.chains.now.held (λ e v h. c.in_default.not-Found e v (c.look.ensures ∙ h)))

pub returns : goal.returns
returns c =
    let d : ChainState = c.args.chains.now in
    let u : IsUnderTag c.args.tag d.held c.in-Found.entry c.in-Found.value = found-under c.args.tag d.held c.in-Found.entry c.in-Found.value (sym c.look.ensures ∙ c.in-Found.is) in
    let value : c.in-Found.value ≡ word_at One (values_under d.held) c.args.tag 0 = ap word_found (sym c.in-Found.is) ∙ ap word_found c.look.ensures ∙ word-first c.args.tag d.held in
    let word : c.give_perm.result ≡ given_word c.args.perm (word_at One (values_under d.held) c.args.tag 0) = c.give_perm.ensures ∙ ap (given_word c.args.perm) value in
    subst (λ w. IsSet One c.args.tag 0 w d c.set_value.new.self) word
    (set-slot One c.args.tag 0 c.give_perm.result c.in-Found.entry c.in-Found.value d c.set_value.new.self c.words_read_back.ensures.single u
    c.set_value.ensures.held c.set_value.ensures.shape c.set_value.ensures.loads (omega arith) c.requires.sized c.requires.within)
