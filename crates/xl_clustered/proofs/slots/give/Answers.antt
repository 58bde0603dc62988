use Rattle.xl_clustered.proofs.Common.{◌<◌, ◌∙◌, ◌≡◌, absent-word, ap, arith, ChainState, entry-held, found-under, found_of, given_word, held_with, IsSet, lit<, not-held, Sixteen, slot-value, subst, sym, values_under, word_at}
use Rattle.xl_clustered.proofs.BlockLemmas.{found-count, give-count, given-some, IsWrote, wrote, wrote-blocks, wrote-set}
use Rattle.xl_chain.specs.declared.shape.Seek.TheVariants as seek
use Rattle.xl_clustered.proofs.slots.give.Goals as goal

pub value-word-requires : goal.value-word-requires
value-word-requires c =
    let d : ChainState = c.args.chains.now in
    let f : found_of (held_with c.args.tag d.held) ≡ seek.Found c.in-Found.entry c.in-Found.value = sym c.look.ensures ∙ c.in-Found.is in
    (lit< tt, (entry-held c.args.tag c.in-Found.entry c.in-Found.value d.held (found-under c.args.tag d.held c.in-Found.entry c.in-Found.value f), omega (arith, c.requires.slot)))

pub rewrite-requires-clause-held : goal.rewrite-requires-clause-held
rewrite-requires-clause-held c =
    let d : ChainState = c.args.chains.now in
    let f : found_of (held_with c.args.tag d.held) ≡ seek.Found c.in-Found.entry c.in-Found.value = sym c.look.ensures ∙ c.in-Found.is in
    entry-held c.args.tag c.in-Found.entry c.in-Found.value d.held (found-under c.args.tag d.held c.in-Found.entry c.in-Found.value f)

pub unreachable-requires : goal.unreachable-requires
unreachable-requires c =
    let d : ChainState = c.args.chains.now in
    c.requires.used (absent-word c.args.tag c.args.slot d.held (not-held c.args.tag d.held (λ e v h. c.in_default.not-Found e v (c.look.ensures ∙ h))))

pub returns : goal.returns
returns c =
    let d : ChainState = c.args.chains.now in
    let v = c.in-Found.value in
    let f : found_of (held_with c.args.tag d.held) ≡ seek.Found c.in-Found.entry v = sym c.look.ensures ∙ c.in-Found.is in
    let w : IsWrote c.args.tag v c.args.slot c.give_perm.result d c.rewrite.new.chains =
    wrote c.args.tag c.in-Found.entry v v c.args.slot c.give_perm.result d c.rewrite.new.chains c.words_read_back.ensures.single (found-under c.args.tag d.held c.in-Found.entry v f)
    c.rewrite.ensures.held c.rewrite.ensures.shape c.rewrite.ensures.loads c.requires.slot c.requires.sized c.requires.within in
    let word : c.value-word.result ≡ word_at Sixteen (values_under d.held) c.args.tag c.args.slot = c.value-word.ensures ∙ slot-value c.args.tag c.in-Found.entry v c.args.slot d.held c.words_read_back.ensures.single f in
    let given : c.give_perm.result ≡ given_word c.args.perm (word_at Sixteen (values_under d.held) c.args.tag c.args.slot) = c.give_perm.ensures ∙ ap (given_word c.args.perm) word in
    let some : 0 < c.give_perm.result = subst (λ n. 0 < n) (sym c.give_perm.ensures) (given-some c.args.perm c.value-word.result) in
    record {
      given = subst (λ n. IsSet Sixteen c.args.tag c.args.slot n d c.rewrite.new.chains) given (wrote-set c.args.tag v c.args.slot c.give_perm.result d c.rewrite.new.chains w);
      blocks = wrote-blocks c.args.tag v c.args.slot c.give_perm.result d c.rewrite.new.chains w c.requires.blocks
          (give-count c.args.tag v c.args.slot c.give_perm.result d c.rewrite.new.chains w c.requires.slot some c.requires.used (found-count c.args.tag c.in-Found.entry v d.held c.requires.blocks f));
    }
