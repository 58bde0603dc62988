use Rattle.xl_clustered.proofs.Common.{◌-◌, ◌<◌, ◌∙◌, ◌≡◌, ◌≤◌, absent-word, arith, ChainState, entry-held, found-under, found_of, held_with, IsTaken, lit<, not-held, Sixteen, sym, tag-held, used_in, values_under}
use Rattle.xl_clustered.proofs.BlockLemmas.{found-count, gone-blocks, gone-taken, IsWrote, slots_of, take-count, wrote, wrote-blocks, wrote-taken}
use Rattle.xl_chain.specs.declared.shape.Seek.TheVariants as seek
use Rattle.xl_clustered.proofs.slots.take.Goals as goal

pub rewrite-requires-clause-held : goal.rewrite-requires-clause-held
rewrite-requires-clause-held c =
    let d : ChainState = c.args.chains.now in
    let f : found_of (held_with c.args.tag d.held) ≡ seek.Found c.in-Found.entry c.in-Found.value = sym c.look.ensures ∙ c.in-Found.is in
    entry-held c.args.tag c.in-Found.entry c.in-Found.value d.held (found-under c.args.tag d.held c.in-Found.entry c.in-Found.value f)

pub remove-requires : goal.remove-requires
remove-requires c =
    let d : ChainState = c.args.chains.now in
    let f : found_of (held_with c.args.tag d.held) ≡ seek.Found c.in-Found.entry c.in-Found.value = sym c.look.ensures ∙ c.in-Found.is in
    (lit< tt, tag-held c.args.tag c.in-Found.entry c.in-Found.value d.held (found-under c.args.tag d.held c.in-Found.entry c.in-Found.value f))

pub unreachable-requires : goal.unreachable-requires
unreachable-requires c =
    let d : ChainState = c.args.chains.now in
    c.requires.used (absent-word c.args.tag c.args.slot d.held (not-held c.args.tag d.held (λ e v h. c.in_default.not-Found e v (c.look.ensures ∙ h))))

pub returns-then-value-gt1 : goal.returns-then-value-gt1
returns-then-value-gt1 c =
    let d : ChainState = c.args.chains.now in
    let v = c.in-Found.value in
    let f : found_of (held_with c.args.tag d.held) ≡ seek.Found c.in-Found.entry v = sym c.look.ensures ∙ c.in-Found.is in
    let many : 1 < v = omega arith in
    let w : IsWrote c.args.tag (v - 1) c.args.slot 0 d c.rewrite.new.chains =
    wrote c.args.tag c.in-Found.entry v (v - 1) c.args.slot 0 d c.rewrite.new.chains c.words_read_back.ensures.single (found-under c.args.tag d.held c.in-Found.entry v f)
    c.rewrite.ensures.held c.rewrite.ensures.shape c.rewrite.ensures.loads c.requires.slot c.requires.sized c.requires.within in
    let is : v - 1 ≡ used_in (slots_of (values_under c.rewrite.new.chains.held c.args.tag)) 16 =
    take-count c.args.tag v c.args.slot d c.rewrite.new.chains w c.requires.slot c.requires.used many (found-count c.args.tag c.in-Found.entry v d.held c.requires.blocks f) in
    record {
      taken = wrote-taken c.args.tag (v - 1) c.args.slot d c.rewrite.new.chains w is (omega arith);
      blocks = wrote-blocks c.args.tag (v - 1) c.args.slot 0 d c.rewrite.new.chains w c.requires.blocks is;
    }

pub returns-else-value-gt1 : goal.returns-else-value-gt1
returns-else-value-gt1 c =
    let d : ChainState = c.args.chains.now in
    let v = c.in-Found.value in
    let f : found_of (held_with c.args.tag d.held) ≡ seek.Found c.in-Found.entry v = sym c.look.ensures ∙ c.in-Found.is in
    let few : v ≤ 1 = omega arith in
    let taken : IsTaken Sixteen c.args.tag c.args.slot d c.remove.new.self =
    gone-taken c.args.tag v c.args.slot d c.remove.new.self c.remove.ensures.held c.remove.ensures.shape c.remove.ensures.loads few (found-count c.args.tag c.in-Found.entry v d.held c.requires.blocks f)
    c.requires.slot c.requires.used c.requires.sized c.requires.within in
    record { taken = taken; blocks = gone-blocks c.args.tag c.args.slot d c.remove.new.self c.remove.ensures.held taken c.requires.blocks }
