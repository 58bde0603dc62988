use Rattle.xl_clustered.proofs.Common.{◌+◌, ◌∙◌, ◌≡◌, arith, ChainState, entry-held, false, found-under, found_of, has_tag, held_with, IsUnderTag, lit<, not-held, sym, tag-held, tags_of, used_in, values_under}
use Rattle.xl_tagged.proofs.GroupLemmas.{full-of}
use Rattle.xl_clustered.proofs.BlockLemmas.{found-count, IsWrote, new-blocks, new-put, put-count, slots_of, wrote, wrote-blocks, wrote-put}
use Rattle.xl_clustered.proofs.UsedLemmas.{used-low}
use Rattle.xl_chain.specs.declared.shape.Seek.TheVariants as seek
use Rattle.xl_clustered.proofs.slots.put.Goals as goal

pub overflow_add-value : goal.overflow_add-value
overflow_add-value c =
    let d : ChainState = c.args.chains.now in
    let f : found_of (held_with c.args.tag d.held) ≡ seek.Found c.in-Found.entry c.in-Found.value = sym c.look.ensures ∙ c.in-Found.is in
    let is : c.in-Found.value ≡ used_in (slots_of (values_under d.held c.args.tag)) 16 = found-count c.args.tag c.in-Found.entry c.in-Found.value d.held c.requires.blocks f in
    let low = used-low (slots_of (values_under d.held c.args.tag)) 16 in
    omega arith

pub rewrite-requires-clause-held : goal.rewrite-requires-clause-held
rewrite-requires-clause-held c =
    let d : ChainState = c.args.chains.now in
    let f : found_of (held_with c.args.tag d.held) ≡ seek.Found c.in-Found.entry c.in-Found.value = sym c.look.ensures ∙ c.in-Found.is in
    entry-held c.args.tag c.in-Found.entry c.in-Found.value d.held (found-under c.args.tag d.held c.in-Found.entry c.in-Found.value f)

pub insert-requires : goal.insert-requires
insert-requires c = (lit< tt, (lit< tt, not-held c.args.tag c.args.chains.now.held (λ e v h. c.in_default.not-Found e v (c.look.ensures ∙ h))))

pub returns-in-Found-clause-ok : goal.returns-in-Found-clause-ok
returns-in-Found-clause-ok c =
    let d : ChainState = c.args.chains.now in
    let f : found_of (held_with c.args.tag d.held) ≡ seek.Found c.in-Found.entry c.in-Found.value = sym c.look.ensures ∙ c.in-Found.is in
    let u : IsUnderTag c.args.tag d.held c.in-Found.entry c.in-Found.value = found-under c.args.tag d.held c.in-Found.entry c.in-Found.value f in
    let w : IsWrote c.args.tag (c.in-Found.value + 1) c.args.slot c.args.word d c.rewrite.new.chains =
    wrote c.args.tag c.in-Found.entry c.in-Found.value (c.in-Found.value + 1) c.args.slot c.args.word d c.rewrite.new.chains c.words_read_back.ensures.single u
    c.rewrite.ensures.held c.rewrite.ensures.shape c.rewrite.ensures.loads c.requires.place.0 c.requires.sized c.requires.within in
    wrote-put c.args.tag (c.in-Found.value + 1) c.args.slot c.args.word d c.rewrite.new.chains w (tag-held c.args.tag c.in-Found.entry c.in-Found.value d.held u)

pub returns-in-Found-clause-blocks : goal.returns-in-Found-clause-blocks
returns-in-Found-clause-blocks c =
    let d : ChainState = c.args.chains.now in
    let f : found_of (held_with c.args.tag d.held) ≡ seek.Found c.in-Found.entry c.in-Found.value = sym c.look.ensures ∙ c.in-Found.is in
    let u : IsUnderTag c.args.tag d.held c.in-Found.entry c.in-Found.value = found-under c.args.tag d.held c.in-Found.entry c.in-Found.value f in
    let w : IsWrote c.args.tag (c.in-Found.value + 1) c.args.slot c.args.word d c.rewrite.new.chains =
    wrote c.args.tag c.in-Found.entry c.in-Found.value (c.in-Found.value + 1) c.args.slot c.args.word d c.rewrite.new.chains c.words_read_back.ensures.single u
    c.rewrite.ensures.held c.rewrite.ensures.shape c.rewrite.ensures.loads c.requires.place.0 c.requires.sized c.requires.within in
    wrote-blocks c.args.tag (c.in-Found.value + 1) c.args.slot c.args.word d c.rewrite.new.chains w c.requires.blocks
    (put-count c.args.tag c.in-Found.value c.args.slot c.args.word d c.rewrite.new.chains w c.requires.place.0 c.requires.place.1 c.requires.empty
    (found-count c.args.tag c.in-Found.entry c.in-Found.value d.held c.requires.blocks f))

pub returns-in_default : goal.returns-in_default
returns-in_default c =
    let d : ChainState = c.args.chains.now in
    let absent : has_tag (tags_of d.held) c.args.tag ≡ false = not-held c.args.tag d.held (λ e v h. c.in_default.not-Found e v (c.look.ensures ∙ h)) in
    record {
      ok = new-put c.args.tag c.args.slot c.args.word c.new_block.result c.insert.result d c.insert.new.self c.insert.ensures.ok absent c.requires.sized c.new_block.ensures;
      full = full-of c.args.tag c.insert.result d c.insert.ensures.full absent;
      same = c.insert.ensures.same;
      blocks = new-blocks c.args.tag c.args.slot c.args.word c.new_block.result c.insert.result d c.insert.new.self c.insert.ensures.ok c.insert.ensures.same absent c.requires.place.0 c.requires.place.1
          c.new_block.ensures c.requires.blocks c.requires.sized;
    }
