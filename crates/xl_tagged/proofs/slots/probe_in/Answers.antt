use Rattle.xl_tagged.proofs.Common.{◌+◌, ◌∙◌, ◌≡◌, ap, arith, ChainState, false, found_of, has_tag, held_with, is_entry, list_any, lit<, loaded_more, sym, tags_of, value_of}
use Rattle.xl_tagged.proofs.ChainLemmas.{found-under}
use Rattle.xl_tagged.proofs.SearchLemmas.{absent-word, loads-absent, loads-found, slot-value}
use Rattle.xl_tagged.proofs.StepLemmas.{entry-held, not-held, tag-held}
use Rattle.xl_chain.specs.declared.shape.Seek.TheVariants as seek
use Rattle.xl_tagged.proofs.slots.probe_in.Goals as goal

pub load_value-requires : goal.load_value-requires
load_value-requires c =
    let d : ChainState = c.args.chains.now in
    let f : found_of (held_with c.args.tag d.held) ≡ seek.Found c.in-Found.entry c.in-Found.value = sym c.probe.ensures.end ∙ c.in-Found.is in (
      lit< tt,
      (
        ap (λ (q : ChainState). list_any (is_entry c.in-Found.entry) q.held) c.probe.ensures.after
            ∙ entry-held c.args.tag c.in-Found.entry c.in-Found.value d.held (found-under c.args.tag d.held c.in-Found.entry c.in-Found.value f),
        omega (arith, c.requires),
      ),
    )

pub returns-in-Found : goal.returns-in-Found
returns-in-Found c =
    let d : ChainState = c.args.chains.now in
    let f : found_of (held_with c.args.tag d.held) ≡ seek.Found c.in-Found.entry c.in-Found.value = sym c.probe.ensures.end ∙ c.in-Found.is in
    record {
      word = c.load_value.ensures.value ∙ ap (λ (q : ChainState). value_of c.in-Found.entry (c.args.slot + 1) q.held) c.probe.ensures.after
          ∙ slot-value c.args.tag c.in-Found.entry c.in-Found.value c.args.slot d.held c.words_read_back.ensures.single f;
      after = c.load_value.ensures.after ∙ ap (loaded_more 1) c.probe.ensures.after
          ∙ ap (λ n. let r : ChainState = record d { loads = n } in r) (loads-found c.args.tag d (tag-held c.args.tag c.in-Found.entry c.in-Found.value d.held (found-under c.args.tag d.held c.in-Found.entry c.in-Found.value f)));
    }

pub returns-in_default : goal.returns-in_default
returns-in_default c =
    let d : ChainState = c.args.chains.now in
    let absent : has_tag (tags_of d.held) c.args.tag ≡ false = not-held c.args.tag d.held (λ e v h. c.in_default.not-Found e v (c.probe.ensures.end ∙ h)) in
    record {
      word = sym (absent-word c.args.tag c.args.slot d.held absent);
      after = c.probe.ensures.after ∙ ap (λ n. let r : ChainState = record d { loads = n } in r) (loads-absent c.args.tag d absent);
    }
