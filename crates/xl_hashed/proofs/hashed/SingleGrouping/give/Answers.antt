use Rattle.xl_hashed.proofs.Common.{◌∙◌, ap, has_tag, One, slot-one, sym, tag_of, tags_of, values_under, word_at}
use Rattle.xl_hashed.proofs.OneLemmas.{held-one}
use Rattle.xl_hashed.proofs.hashed.SingleGrouping.give.Goals as goal

pub give-requires-clause-held : goal.give-requires-clause-held
give-requires-clause-held c =
    let a = c.args in
    let hs = a.chains.now.held in
    let tag = tag_of 1 a.space a.order a.first in
    ap (has_tag (tags_of hs)) c.tag_of.ensures ∙ held-one tag hs (λ e. c.requires.used (ap (word_at One (values_under hs) tag) (sym (slot-one a.order a.first)) ∙ e))
