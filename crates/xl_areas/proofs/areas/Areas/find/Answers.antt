use Rattle.xl_areas.proofs.Common.{◌/◌, ◌∙◌, answer_at, ap, arith, find, in_area, key_at, None}
use Rattle.xl_areas.proofs.IndexLemmas.{index-finds}
use Rattle.xl_areas.proofs.areas.Areas.find.Goals as goal

pub returns : goal.returns
returns c =
    let page = c.args.va / 4096 in
    let kept = c.self.inside in
    c.answer.ensures ∙ ap (λ k. answer_at k None c.as_slice.result.now) c.key_of.ensures.value ∙ ap (answer_at (key_at c.args.space page) None) c.as_slice.ensures.value
    ∙ index-finds c.args.space page kept.areas.items kept.bounds.items (omega arith) c.self.invariant.index ∙ ap (find (in_area c.args.space page)) c.self.view_is
