use Rattle.xl_chart.proofs.Common.{◌∙◌, ap, Leaf, page_of, sym}
use Rattle.xl_model.specs.LeafWords.{small_leaf}
use Rattle.xl_model.specs.declared.leaf.Reply.{Reply}
use Rattle.xl_chart.proofs.FollowLemmas.{found_followed, reply_outcome, same_followed}
use Rattle.xl_model.specs.declared.event.Outcome.TheVariants as outcome
use Rattle.xl_chart.proofs.beside.access_both.Goals as goal

pub returns-in-Some : goal.returns-in-Some
returns-in-Some g c =
    let v = c.args.machine.now in
    let found = c.in-Some.ensures.some in
    let leaf : Leaf = small_leaf v.state.space (page_of v.row.mode c.args.va) c.in-Some.word in
    record {
      outcome = ap (λ (r : Reply). outcome.Replied r) (sym found.reply_is) ∙ reply_outcome v.row c.args.va c.args.kind v.state;
      machine = found.after;
      curve = rw (c.space-space.ensures, c.page_of-page.ensures) at c.access_small.ensures ∙ found_followed v.row c.args.va c.args.kind v.state c.args.curve.now leaf found.canonical found.leaf_is;
    }

pub returns-clause-outcome : goal.returns-clause-outcome
returns-clause-outcome g c =
    let v = c.args.machine.now in
    ap (λ (r : Reply). outcome.Replied r) (c.access.ensures.reply_is ∙ c.in_default.ensures.none.reply_is) ∙ reply_outcome v.row c.args.va c.args.kind v.state

pub returns-clause-curve : goal.returns-clause-curve
returns-clause-curve g c =
    let same = c.in_default.ensures.none in
    let looked = rw (c.is_canonical.ensures, c.covering.ensures.leaf) at c.look.ensures in
    looked ∙ same_followed c.args.machine.now c.access_found.new.self c.args.va c.args.kind c.args.curve.now same.row_is same.space_is same.leaves_are
