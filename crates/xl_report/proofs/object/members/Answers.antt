use Rattle.xl_report.proofs.Common.{◌∙◌, ap, change_members, Members, members_view, named_members, object, verdict_members, walk_members}
use Rattle.xl_report.proofs.JsonLemmas.{members_in_order}
use Rattle.xl_report.proofs.object.members.Goals as goal

pub returns : goal.returns
returns c =
    let counts = c.args.counts.now in
    let name = c.args.name.now in
    let replied = c.in_ok-put_verdicts.ensures ∙ ap (λ es. verdict_members counts (members_view es)) c.new-map.ensures.empty in
    let walked = c.in_ok-put_walks.ensures ∙ ap (walk_members counts) replied in
    let changed = c.in_ok-put_changes.ensures ∙ ap (change_members counts) walked in
    let named = c.in_ok-put_named.ensures ∙ ap (named_members name counts) changed in
    ap (λ (ms : Members). object ms) named ∙ members_in_order name counts
