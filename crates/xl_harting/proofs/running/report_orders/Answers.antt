use Rattle.xl_harting.proofs.Common.{◌∙◌, ◌≡◌, account, ap, course_ends, course_of, Ends, false, harts_form, known_one, meaning_of, Ok, Some, states_after, trail_in, true}
use Rattle.xl_outside.specs.Folders.{file_of}
use Rattle.xl_serving.specs.Tapes.{IsFedFrom}
use Rattle.xl_serving.specs.Traces.{left_of, trail_of}
use Rattle.xl_harting.proofs.running.report_orders.Goals as goal

pub returns-clause-known : goal.returns-clause-known
returns-clause-known g c =
    let source = c.in_ok-source.source in
    let script = c.args.orders.now.script.now in
    let answers = c.args.orders.now.answers in
    let trace = c.args.trace.now in
    let name = source.name.now in
    let opened = c.in_ok-machine.machine in
    let left = c.report-end.new.rack in
    let end = c.report-end.result in
    let roomy = g.K.Sink.sink.roomy in
    let out = c.args.out.now in
    let new = c.report-end.new.out in
    let before = (g.K.Sink.sink.outside out).written in
    let after = (g.K.Sink.sink.outside new).written in
    known_one (g.F.Folder.folder.files c.args.folder.now)
    (λ fs. IsFedFrom (file_of fs name) source.tape → Ends end (account (meaning_of harts_form) answers harts_form.last false (course_of harts_form script (left_of (file_of fs name) source.tape)) opened)
    roomy before after out new (left ≡ states_after (meaning_of harts_form) (course_of harts_form script (left_of (file_of fs name) source.tape)).items opened)) _
    c.report-end.ensures.known
    (λ fs h. course_ends harts_form answers roomy (trail_in (Some trace) fs) (Ok script) script (left_of (file_of fs name) source.tape) opened left end before after out new
    (c.in_ok-machine.ensures ∙ ap (λ spec. harts_form.opens (record { spec = spec; commands = script.commands })) c.spec.ensures.value)
    ((c.in_ok-source.ensures.unread (file_of fs name)).1 ∙ ap (λ n. trail_of (file_of fs n)) c.in_ok-source.ensures.name)
    (h (c.in_ok-source.ensures.unread (file_of fs name)).0))

pub returns-clause-early : goal.returns-clause-early
returns-clause-early g c e = let never : false ≡ true = (c.report-end.ensures.early e).0 in cc
