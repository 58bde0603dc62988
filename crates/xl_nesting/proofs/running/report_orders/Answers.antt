use Rattle.xl_nesting.proofs.Common.{◌∙◌, ◌≡◌, account, ap, counts_text, course, course_ends, Ends, false, is_err_by, known_one, List, map, meaning_of, nested_form, Ok, Some, states_after, step_of, trail_in, true, ℕ}
use Rattle.xl_outside.proofs.SinkLemmas.{proceeds_same}
use Rattle.xl_outside.specs.Folders.{file_of}
use Rattle.xl_serving.specs.Tapes.{IsFedFrom}
use Rattle.xl_serving.specs.Traces.{left_of, trail_of}
use Rattle.xl_course.specs.declared.stop.Stop.TheVariants as why
use Rattle.xl_nesting.proofs.running.report_orders.Goals as goal

pub returns-in_err-source-clause-proceeds : goal.returns-in_err-source-clause-proceeds
returns-in_err-source-clause-proceeds g c =
    rw (is_err_by c.from_residual-in_err-source.result why.NoMemory c.from_residual-in_err-source.ensures.1) (proceeds_same (g.K.Sink.sink.outside c.args.out.now))

pub returns-clause-known : goal.returns-clause-known
returns-clause-known g c =
    let a = c.args.orders.now in
    let text = a.script.now in
    let name = c.args.trace.now in
    let source = c.in_ok-source.source in
    let opened = c.in_ok-machine.machine in
    let m = meaning_of nested_form in
    let roomy = g.K.Sink.sink.roomy in
    let out = c.args.out.now in
    let new = c.report-end.new.out in
    let before = (g.K.Sink.sink.outside out).written in
    let after = (g.K.Sink.sink.outside new).written in
    known_one (g.F.Folder.folder.files c.args.folder.now)
    (λ fs. IsFedFrom (file_of fs source.name.now) source.tape
    → Ends c.report-end.result (account m a.answers counts_text false (course m (map step_of text.commands) (left_of (file_of fs source.name.now) source.tape)) opened) roomy before after out new
    (c.report-end.new.rack ≡ states_after m (course m (map step_of text.commands) (left_of (file_of fs source.name.now) source.tape)).items opened)) _
    c.report-end.ensures.known
    (λ fs h.
    let unread = c.in_ok-source.ensures.unread (file_of fs source.name.now) in
    course_ends nested_form a.answers roomy (trail_in (Some name) fs) (Ok text) text (left_of (file_of fs source.name.now) source.tape) opened c.report-end.new.rack c.report-end.result before after out new
    (rw c.nest.ensures.value at c.in_ok-machine.ensures) (unread.1 ∙ ap (λ (n : List ℕ). trail_of (file_of fs n)) c.in_ok-source.ensures.name) (h unread.0))

pub returns-clause-early : goal.returns-clause-early
returns-clause-early g c e = let never : false ≡ true = (c.report-end.ensures.early e).0 in cc
