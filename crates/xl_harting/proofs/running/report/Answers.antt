use Rattle.xl_harting.proofs.Common.{◌≡◌, account_from, Ends, Err, Finds, harts_account, harts_form, harts_left, harts_script_of, HartText, is_err_by, known_one, known_then, Ok, script_in, served_ends, Some, state_from, stopped_ends, trail_in}
use Rattle.xl_words.specs.Words.{pair_of}
use Rattle.xl_harting.proofs.running.report.Goals as goal

pub returns-clause-known : goal.returns-clause-known
returns-clause-known g c =
    let a = pair_of c.args.words.now in
    let script = c.in_ok-script.script in
    let end = c.report_orders.result in
    let roomy = g.K.Sink.sink.roomy in
    let out = c.args.out.now in
    let new = c.report_orders.new.out in
    let left = c.report_orders.new.harts in
    let before = (g.K.Sink.sink.outside out).written in
    let after = (g.K.Sink.sink.outside new).written in
    known_then (g.F.Folder.folder.files c.args.folder.now) (g.F.Folder.folder.files c.read_script.new.folder)
    (λ fs. Finds (λ (s : HartText). s) (Ok script) (script_in harts_script_of a.script fs))
    (λ fs. Ends end (account_from harts_form a.answers (trail_in (Some a.trace) fs) script) roomy before after out new (left ≡ Some (state_from harts_form (trail_in (Some a.trace) fs) script)))
    (λ fs. Ends end (harts_account a fs) roomy before after out new (left ≡ harts_left a fs))
    c.in_ok-script.ensures.leaves.keeps c.in_ok-script.ensures.known c.report_orders.ensures.known
    (λ fs h k. served_ends harts_form a.answers roomy (trail_in (Some a.trace) fs) (script_in harts_script_of a.script fs) script end before after out new left h k)

pub returns-in_err-script-clause-known : goal.returns-in_err-script-clause-known
returns-in_err-script-clause-known g c =
    let a = pair_of c.args.words.now in
    let stop = c.in_err-script.field-0.0 in
    let out = c.args.out.now in
    rw (is_err_by c.from_residual.result stop c.from_residual.ensures.1)
    (known_one (g.F.Folder.folder.files c.args.folder.now) (λ fs. Finds {A = HartText} (λ s. s) (Err stop) (script_in harts_script_of a.script fs)) _
    c.in_err-script.ensures.known
    (λ fs h. stopped_ends harts_form a.answers g.K.Sink.sink.roomy (trail_in (Some a.trace) fs) (script_in harts_script_of a.script fs) (λ (s : HartText). s) stop (g.K.Sink.sink.outside out).written out _ c.in_err-script.ensures.before h))
