use Rattle.xl_curving.proofs.Common.{◌≡◌, AreOpened, AskedPlain, curves_by, curves_from, Ends, Err, Finds, IfSome, is_err_by, known_one, known_then, Ok, plain_of, plain_start, refl, rows_by, rows_from, start_of, subst, sym, trail_for}
use Rattle.xl_serving.proofs.EndLemmas.{stopped_ends}
use Rattle.xl_curving.proofs.EndLemmas.{started}
use Rattle.xl_curving.proofs.running.report.Goals as goal

pub returns-clause-known : goal.returns-clause-known
returns-clause-known g c =
    let sets = c.args.words.now.sets in
    let p = plain_of c.plain_words-plain.result in
    let opened = c.open.new.rows in
    let script = c.in_ok-script.script in
    let end = c.report_orders.result in
    let roomy = g.K.Sink.sink.roomy in
    let out = c.args.out.now in
    let new = c.report_orders.new.out in
    let left = c.report_orders.new.rows in
    let before = (g.K.Sink.sink.outside out).written in
    let after = (g.K.Sink.sink.outside new).written in
    subst (λ (a : AskedPlain). IfSome (g.F.Folder.folder.files c.args.folder.now)
    (λ fs. Ends end (curves_by sets (trail_for a fs) (plain_start a fs)) roomy before after out new (left ≡ rows_by (trail_for a fs) (plain_start a fs)))) c.plain_words-plain.ensures
    (known_then (g.F.Folder.folder.files c.args.folder.now) (g.F.Folder.folder.files c.open.new.folder)
    (λ fs. Finds (start_of opened) (Ok script) (plain_start p fs))
    (λ fs. Ends end (curves_from sets (trail_for p fs) (start_of opened script)) roomy before after out new (left ≡ rows_from (trail_for p fs) (start_of opened script)))
    (λ fs. Ends end (curves_by sets (trail_for p fs) (plain_start p fs)) roomy before after out new (left ≡ rows_by (trail_for p fs) (plain_start p fs)))
    c.in_ok-script.ensures.leaves.keeps c.in_ok-script.ensures.known c.report_orders.ensures.known
    (λ fs h k. started roomy sets (trail_for p fs) (start_of opened script) (plain_start p fs) end before after out new left h k))

pub returns-in_err-script-clause-known : goal.returns-in_err-script-clause-known
returns-in_err-script-clause-known g c =
    let sets = c.args.words.now.sets in
    let p = plain_of c.plain_words-plain.result in
    let opened = c.open.new.rows in
    let stop = c.in_err-script.field-0.0 in
    let out = c.args.out.now in
    let roomy = g.K.Sink.sink.roomy in
    let written = (g.K.Sink.sink.outside out).written in
    rw (is_err_by c.from_residual.result stop c.from_residual.ensures.1)
    (subst (λ (a : AskedPlain). IfSome (g.F.Folder.folder.files c.args.folder.now)
    (λ fs. Ends (Err stop) (curves_by sets (trail_for a fs) (plain_start a fs)) roomy written written out out (opened ≡ rows_by (trail_for a fs) (plain_start a fs)))) c.plain_words-plain.ensures
    (known_one (g.F.Folder.folder.files c.args.folder.now) (λ fs. Finds (start_of opened) (Err stop) (plain_start p fs)) _
    c.in_err-script.ensures.known
    (λ fs h. stopped_ends roomy (start_of opened) (curves_by sets (trail_for p fs)) (plain_start p fs) stop written out _ (λ f. refl) c.in_err-script.ensures.before h)))

pub returns-clause-early : goal.returns-clause-early
returns-clause-early g c e = subst AreOpened (sym (c.report_orders.ensures.early e)) c.in_ok-script.ensures.opening
