use Rattle.xl_serving.proofs.Common.{◌≡◌, account_by, account_from, Ends, Err, Finds, inl, is_err_by, known_one, known_then, Ok, plain_account, plain_of, plain_rows, plain_start, refl, rows_from, start_of, trail_for}
use Rattle.xl_serving.proofs.EndLemmas.{opened_or, started_ends, started_rows, stopped_ends}
use Rattle.xl_serving.proofs.running.report.Goals as goal

pub returns-clause-known : goal.returns-clause-known
returns-clause-known g c =
    let a = plain_of c.args.words.now in
    let opened = g.R.Rows.rows c.open.new.rows in
    let script = c.in_ok-script.script in
    let end = c.report_orders.result in
    let roomy = g.K.Sink.sink.roomy in
    let out = c.args.out.now in
    let new = c.report_orders.new.out in
    let left = g.R.Rows.rows c.report_orders.new.rows in
    let before = (g.K.Sink.sink.outside out).written in
    let after = (g.K.Sink.sink.outside new).written in
    known_then (g.F.Folder.folder.files c.args.folder.now) (g.F.Folder.folder.files c.open.new.folder)
    (λ fs. Finds (start_of opened) (Ok script) (plain_start a fs))
    (λ fs. Ends end (account_from a (trail_for a fs) (start_of opened script)) roomy before after out new (left ≡ rows_from (trail_for a fs) (start_of opened script)))
    (λ fs. Ends end (plain_account a fs) roomy before after out new (left ≡ plain_rows a fs))
    c.in_ok-script.ensures.leaves.keeps c.in_ok-script.ensures.known c.report_orders.ensures.known
    (λ fs h k. started_ends roomy a (trail_for a fs) (start_of opened script) (plain_start a fs) end before after out new left h k)

pub returns-in_err-script-clause-known : goal.returns-in_err-script-clause-known
returns-in_err-script-clause-known g c =
    let a = plain_of c.args.words.now in
    let opened = g.R.Rows.rows c.open.new.rows in
    let stop = c.in_err-script.field-0.0 in
    let out = c.args.out.now in
    rw (is_err_by c.from_residual.result stop c.from_residual.ensures.1)
    (known_one (g.F.Folder.folder.files c.args.folder.now) (λ fs. Finds (start_of opened) (Err stop) (plain_start a fs)) _
    c.in_err-script.ensures.known
    (λ fs h. stopped_ends g.K.Sink.sink.roomy (start_of opened) (account_by a (trail_for a fs)) (plain_start a fs) stop (g.K.Sink.sink.outside out).written out _ (λ f. refl) c.in_err-script.ensures.before h))

pub returns-clause-early : goal.returns-clause-early
returns-clause-early g c e =
    let a = plain_of c.args.words.now in
    let opened = g.R.Rows.rows c.open.new.rows in
    let script = c.in_ok-script.script in
    let left = g.R.Rows.rows c.report_orders.new.rows in
    opened_or opened left c.in_ok-script.ensures.opening
    (λ p. (
      p.0,
      known_then (g.F.Folder.folder.files c.args.folder.now) (g.F.Folder.folder.files c.open.new.folder)
          (λ fs. Finds (start_of opened) (Ok script) (plain_start a fs))
          (λ fs. left ≡ rows_from (trail_for a fs) (start_of opened script))
          (λ fs. left ≡ plain_rows a fs)
          c.in_ok-script.ensures.leaves.keeps c.in_ok-script.ensures.known p.1
          (λ fs h k. started_rows (trail_for a fs) (start_of opened script) (plain_start a fs) left h k),
    ))
    (c.report_orders.ensures.early e)

pub returns-in_err-script-clause-early : goal.returns-in_err-script-clause-early
returns-in_err-script-clause-early g c e = inl c.in_err-script.ensures.opening
