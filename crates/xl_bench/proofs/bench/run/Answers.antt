use Rattle.std.proofs.Common.{◌∙◌, ◌≡◌, map, sym}
use Rattle.std.specs.Prelude.{string_bytes}
use Rattle.xl_course.proofs.KnownLemmas.{known_one}
use Rattle.xl_course.proofs.MessageLemmas.{run_says}
use Rattle.xl_course.specs.Accounts.{Ends, EndsAs, Says}
use Rattle.xl_bench.proofs.MachineLemmas.{no_memory_by}
use Rattle.xl_bench.specs.Accounts.{account_of, machines_left}
use Rattle.xl_bench.proofs.bench.run.Goals as goal

pub returns-clause-said : goal.returns-clause-said
returns-clause-said g c =
    let files = g.F.Folder.folder.files c.args.folder.now in
    let words = map string_bytes c.args.words.now.items in
    let end = c.report_of-end.result in
    let before = (g.K.Sink.sink.outside c.args.out.now).written in
    let after = (g.K.Sink.sink.outside c.report_of-end.new.out).written in
    rw c.of.ensures
    (run_says (λ text. Says g.E.Sink.sink text c.args.err.now c.report_end.new.err) files (account_of words) end before after
    (known_one files (λ fs. Ends end (account_of words fs) g.K.Sink.sink.roomy before after c.args.out.now c.report_of-end.new.out (c.report_of-end.new.machines ≡ machines_left words fs))
    (λ fs. EndsAs end (account_of words fs) before after) c.report_of-end.ensures.known (λ fs h. h.as_said))
    c.report_end.ensures)

pub returns-clause-early : goal.returns-clause-early
returns-clause-early g c e =
    c.report_of-end.ensures.early (no_memory_by c.report_of-end.result (sym c.of.ensures ∙ e))
