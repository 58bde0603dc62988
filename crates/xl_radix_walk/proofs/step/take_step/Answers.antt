use Rattle.xl_radix_walk.proofs.Common.{◌*◌, ◌+◌, ap, decode_of, None, Some, sym, ℕ}
use Rattle.xl_radix_walk.proofs.StepLemmas.{is_step, word-gone, word-there}
use Rattle.xl_radix_walk.proofs.step.take_step.Goals as goal

pub returns-in-None-clause-is_step : goal.returns-in-None-clause-is_step
returns-in-None-clause-is_step g c =
    let words = g.B.Bus.words c.args.bus.now in
    let place = ap (λ (n : ℕ). c.args.node * 512 + n) c.index_of.ensures.value in
    is_step words c.args.level c.args.node c.args.page None (sym (word-gone words c.args.level c.args.node c.args.page _ place c.in-None.ensures.none))

pub returns-in-Some-clause-is_step : goal.returns-in-Some-clause-is_step
returns-in-Some-clause-is_step g c =
    let words = g.B.Bus.words c.args.bus.now in
    let place = ap (λ (n : ℕ). c.args.node * 512 + n) c.index_of.ensures.value in
    rw c.judged.ensures (is_step words c.args.level c.args.node c.args.page (Some (decode_of c.in-Some.word c.args.level))
    (sym (word-there words c.args.level c.args.node c.args.page _ c.in-Some.word place c.in-Some.ensures.some)))
