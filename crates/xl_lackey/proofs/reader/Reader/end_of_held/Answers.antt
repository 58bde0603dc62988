use Rattle.xl_lackey.proofs.Common.{◌∙◌, ap, arith, length, length-take, State, sym}
use Rattle.xl_lackey.proofs.StepLemmas.{due_none, left_kept}
use Rattle.xl_lackey.proofs.reader.Reader.end_of_held.Goals as goal

pub returns-else-is_finished-clause-answers : goal.returns-else-is_finished-clause-answers
returns-else-is_finished-clause-answers c =
    let e = c.truncate.ensures in
    let size = ap (λ (u : State). length u.held) e in record {
      reads = λ last. left_kept last c.args.self.now c.truncate.new.self c.requires.good c.requires.no_newline e;
      none = due_none c.args.self.now c.truncate.new.self c.requires.good c.requires.no_newline e;
      unfinished = ap (λ (u : State). u.finished) e ∙ sym c.is_finished.ensures ∙ c.if-is_finished.false;
      good = ap (λ (u : State). u.bad) e ∙ c.requires.good;
      room = omega (arith, size, length-take 258 c.args.self.now.held);
      no_more = omega (arith, size, length-take 258 c.args.self.now.held);
    }
