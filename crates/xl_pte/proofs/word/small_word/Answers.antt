use Rattle.std.proofs.Common.{arith}
use Rattle.std.proofs.lemmas.Bool.Decides.{nat_tests}
use Rattle.xl_pte.proofs.SmallLemmas.{legal_one, one_legal, small_said, small_none}
use Rattle.xl_pte.proofs.word.small_word.Goals.{else-word-eq1-via-then-word-eq1+then-word-eq0+else-code-eq1, else-word-eq1-via-then-word-eq1+else-word-eq0, else-word-eq1-via-else-word-eq1}
use Rattle.xl_pte.proofs.word.small_word.Goals as goal

pub returns-then-code-eq1-clause-some : goal.returns-then-code-eq1-clause-some
returns-then-code-eq1-clause-some c = small_said c.args.word c.if-word-eq1.true (omega (arith, c.if-word-eq0.true)) (legal_one c.args.word c.if-code-eq1.true)

pub returns-else-word-eq1-clause-none : goal.returns-else-word-eq1-clause-none
returns-else-word-eq1-clause-none c =
    small_none c.args.word (λ valid low legal.
    elim c.else-word-eq1.branch [
      | else-word-eq1-via-then-word-eq1+then-word-eq0+else-code-eq1 w ↦ w.if-code-eq1.false (one_legal c.args.word legal)
      | else-word-eq1-via-then-word-eq1+else-word-eq0 w ↦ grind (arith, nat_tests, low, w.if-word-eq0.false)
      | else-word-eq1-via-else-word-eq1 w ↦ grind (arith, nat_tests, valid, w.if-word-eq1.false)
    ])
