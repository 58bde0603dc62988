use Rattle.std.proofs.Common.{◌≡◌, ◌%◌, ◌<◌, ◌/◌, ◌^◌, ◌==◌, ◌∙◌, true, false, sym, arith}
use Rattle.std.proofs.lemmas.Bool.Decides.{nat_tests}
use Rattle.xl_pte.proofs.AllowedLemmas.{low_same, allowed_said, allowed_none}
use Rattle.xl_pte.proofs.word.allowed_word.Goals.{else-word-eq0-via-then-word-eq0+else-allowed_bits-word-eq1, else-word-eq0-via-else-word-eq0}
use Rattle.xl_pte.proofs.word.allowed_word.Goals as goal

pub returns-then-allowed_bits-word-eq1-clause-some : goal.returns-then-allowed_bits-word-eq1-clause-some
returns-then-allowed_bits-word-eq1-clause-some c =
    let word = c.args.word in
    let few : word % 64 < 64 = omega arith in
    let set : (c.allowed_bits.result / 2 ^ (word % 64) % 2 == 1) ≡ true = grind (arith, nat_tests, c.if-allowed_bits-word-eq1.true) in
    allowed_said word c.args.kind (omega (arith, c.if-word-eq0.true)) (sym (c.allowed_bits.ensures (word % 64) few ∙ low_same word c.args.kind) ∙ set)

pub returns-else-word-eq0-clause-none : goal.returns-else-word-eq0-clause-none
returns-else-word-eq0-clause-none c =
    let word = c.args.word in
    allowed_none word c.args.kind (λ high.
    elim c.else-word-eq0.branch [
      | else-word-eq0-via-then-word-eq0+else-allowed_bits-word-eq1 w ↦
          let few : word % 64 < 64 = omega arith in
          let clear : (w.allowed_bits.result / 2 ^ (word % 64) % 2 == 1) ≡ false = grind (arith, nat_tests, w.if-allowed_bits-word-eq1.false) in
          sym (w.allowed_bits.ensures (word % 64) few ∙ low_same word c.args.kind) ∙ clear
      | else-word-eq0-via-else-word-eq0 w ↦ absurd (w.if-word-eq0.false high)
    ])
