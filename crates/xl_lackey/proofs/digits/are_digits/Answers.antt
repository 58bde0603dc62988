use Rattle.xl_lackey.proofs.Common.{◌∙◌, ◌≡◌, ap, ap₂, arith, bit_and, nat_tests, number_l, replicate, sym, ℕ}
use Rattle.xl_lackey.proofs.LaneLemmas.{halves_clear}
use Rattle.xl_lackey.proofs.digits.are_digits.Goals as goal

pub returns : goal.returns
returns c = λ h.
    let clear : bit_and c.word.result 17361641481138401520 ≡ 0 = grind (arith, nat_tests) in
    let mask = ap (λ (n : ℕ). number_l 256 (replicate n 240)) c.fits-values.0 in
    halves_clear c.args.values c.fits-values.1 (ap₂ (λ (m n : ℕ). bit_and m n) (sym c.word.ensures) mask ∙ clear)
