use Rattle.xl_lackey.proofs.Common.{◌<◌, ◌∙◌, ap, Each1, List, number_of, Some, subst, sym, take, w8, ℕ}
use Rattle.std.proofs.lemmas.Simd.{chunk-fits}
use Rattle.xl_lackey.proofs.LaneLemmas.{lanes_number}
use Rattle.xl_lackey.proofs.digits.eight_digits.Goals as goal

pub returns-then-are_digits-clause-value : goal.returns-then-are_digits-clause-value
returns-then-are_digits-clause-value c =
    lanes_number 0 (take 8 c.args.text.now) (chunk-fits w8 0 8 c.args.text.now c.type_inv.text)
    (subst (λ (vs : List ℕ). Each1 (λ d. d < 16) vs) c.lane_values-values.ensures (c.are_digits.ensures c.if-are_digits.true))
    ∙ ap (λ vs. Some (number_of 0 vs)) (sym c.lane_values-values.ensures) ∙ ap Some (sym c.number.ensures.value)
