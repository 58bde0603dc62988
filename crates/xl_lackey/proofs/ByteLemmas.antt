-- Bytes that differ.
use Rattle.xl_lackey.proofs.Common.{◌==◌, ◌∙◌, ◌≡◌, ap, eqb_tells, false, inl, inr, sym, ℕ}

-- a byte that a function takes elsewhere is another byte
pub differs : {A : Type 0} (f : ℕ → A) (b k : ℕ) (x y : A) → f b ≡ x → f k ≡ y → (x ≡ y → ⊥) → (b == k) ≡ false
differs f b k x y h g apart =
    elim (eqb_tells b k) [ inl p ↦ absurd (apart (sym h ∙ ap f p.1 ∙ g)) | inr p ↦ p.0 ]
