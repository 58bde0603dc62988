-- Two tests, and both at once.
use Rattle.std.proofs.Common.{◌&&◌, ◌≡◌, Bool, false, not, refl, true}

pub both-so : (a b : Bool) → (a && b) ≡ true → (a ≡ true) × (b ≡ true)
both-so true b h = (refl, h)
both-so false b h = cc

pub so-both : (a b : Bool) → a ≡ true → b ≡ true → (a && b) ≡ true
so-both a b h k = rw (h, k) refl

pub not-so : (b : Bool) → (b ≡ true → ⊥) → not b ≡ true
not-so true h = absurd (h refl)
not-so false h = refl

pub and-true : (b : Bool) → (b && true) ≡ b
and-true true = refl
and-true false = refl
