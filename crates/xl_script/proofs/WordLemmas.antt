-- The words of a line from a place on.
use Rattle.xl_script.proofs.Common.{◌+◌, ◌∙◌, ◌∷◌, ◌≡◌, [], ap, drop, drop_more, List, None, refl, slice_get, Some, suc, sym, zero, ℕ}
use Rattle.std.proofs.lemmas.Option.{get_or_from_slice_get, slice_get_within}

pub found-next : {X : Type 0} (xs : List X) (i : ℕ) (x : X) → Some x ≡ slice_get xs i → drop i xs ≡ x ∷ drop (i + 1) xs
found-next xs i x e =
    drop_more xs i x (slice_get_within xs i x (sym e)) ∙ ap (λ y. y ∷ drop (i + 1) xs) (get_or_from_slice_get xs i x x (sym e))

pub nothing-left : {X : Type 0} (xs : List X) (i : ℕ) → None ≡ slice_get xs i → drop i xs ≡ []
nothing-left [] zero e = refl
nothing-left [] (suc i) e = refl
nothing-left (x ∷ xs) zero e = absurd (cc)
nothing-left (x ∷ xs) (suc i) e = nothing-left xs i e
