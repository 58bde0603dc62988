-- Texts that go on: what is written of a sink's bytes is their front.
use Rattle.std.proofs.Common.{◌≡◌, ℕ, List, [], ◌∷◌, ◌++◌, refl, ap, ◌∙◌, append_assoc}
use Rattle.std.specs.Prelude.{Option, None, Some}
use Rattle.xl_outside.specs.Sinks.{with_more, IsMore}

append_none : (xs : List ℕ) → xs ≡ xs ++ []
append_none [] = refl
append_none (x ∷ xs) = ap (λ (ys : List ℕ). x ∷ ys) (append_none xs)

-- no bytes more
pub with_none : (w : Option (List ℕ)) → w ≡ with_more w []
with_none None = refl
with_none (Some text) = ap Some (append_none text)

-- bytes, and others after them
pub with_more-twice : (before : Option (List ℕ)) (xs ys : List ℕ) → with_more (with_more before xs) ys ≡ with_more before (xs ++ ys)
with_more-twice None xs ys = refl
with_more-twice (Some text) xs ys = ap Some (append_assoc text xs ys)

-- nothing more
pub more_none : (w : Option (List ℕ)) → IsMore w w
more_none w = ([], with_none w)

-- more, and then more
pub more_then : (a b c : Option (List ℕ)) → IsMore a b → IsMore b c → IsMore a c
more_then a b c h k = (h.0 ++ k.0, k.1 ∙ ap (λ (w : Option (List ℕ)). with_more w k.0) h.1 ∙ with_more-twice a h.0 k.0)

-- what is held comes after what the sink below took
pub fronts_held : (written taken : Option (List ℕ)) (held : List ℕ) → IsMore written taken → IsMore written (with_more taken held)
fronts_held written taken held h = more_then written taken (with_more taken held) h (held, refl)
