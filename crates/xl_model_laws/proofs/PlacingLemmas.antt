-- No insertion changes how many ways there are.
use Rattle.xl_model_laws.proofs.Common.{◌++◌, ◌+◌, ◌∙◌, ◌∷◌, ◌≡◌, [], ap, Displaced, entries_of, Entry, forced, growths_left, insertion, insertion-by, length, List, map, Moves, no_moves, Placed, placing-keeps, refl, set-length, suc, swapped, way_at, WayShape, ℕ}

pub lists-length : (xs ys : List WayShape) → map entries_of xs ≡ map entries_of ys → length xs ≡ length ys
lists-length [] [] e = refl
lists-length [] (y ∷ ys) e = absurd (cc)
lists-length (x ∷ xs) [] e = absurd (cc)
lists-length (x ∷ xs) (y ∷ ys) e = let b : map entries_of xs ≡ map entries_of ys = cc in ap suc (lists-length xs ys b)

pub insertion-count : (limit most threshold : ℕ) (ways after : List WayShape) (x : Entry) (moved : List Displaced) (m : Moves)
    → insertion limit most threshold ways x ≡ Placed after moved m → length after ≡ length ways
insertion-count limit most threshold ways after x moved m e =
    let Q : List WayShape → Type 0 = λ us. length us ≡ length ways in
    let r = insertion-by (λ us mv. Q us) Q limit most threshold ways after x moved m
    (placing-keeps Q (λ us at hand h. set-length us at (swapped (way_at us at) hand) ∙ h) (λ us i h. set-length us i (forced (way_at us i)) ∙ h)
    (growths_left ways) limit ways x no_moves refl) e in
    lists-length after r.0 r.1 ∙ r.2
