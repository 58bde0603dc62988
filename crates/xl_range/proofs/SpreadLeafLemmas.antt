-- The leaves of held ranges: where they are, that they are sorted, and that they lie apart from
-- what is clear of the ranges.
use Rattle.xl_range.proofs.Common.{◌*◌, ◌+◌, ◌<◌, ◌∷◌, ◌≡◌, ◌≤◌, ◌⊎◌, [], arith, covers, end_key, false, first_leaf, In, inl, inr, IsClear, IsHeld, Leaf, leaf_key, List, nat_tests, next_leaf, pages-some, pages_of, Range, range_key, range_leaves, range_of_leaf, refl, run_on, spread, subst, suc, sym, true, zero, ℕ}
use Rattle.xl_model_lemmas.specs.Sorted.{AllAbove, IsSorted}
use Rattle.xl_range.proofs.RunLemmas.{leaves-is}
use Rattle.xl_range.proofs.TouchLemmas.{In-key}

-- A leaf is within these keys, in this space.
pub record IsPlacedIn (space low high : ℕ) (z : Leaf) : Type 0 where
  pub space_same : z.space ≡ space
  pub from : low ≤ leaf_key z
  pub to : leaf_key z + pages_of z.order ≤ high

run-In : (n : ℕ) (l z : Leaf) (rest : List Leaf) → In z (run_on n l rest) → IsPlacedIn l.space (leaf_key l) (leaf_key l + n * pages_of l.order) z ⊎ In z rest
run-In zero l z rest i = inr i
run-In (suc n) l z rest (inl e) =
    let p : ℕ = pages_of l.order in
    inl (subst (λ (y : Leaf). IsPlacedIn l.space (leaf_key l) (leaf_key l + suc n * p) y) (sym e) (record { space_same = refl; from = omega arith; to = omega arith }))
run-In (suc n) l z rest (inr i) =
    let p : ℕ = pages_of l.order in
    elim (run-In n (next_leaf l) z rest i) [
      | inl s ↦
          let from = s.from in
          let to = s.to in
          inl (record { space_same = s.space_same; from = omega arith; to = omega arith })
      | inr j ↦ inr j
    ]

-- A leaf of held ranges is in one of them.
pub record OfRange (rs : List Range) (z : Leaf) : Type 0 where
  pub range : Range
  pub member : In range rs
  pub placed : IsPlacedIn range.space (range_key range) (end_key range) z

pub spread-In : (low : ℕ) (rs : List Range) (z : Leaf) → IsHeld low rs → In z (spread rs) → OfRange rs z
unfolding spread
spread-In low [] z h i = absurd i
spread-In low (r ∷ rs) z (above, is, stops, rest) i =
    let p : ℕ = pages_of r.order in
    let count : range_leaves r ≡ suc is.leaves.0 = leaves-is r is in
    let pages : r.pages ≡ suc is.leaves.0 * p = is.leaves.1 in
    elim (run-In (suc is.leaves.0) (first_leaf r) z (spread rs) (subst (λ (n : ℕ). In z (run_on n (first_leaf r) (spread rs))) count i)) [
      | inl s ↦
          let from = s.from in
          let to = s.to in
          record { range = r; member = inl refl; placed = record { space_same = s.space_same; from = omega arith; to = omega arith } }
      | inr j ↦
          let o : OfRange rs z = spread-In (end_key r) rs z rest j in
          record { range = o.range; member = inr o.member; placed = o.placed }
    ]

spread-key : (low : ℕ) (rs : List Range) (z : Leaf) → IsHeld low rs → In z (spread rs) → low ≤ leaf_key z
spread-key low rs z h i =
    let o : OfRange rs z = spread-In low rs z h i in
    let a = o.placed.from in
    let b = In-key low o.range rs h o.member in
    omega arith

above-all : (k : ℕ) (xs : List Leaf) → ((z : Leaf) → In z xs → k < leaf_key z) → AllAbove k xs
above-all k [] h = tt
above-all k (x ∷ xs) h = (h x (inl refl), above-all k xs (λ z i. h z (inr i)))

sorted-run : (n low : ℕ) (l : Leaf) (rest : List Leaf) → leaf_key l + n * pages_of l.order ≤ low → ((z : Leaf) → In z rest → low ≤ leaf_key z) → IsSorted rest → IsSorted (run_on n l rest)
sorted-run zero low l rest le above sorted = sorted
sorted-run (suc n) low l rest le above sorted =
    let p : ℕ = pages_of l.order in
    let some : 0 < p = pages-some l.order in (
      above-all (leaf_key l) (run_on n (next_leaf l) rest) (λ z i. elim (run-In n (next_leaf l) z rest i) [
        | inl s ↦ let from = s.from in omega arith
        | inr j ↦ let a : low ≤ leaf_key z = above z j in omega arith
      ]),
      sorted-run n low (next_leaf l) rest (omega arith) above sorted,
    )

pub sorted-spread : (low : ℕ) (rs : List Range) → IsHeld low rs → IsSorted (spread rs)
unfolding spread
sorted-spread low [] h = tt
sorted-spread low (r ∷ rs) (above, is, stops, rest) =
    let n : ℕ = suc is.leaves.0 in
    let pages : r.pages ≡ n * pages_of r.order = is.leaves.1 in
    rw (leaves-is r is) (sorted-run n (end_key r) (first_leaf r) (spread rs) (omega arith) (λ z i. spread-key (end_key r) rs z rest i) (sorted-spread (end_key r) rs rest))

clear-In : (x r : Range) (rs : List Range) → IsClear x rs → In r rs → (end_key r ≤ range_key x) ⊎ (end_key x ≤ range_key r)
clear-In x r [] clear i = absurd i
clear-In x r (y ∷ rs) (apart, clear) (inl e) = let P : Range → Type 0 = λ z. (end_key z ≤ range_key x) ⊎ (end_key x ≤ range_key z) in subst P (sym e) apart
clear-In x r (y ∷ rs) (apart, clear) (inr i) = clear-In x r rs clear i

-- A leaf that is clear of the ranges has a key of its own.
pub clear-key : (l z : Leaf) (rs : List Range) → IsHeld 0 rs → IsClear (range_of_leaf l) rs → In z (spread rs) → leaf_key z ≡ leaf_key l → ⊥
clear-key l z rs h clear i e =
    let o : OfRange rs z = spread-In 0 rs z h i in
    let a = o.placed.from in
    let b = o.placed.to in
    let p : 0 < pages_of z.order = pages-some z.order in
    let q : 0 < pages_of l.order = pages-some l.order in
    elim (clear-In (range_of_leaf l) o.range rs clear o.member) [ inl before ↦ absurd (omega arith) | inr following ↦ absurd (omega arith) ]

-- It covers no page that a leaf of the ranges covers.
pub clear-covers : (space page : ℕ) (l z : Leaf) (rs : List Range) → IsHeld 0 rs → IsClear (range_of_leaf l) rs → In z (spread rs) → covers space page z ≡ true → covers space page l ≡ false
clear-covers space page l z rs h clear i t =
    let o : OfRange rs z = spread-In 0 rs z h i in
    let a = o.placed.from in
    let b = o.placed.to in
    let zs : z.space ≡ space = grind (arith, nat_tests) in
    let zl : z.first ≤ page = grind (arith, nat_tests) in
    let zh : page < z.first + pages_of z.order = grind (arith, nat_tests) in
    elim (clear-In (range_of_leaf l) o.range rs clear o.member) [
      | inl before ↦ grind (arith, nat_tests)
      | inr following ↦ grind (arith, nat_tests)
    ]
