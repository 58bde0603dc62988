-- For the table of ranges: how many ranges are left where a leaf is cut out of one, and where a range is put among them.
use Rattle.xl_range.proofs.Common.{◌+◌, ◌==◌, ◌∷◌, ◌≡◌, [], ap, arith, before_on, cond, cut, false, following_on, In, inl, inr, length, List, nat_tests, Order, pages_before, pages_following, part_following, pieces, Range, range_key, refl, some_if, suc, true, zero, ℕ}

pieces-count : (n m : ℕ) (r x : Range) (rs : List Range) → length (before_on n r (following_on m x rs)) ≡ length rs + (some_if n + some_if m)
pieces-count zero zero r x rs = omega arith
pieces-count zero (suc m) r x rs = omega arith
pieces-count (suc n) zero r x rs = omega arith
pieces-count (suc n) (suc m) r x rs = omega arith

-- A leaf cut out leaves one range more, the same number, or one less.
pub cut-count : (first : ℕ) (o : Order) (r : Range) (rs : List Range) → In r rs
    → suc (length (cut first o r rs)) ≡ length rs + (some_if (pages_before first r) + some_if (pages_following first o r))
unfolding cut
cut-count first o r [] i = absurd i
cut-count first o r (y ∷ rs) i =
    elim (range_key y == range_key r) as (λ b. (range_key y == range_key r) ≡ b
    → suc (length (cond b (pieces first o r rs) (y ∷ cut first o r rs))) ≡ suc (length rs) + (some_if (pages_before first r) + some_if (pages_following first o r))) [
      | true ↦ λ t.
          let a : length (pieces first o r rs) ≡ length rs + (some_if (pages_before first r) + some_if (pages_following first o r)) =
          pieces-count (pages_before first r) (pages_following first o r) r (part_following first o r) rs in
          omega arith
      | false ↦ λ t. elim i [
        | inl e ↦ (let k : range_key r ≡ range_key y = ap range_key e in absurd (grind (arith, nat_tests)))
        | inr m ↦ (let a = cut-count first o r rs m in omega arith)
      ]
    ] refl
