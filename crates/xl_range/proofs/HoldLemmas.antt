-- What a treap can hold: maximal ranges lie apart; how many ranges its calls leave; the held keys.
use Rattle.xl_range.proofs.Common.{◌+◌, ◌<◌, ◌==◌, ◌||◌, ◌∷◌, ◌≡◌, ◌≤◌, [], ap, arith, Bool, cond, end_key, false, has_key, In, inl, inr, IsApart, IsFit, IsHeld, IsRange, length, List, list_any, nat_lt, nat_tests, Range, range_key, refl, resized, subst, suc, true, with_range, without_range, ℕ}
use Rattle.xl_range.proofs.TouchLemmas.{In-key, lower, some-pages}

pub fit-range : (r : Range) → IsRange r → IsFit r
fit-range r is = record { some = some-pages r is; space_in = is.space_in; pages_in = is.pages_in; frames_in = is.frames_in }

pub apart-held : (low : ℕ) (rs : List Range) → IsHeld low rs → IsApart low rs
apart-held low [] h = tt
apart-held low (r ∷ rs) (above, is, stops, rest) = (above, fit-range r is, apart-held (end_key r) rs rest)

pub length-without : (k : ℕ) (rs : List Range) → list_any (has_key k) rs ≡ true → suc (length (without_range k rs)) ≡ length rs
length-without k [] h = absurd (cc)
length-without k (r ∷ rs) h = elim (range_key r == k) as (λ b. (b || list_any (has_key k) rs) ≡ true → suc (length (cond b rs (r ∷ without_range k rs))) ≡ suc (length rs)) [
  | true ↦ λ t. refl
  | false ↦ λ t. ap suc (length-without k rs t)
] h

pub with-front : (low : ℕ) (y : Range) (rs : List Range) → IsHeld low rs → range_key y ≤ low → with_range y rs ≡ y ∷ rs
with-front low y [] h le = refl
with-front low y (r ∷ rs) (above, is, stops, rest) le = let a : nat_lt (range_key r) (range_key y) ≡ false = grind (arith, nat_tests) in rw a refl

-- counts, and what the calls ask for
pub key-there : (r : Range) (rs : List Range) → In r rs → list_any (has_key (range_key r)) rs ≡ true
key-there r [] i = absurd i
key-there r (y ∷ rs) (inl e) =
    let k : range_key r ≡ range_key y = ap range_key e in
    let t : (range_key y == range_key r) ≡ true = grind (arith, nat_tests) in
    rw t refl
key-there r (y ∷ rs) (inr i) = or-second (range_key y == range_key r) (list_any (has_key (range_key r)) rs) (key-there r rs i)
  where
    or-second : (a b : Bool) → b ≡ true → (a || b) ≡ true
    or-second true b h = refl
    or-second false b h = h

-- a shorter range
pub apart-resized : (n low : ℕ) (r : Range) (rs : List Range) → IsHeld low rs → In r rs → 0 < n → n ≤ r.pages → IsApart low (resized (range_key r) n rs)
apart-resized n low r [] h i some le = absurd i
apart-resized n low r (y ∷ rs) (above, is, stops, rest) i some le =
    elim (range_key y == range_key r) as (λ b. (range_key y == range_key r) ≡ b → IsApart low (cond b (record y { pages = n } ∷ rs) (y ∷ resized (range_key r) n rs))) [
      | true ↦ λ t.
          let same : n ≤ y.pages = elim i [
            | inl e ↦ (let P : Range → Type 0 = λ z. n ≤ z.pages in subst P e le)
            | inr m ↦ (let p : 0 < y.pages = some-pages y is in let k : end_key y ≤ range_key r = In-key (end_key y) r rs rest m in let g : range_key y ≡ range_key r = grind (arith, nat_tests) in absurd (omega arith))
          ] in
          let f : IsFit y = fit-range y is in
          let fit : IsFit (record y { pages = n }) = record { some = some; space_in = f.space_in; pages_in = (let a = f.pages_in in omega arith); frames_in = (let a = f.frames_in in omega arith) } in
          (above, fit, apart-held (range_key y + n) rs (lower (range_key y + n) (end_key y) rs (omega arith) rest))
      | false ↦ λ t.
          let m : In r rs = elim i [
            | inl e ↦ (let k : range_key r ≡ range_key y = ap range_key e in absurd (grind (arith, nat_tests)))
            | inr m ↦ m
          ] in
          (above, fit-range y is, apart-resized n (end_key y) r rs rest m some le)
    ] refl
