-- Items that go back by one place, one after another, and an item that is put in front of them.
use Rattle.xl_recency.proofs.Common.{◌+◌, ◌-◌, ◌<◌, ◌∙◌, ◌∷◌, ◌≡◌, ◌≤◌, [], ap, arith, drop, drop_all, Fills, get_or, length, length-take-le, List, None, refl, remove, set, Some, suc, sym, take, take-take, take_all, zero, ℕ}

module _ {A : Type 0} where
  -- the items without the one at `at`, where the items from `place` on up to it moved back by one
  -- place: the item at `place` is there still
  abbrev pub spread : ℕ → ℕ → List A → List A
  spread place at [] = []
  spread zero at (x ∷ xs) = x ∷ remove (x ∷ xs) at
  spread (suc place) zero (x ∷ xs) = x ∷ xs
  spread (suc place) (suc at) (x ∷ xs) = x ∷ spread place at xs

  pub spread-none : (at : ℕ) (xs : List A) → spread at at xs ≡ xs
  spread-none at [] = refl
  spread-none zero (x ∷ xs) = refl
  spread-none (suc at) (x ∷ xs) = ap (λ (ys : List A). x ∷ ys) (spread-none at xs)

  -- one item more went back
  spread-more : (place at : ℕ) (d : A) (xs : List A) → place < at → at < length xs
      → set (spread (suc place) at xs) (suc place) (get_or (spread (suc place) at xs) place d) ≡ spread place at xs
  spread-more place at d [] h k = absurd (omega arith)
  spread-more place zero d (x ∷ xs) h k = absurd (omega arith)
  spread-more zero (suc at) d (x ∷ []) h k = absurd (omega arith)
  spread-more zero (suc at) d (x ∷ y ∷ ys) h k = refl
  spread-more (suc place) (suc at) d (x ∷ xs) h k = ap (λ (ys : List A). x ∷ ys) (spread-more place at d xs (omega arith) (omega arith))

  pub spread-back : (place at : ℕ) (d : A) (xs : List A) → 0 < place → place ≤ at → at < length xs
      → set (spread place at xs) place (get_or (spread place at xs) (place - 1) d) ≡ spread (place - 1) at xs
  spread-back zero at d xs some h k = absurd (omega arith)
  spread-back (suc place) at d xs some h k =
      let e : suc place - 1 ≡ place = omega arith in rw e (spread-more place at d xs (omega arith) k)

  take-remove : (n at : ℕ) (xs : List A) → n ≤ at → take n (remove xs at) ≡ take n xs
  take-remove zero at xs h = refl
  take-remove (suc n) zero xs h = absurd (omega arith)
  take-remove (suc n) (suc at) [] h = refl
  take-remove (suc n) (suc at) (x ∷ xs) h = ap (λ (ys : List A). x ∷ ys) (take-remove n at xs (omega arith))

  -- an item in front of a list of this width, in place of one that isn't in front of its last
  pub put-within : (width at : ℕ) (item : A) (xs : List A) → 0 < width → width ≤ at + 1 → take width (item ∷ remove xs at) ≡ item ∷ take (width - 1) xs
  put-within zero at item xs some h = absurd (omega arith)
  put-within (suc n) at item xs some h =
      let e : suc n - 1 ≡ n = omega arith in
      rw e (ap (λ (ys : List A). item ∷ ys) (take-remove n at xs (omega arith)))

  -- the list that isn't full, of the first `len` slots, when an item is put in front of it
  pub filled-more : (width len : ℕ) (item : A) (xs ys : List A) → len < width → width ≤ length xs
      → take width ys ≡ item ∷ take (width - 1) xs → Fills width item (take len xs) (take (len + 1) ys) None
  filled-more zero len item xs ys less fits put = absurd (omega arith)
  filled-more (suc n) len item xs ys less fits put =
      let e : suc n - 1 ≡ n = omega arith in
      let few : length (take len xs) ≤ n = rw (length-take-le len xs (omega arith)) (omega arith) in
      let plus : len + 1 ≡ suc len = omega arith in
      record {
        list = rw plus (sym (take-take (suc len) (suc n) ys (omega arith)) ∙ ap (take (suc len)) (rw e at put)
            ∙ ap (λ (zs : List A). item ∷ zs) (take-take len n xs (omega arith) ∙ sym (take_all n (take len xs) few)));
        left = sym (drop_all n (take len xs) few);
      }

  -- the full list, when an item is put in front of it and its last one is evicted
  pub filled-full : (width : ℕ) (item d : A) (xs ys : List A) → 0 < width → width ≤ length xs
      → take width ys ≡ item ∷ take (width - 1) xs → Fills width item (take width xs) (take width ys) (Some (get_or xs (width - 1) d))
  filled-full zero item d xs ys some fits put = absurd (omega arith)
  filled-full (suc n) item d xs ys some fits put =
      let e : suc n - 1 ≡ n = omega arith in
      record {
        list = (rw e at put) ∙ ap (λ (zs : List A). item ∷ zs) (sym (take-take n (suc n) xs (omega arith)));
        left = rw e (last-one n d xs fits);
      }
    where
      last-one : (n : ℕ) (d : A) (xs : List A) → suc n ≤ length xs → get_or xs n d ∷ [] ≡ drop n (take (suc n) xs)
      last-one n d [] h = absurd (omega arith)
      last-one zero d (x ∷ xs) h = refl
      last-one (suc n) d (x ∷ xs) h = last-one n d xs (omega arith)
