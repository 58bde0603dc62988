-- The index of no areas, and of one area more; and the area that serves a key.
use Rattle.xl_areas.proofs.Common.{◌&&◌, ◌*◌, ◌++◌, ◌+◌, ◌<◌, ◌==◌, ◌^◌, ◌∙◌, ◌∷◌, ◌≡◌, ◌≤◌, ◌⊎◌, [], All, answer_at, ap, Area, AreRising, arith, Bool, Bound, cond, cut_at, false, find, has_key, in_area, inl, inr, IsIndex, IsPlaced, key_at, length, length-append, length-map, List, map, nat_le, nat_lt, nat_tests, None, Option, or_later, refl, Some, suc, sym, true, with_later, zero, ℕ}
use Rattle.xl_areas.proofs.CutLemmas.{cut-answers, cut-bound, cut-keeps, cut-length, cut-rises, IsBound}

-- A later area among the bounds.
pub later-rises : (from : ℕ) (area : Area) (bounds : List Bound) → AreRising from bounds → AreRising from (map (with_later area) bounds)
later-rises from area [] r = r
later-rises from area (b ∷ bounds) r = (r.0, later-rises b.key area bounds r.1)

-- a bound lies above where all begin
bound-above : (from key : ℕ) (bounds : List Bound) → AreRising from bounds → IsBound key bounds → from ≤ key
bound-above from key [] r i = absurd i
bound-above from key (b ∷ bounds) r i =
    let first : from ≤ b.key = r.0 in
    elim i as (λ _. from ≤ key) [
      | inl e ↦ omega arith
      | inr j ↦ let up = bound-above b.key key bounds r.1 j in omega arith
    ]

-- a bound of the area lies at or below where the answer begins, or above the key
abbrev IsAside : ℕ → ℕ → ℕ → Type 0
IsAside low key at = (at ≤ low) ⊎ (key < at)

sides : (low key first end : ℕ) → low ≤ key → IsAside low key first → IsAside low key end → (nat_le first low && nat_lt low end) ≡ (nat_le first key && nat_lt key end)
sides low key first end h f e =
    elim f as (λ _. (nat_le first low && nat_lt low end) ≡ (nat_le first key && nat_lt key end)) [
      | inl x ↦ elim e as (λ _. (nat_le first low && nat_lt low end) ≡ (nat_le first key && nat_lt key end)) [
        | inl y ↦ let a : nat_lt low end ≡ false = grind (arith, nat_tests) in let b : nat_lt key end ≡ false = grind (arith, nat_tests) in
            let c : nat_le first low ≡ true = grind (arith, nat_tests) in let d : nat_le first key ≡ true = grind (arith, nat_tests) in rw a (rw b (rw c (rw d refl)))
        | inr y ↦ let a : nat_lt low end ≡ true = grind (arith, nat_tests) in let b : nat_lt key end ≡ true = grind (arith, nat_tests) in
            let c : nat_le first low ≡ true = grind (arith, nat_tests) in let d : nat_le first key ≡ true = grind (arith, nat_tests) in rw a (rw b (rw c (rw d refl)))
      ]
      | inr x ↦ let a : nat_le first low ≡ false = grind (arith, nat_tests) in let b : nat_le first key ≡ false = grind (arith, nat_tests) in rw a (rw b refl)
    ]

same-later : (low key : ℕ) (area : Area) (answer : Option Area) → has_key low area ≡ has_key key area → or_later low area answer ≡ or_later key area answer
same-later low key area None e = ap (λ c. cond c (Some area) None) e
same-later low key area (Some x) e = refl

-- where the answer begins at a bound
later-from : (low key : ℕ) (area : Area) (before : Option Area) (bounds : List Bound) → low ≤ key → AreRising low bounds
    → (key_at area.space area.page ≤ low) ⊎ IsBound (key_at area.space area.page) bounds → (key_at area.space area.page + area.pages ≤ low) ⊎ IsBound (key_at area.space area.page + area.pages) bounds
    → answer_at key (or_later low area before) (map (with_later area) bounds) ≡ or_later key area (answer_at key before bounds)
unfolding answer_at
later-from low key area before [] h r f e =
    same-later low key area before (sides low key (key_at area.space area.page) (key_at area.space area.page + area.pages) h (none (key_at area.space area.page) f) (none (key_at area.space area.page + area.pages) e))
  where
    none : (at : ℕ) → (at ≤ low) ⊎ IsBound at [] → IsAside low key at
    none at x = elim x as (λ _. IsAside low key at) [ inl y ↦ inl y | inr y ↦ absurd y ]
later-from low key area before (b ∷ bounds) h r f e =
    elim (nat_le b.key key)
    as (λ c. nat_le b.key key ≡ c → cond c (answer_at key (or_later b.key area b.area) (map (with_later area) bounds)) (or_later low area before) ≡ or_later key area (cond c (answer_at key b.area bounds) before)) [
      | true ↦ λ t. later-from b.key key area b.area bounds (grind (arith, nat_tests)) r.1 (moved (key_at area.space area.page) f) (moved (key_at area.space area.page + area.pages) e)
      | false ↦ λ g.
          let past : key < b.key = grind (arith, nat_tests) in
          same-later low key area before (sides low key (key_at area.space area.page) (key_at area.space area.page + area.pages) h (aside past (key_at area.space area.page) f) (aside past (key_at area.space area.page + area.pages) e))
    ] refl
  where
    moved : (at : ℕ) → (at ≤ low) ⊎ IsBound at (b ∷ bounds) → (at ≤ b.key) ⊎ IsBound at bounds
    moved at x =
        let first : low ≤ b.key = r.0 in
        elim x as (λ _. (at ≤ b.key) ⊎ IsBound at bounds) [
          | inl y ↦ inl (omega arith)
          | inr y ↦ elim y as (λ _. (at ≤ b.key) ⊎ IsBound at bounds) [ inl z ↦ inl (omega arith) | inr z ↦ inr z ]
        ]

    aside : key < b.key → (at : ℕ) → (at ≤ low) ⊎ IsBound at (b ∷ bounds) → IsAside low key at
    aside past at x =
        elim x as (λ _. IsAside low key at) [
          | inl y ↦ inl y
          | inr y ↦ let up = bound-above b.key at (b ∷ bounds) (omega arith, r.1) y in inr (omega arith)
        ]

-- where no answer was before the first bound
pub later-answers : (key : ℕ) (area : Area) (bounds : List Bound) → AreRising 0 bounds → IsBound (key_at area.space area.page) bounds → IsBound (key_at area.space area.page + area.pages) bounds
    → answer_at key None (map (with_later area) bounds) ≡ or_later key area (answer_at key None bounds)
unfolding answer_at
later-answers key area [] r f e = absurd f
later-answers key area (b ∷ bounds) r f e =
    elim (nat_le b.key key)
    as (λ c. nat_le b.key key ≡ c → cond c (answer_at key (or_later b.key area b.area) (map (with_later area) bounds)) None ≡ or_later key area (cond c (answer_at key b.area bounds) None)) [
      | true ↦ λ t. later-from b.key key area b.area bounds (grind (arith, nat_tests)) r.1 (moved (key_at area.space area.page) f) (moved (key_at area.space area.page + area.pages) e)
      | false ↦ λ g.
          let up = bound-above b.key (key_at area.space area.page) (b ∷ bounds) (omega arith, r.1) f in
          let past : nat_le (key_at area.space area.page) key ≡ false = grind (arith, nat_tests) in
          sym (rw past refl)
    ] refl
  where
    moved : (at : ℕ) → IsBound at (b ∷ bounds) → (at ≤ b.key) ⊎ IsBound at bounds
    moved at x = elim x as (λ _. (at ≤ b.key) ⊎ IsBound at bounds) [ inl z ↦ inl (omega arith) | inr z ↦ inr z ]

pub no-index : IsIndex [] []
unfolding answer_at
no-index = record { placed = λ k d h. absurd (omega arith); rising = tt; first = λ key. refl; two = refl }

find-later : (key : ℕ) (area : Area) (areas : List Area) → find (has_key key) (areas ++ area ∷ []) ≡ or_later key area (find (has_key key) areas)
find-later key area [] = refl
find-later key area (a ∷ areas) =
    elim (has_key key a) as (λ c. cond c (Some a) (find (has_key key) (areas ++ area ∷ [])) ≡ or_later key area (cond c (Some a) (find (has_key key) areas))) [
      | true ↦ refl
      | false ↦ find-later key area areas
    ]

placed-more : (area : Area) (areas : List Area) → IsPlaced area → All IsPlaced areas → All IsPlaced (areas ++ area ∷ [])
placed-more area [] p all zero d h = p
placed-more area [] p all (suc k) d h = absurd (omega arith)
placed-more area (a ∷ areas) p all zero d h = all 0 d (omega arith)
placed-more area (a ∷ areas) p all (suc k) d h = placed-more area areas p (λ j e less. all (suc j) e (omega arith)) k d (omega arith)

pub more-index : (area : Area) (areas : List Area) (bounds : List Bound) → IsPlaced area → IsIndex areas bounds
    → IsIndex (areas ++ area ∷ []) (map (with_later area) (cut_at (key_at area.space area.page + area.pages) None (cut_at (key_at area.space area.page) None bounds)))
more-index area areas bounds p x =
    let first = key_at area.space area.page in
    let end = first + area.pages in
    let one = cut_at first None bounds in
    let both = cut_at end None one in
    let r1 = cut-rises 0 first None bounds x.rising (omega arith) in
    let r2 = cut-rises 0 end None one r1 (omega arith) in
    let f = cut-keeps first end None one (cut-bound first None bounds) in
    let e = cut-bound end None one in
    let l1 = cut-length first None bounds in
    let l2 = cut-length end None one in
    let l3 : length (map (with_later area) both) ≡ length both = length-map both (with_later area) in
    let l4 = length-append areas (area ∷ []) in
    let two : length bounds ≡ 2 * length areas = x.two in
    record {
      placed = placed-more area areas p x.placed;
      rising = later-rises 0 area both r2;
      first = λ key.
          later-answers key area both r2 f e ∙ ap (or_later key area) (cut-answers key end None one ∙ cut-answers key first None bounds ∙ x.first key) ∙ sym (find-later key area areas);
      two = omega arith;
    }

same-test : (space page : ℕ) (area : Area) → page < 2 ^ 64 → IsPlaced area → has_key (key_at space page) area ≡ in_area space page area
same-test space page area h p =
    elim (area.space == space)
    as (λ c. (area.space == space) ≡ c → has_key (key_at space page) area ≡ (c && (nat_le area.page page && nat_lt page (area.page + area.pages)))) [
      | true ↦ λ t.
          let e : area.space ≡ space = grind (arith, nat_tests) in
          let low : nat_le (key_at area.space area.page) (key_at space page) ≡ nat_le area.page page = same-le (key_at area.space area.page) (key_at space page) area.page page (omega arith) (omega arith) in
          let high : nat_lt (key_at space page) (key_at area.space area.page + area.pages) ≡ nat_lt page (area.page + area.pages) = same-lt (key_at space page) (key_at area.space area.page + area.pages) page (area.page + area.pages) (omega arith) (omega arith) in
          rw low (rw high refl)
      | false ↦ λ f. apart (nat_le (key_at area.space area.page) (key_at space page)) (nat_lt (key_at space page) (key_at area.space area.page + area.pages)) (λ t u. absurd (other f t u))
    ] refl
  where
    same-le : (a b x y : ℕ) → (a ≤ b → x ≤ y) → (x ≤ y → a ≤ b) → nat_le a b ≡ nat_le x y
    same-le a b x y f g = grind (arith, nat_tests)

    same-lt : (a b x y : ℕ) → (a < b → x < y) → (x < y → a < b) → nat_lt a b ≡ nat_lt x y
    same-lt a b x y f g = grind (arith, nat_tests)

    apart : (a b : Bool) → (a ≡ true → b ≡ true → (a && b) ≡ false) → (a && b) ≡ false
    apart true true f = f refl refl
    apart true false f = refl
    apart false b f = refl

    other : (area.space == space) ≡ false → nat_le (key_at area.space area.page) (key_at space page) ≡ true → nat_lt (key_at space page) (key_at area.space area.page + area.pages) ≡ true → ⊥
    other f t u =
        let low : area.space * 2 ^ 65 + area.page ≤ space * 2 ^ 65 + page = grind (arith, nat_tests) in
        let high : space * 2 ^ 65 + page < area.space * 2 ^ 65 + area.page + area.pages = grind (arith, nat_tests) in
        let e : area.space ≡ space = omega arith in
        grind (arith, nat_tests)

same-found : (space page : ℕ) (areas : List Area) → page < 2 ^ 64 → All IsPlaced areas → find (has_key (key_at space page)) areas ≡ find (in_area space page) areas
same-found space page [] h all = refl
same-found space page (a ∷ areas) h all =
    rw (same-test space page a h (all 0 a (omega arith))) (ap (λ x. cond (in_area space page a) (Some a) x) (same-found space page areas h (λ k d less. all (suc k) d (omega arith))))

pub index-finds : (space page : ℕ) (areas : List Area) (bounds : List Bound) → page < 2 ^ 64 → IsIndex areas bounds → answer_at (key_at space page) None bounds ≡ find (in_area space page) areas
index-finds space page areas bounds h x = x.first (key_at space page) ∙ same-found space page areas h x.placed
