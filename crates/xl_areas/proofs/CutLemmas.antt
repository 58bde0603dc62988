-- One more bound.
use Rattle.xl_areas.proofs.Common.{◌∷◌, ◌≡◌, ◌≤◌, ◌⊎◌, [], answer_at, ap, Area, AreRising, arith, Bound, cond, count_to, cut_at, false, inl, inr, insert, length, List, nat_le, nat_tests, Option, refl, suc, true, ℕ}

-- a key is that of a bound
abbrev pub IsBound : ℕ → List Bound → Type 0
IsBound key [] = ⊥
IsBound key (b ∷ bounds) = (key ≡ b.key) ⊎ IsBound key bounds

pub cut-inserts : (key : ℕ) (before : Option Area) (bounds : List Bound) → insert bounds (count_to key bounds) (record { key = key; area = answer_at key before bounds }) ≡ cut_at key before bounds
unfolding answer_at count_to cut_at
cut-inserts key before [] = refl
cut-inserts key before (b ∷ bounds) =
    elim (nat_le b.key key)
    as (λ c. insert (b ∷ bounds) (cond c (suc (count_to key bounds)) 0) (record { key = key; area = cond c (answer_at key b.area bounds) before }) ≡ cond c (b ∷ cut_at key b.area bounds) (record { key = key; area = before } ∷ b ∷ bounds)) [
      | true ↦ ap (λ bs. b ∷ bs) (cut-inserts key b.area bounds)
      | false ↦ refl
    ]

pub cut-answers : (key at : ℕ) (before : Option Area) (bounds : List Bound) → answer_at key before (cut_at at before bounds) ≡ answer_at key before bounds
unfolding answer_at cut_at
cut-answers key at before [] = elim (nat_le at key) as (λ c. cond c before before ≡ before) [ true ↦ refl | false ↦ refl ]
cut-answers key at before (b ∷ bounds) =
    elim (nat_le b.key at)
    as (λ c. nat_le b.key at ≡ c → answer_at key before (cond c (b ∷ cut_at at b.area bounds) (record { key = at; area = before } ∷ b ∷ bounds)) ≡ cond (nat_le b.key key) (answer_at key b.area bounds) before) [
      | true ↦ λ t. ap (λ x. cond (nat_le b.key key) x before) (cut-answers key at b.area bounds)
      | false ↦ λ f.
          elim (nat_le at key)
          as (λ c. nat_le at key ≡ c → cond c (cond (nat_le b.key key) (answer_at key b.area bounds) before) before ≡ cond (nat_le b.key key) (answer_at key b.area bounds) before) [
            | true ↦ λ t. refl
            | false ↦ λ g. let above : nat_le b.key key ≡ false = grind (arith, nat_tests) in rw above refl
          ] refl
    ] refl

pub cut-rises : (from key : ℕ) (before : Option Area) (bounds : List Bound) → AreRising from bounds → from ≤ key → AreRising from (cut_at key before bounds)
unfolding cut_at
cut-rises from key before [] r h = (h, tt)
cut-rises from key before (b ∷ bounds) r h =
    elim (nat_le b.key key) as (λ c. nat_le b.key key ≡ c → AreRising from (cond c (b ∷ cut_at key b.area bounds) (record { key = key; area = before } ∷ b ∷ bounds))) [
      | true ↦ λ t. (r.0, cut-rises b.key key b.area bounds r.1 (grind (arith, nat_tests)))
      | false ↦ λ f. (h, (grind (arith, nat_tests), r.1))
    ] refl

pub cut-bound : (key : ℕ) (before : Option Area) (bounds : List Bound) → IsBound key (cut_at key before bounds)
unfolding cut_at
cut-bound key before [] = inl refl
cut-bound key before (b ∷ bounds) =
    elim (nat_le b.key key) as (λ c. IsBound key (cond c (b ∷ cut_at key b.area bounds) (record { key = key; area = before } ∷ b ∷ bounds))) [
      | true ↦ inr (cut-bound key b.area bounds)
      | false ↦ inl refl
    ]

pub cut-keeps : (key at : ℕ) (before : Option Area) (bounds : List Bound) → IsBound key bounds → IsBound key (cut_at at before bounds)
unfolding cut_at
cut-keeps key at before [] i = absurd i
cut-keeps key at before (b ∷ bounds) i =
    elim (nat_le b.key at) as (λ c. IsBound key (cond c (b ∷ cut_at at b.area bounds) (record { key = at; area = before } ∷ b ∷ bounds))) [
      | true ↦ elim i as (λ _. (key ≡ b.key) ⊎ IsBound key (cut_at at b.area bounds)) [
        | inl e ↦ inl e
        | inr j ↦ inr (cut-keeps key at b.area bounds j)
      ]
      | false ↦ inr i
    ]

pub cut-length : (key : ℕ) (before : Option Area) (bounds : List Bound) → length (cut_at key before bounds) ≡ suc (length bounds)
unfolding cut_at
cut-length key before [] = refl
cut-length key before (b ∷ bounds) =
    elim (nat_le b.key key) as (λ c. length (cond c (b ∷ cut_at key b.area bounds) (record { key = key; area = before } ∷ b ∷ bounds)) ≡ suc (suc (length bounds))) [
      | true ↦ ap suc (cut-length key b.area bounds)
      | false ↦ refl
    ]
