-- What an array of slots holds: an entry put into a slot, and what is found by a key or by its slot.
use Rattle.xl_way.proofs.Common.{◌&&◌, ◌<◌, ◌==◌, ◌∙◌, ◌∷◌, ◌≡◌, ◌≤◌, [], ap, ArePlaced, arith, Bool, cell, cond, entries_of, Entry, false, find, get_or-set_other, get_or-set_same, length, length-set, List, nat_lt, nat_tests, no_entry, None, not, passing, put, refl, replicate, set, set-get_or, slot, Some, subst, suc, sym, true, WayRegs, with_entry, without_key, zero, ℕ}

-- two entries of two keys may come in either order
pub with-with : (x y : Entry) (es : List Entry) → (x.key ≡ y.key → ⊥) → with_entry x (with_entry y es) ≡ with_entry y (with_entry x es)
with-with x y [] h = grind (arith, nat_tests)
with-with x y (z ∷ es) h = grind (arith, nat_tests, with-with x y es h)

pub put-put : (x y : Entry) (es : List Entry) → ((x.word ≡ 0 → ⊥) → (y.word ≡ 0 → ⊥) → x.key ≡ y.key → ⊥) → put x (put y es) ≡ put y (put x es)
put-put x y es h =
    elim (x.word == 0) as (λ a. (x.word == 0) ≡ a → cond a (put y es) (with_entry x (put y es)) ≡ put y (cond a es (with_entry x es))) [
      | true ↦ λ t. refl
      | false ↦ λ t. elim (y.word == 0) as (λ b. (y.word == 0) ≡ b → with_entry x (cond b es (with_entry y es)) ≡ cond b (with_entry x es) (with_entry y (with_entry x es))) [
        | true ↦ λ u. refl
        | false ↦ λ u. with-with x y es (h (λ k. grind (arith, nat_tests)) (λ k. grind (arith, nat_tests)))
      ] refl
    ] refl

-- the key of x is in no other slot that isn't empty
abbrev pub Alone : List Entry → ℕ → Entry → Type 0
Alone xs i x = (j : ℕ) → j < length xs → (j ≡ i → ⊥) → ((cell xs j).word ≡ 0 → ⊥) → (cell xs j).key ≡ x.key → ⊥

-- what the other slots hold
abbrev pub others : List Entry → ℕ → List Entry
others xs i = entries_of (set xs i no_entry)

pub entries-set : (xs : List Entry) (i : ℕ) (x : Entry) → i < length xs → Alone xs i x → entries_of (set xs i x) ≡ put x (others xs i)
unfolding entries_of
entries-set [] i x less alone = absurd (omega arith)
entries-set (y ∷ xs) zero x less alone = refl
entries-set (y ∷ xs) (suc i) x less alone =
    let rest : entries_of (set xs i x) ≡ put x (others xs i) =
    entries-set xs i x (omega arith) (λ j l o f k. alone (suc j) (omega arith) (λ q. o (omega arith)) f k) in
    ap (put y) rest ∙ put-put y x (others xs i) (λ f g k. alone 0 (omega arith) (λ q. omega arith) f k)

-- with its own entry put in, a slot holds what it held
pub entries-at : (xs : List Entry) (i : ℕ) → i < length xs → Alone xs i (cell xs i) → entries_of xs ≡ put (cell xs i) (others xs i)
entries-at xs i less alone = ap entries_of (sym (set-get_or xs i no_entry)) ∙ entries-set xs i (cell xs i) less alone

-- an entry put in is found where it passes
pub find-with-true : (p : Entry → Bool) (x : Entry) (es : List Entry) → find p es ≡ None → p x ≡ true → find p (with_entry x es) ≡ Some x
find-with-true p x [] h t = rw t refl
find-with-true p x (y ∷ es) h t =
    elim (p y) as (λ b. p y ≡ b → cond b (Some y) (find p es) ≡ None → find p (cond (nat_lt y.key x.key) (y ∷ with_entry x es) (x ∷ y ∷ es)) ≡ Some x) [
      | true ↦ λ u k. absurd (cc)
      | false ↦ λ u k. elim (nat_lt y.key x.key) as (λ b. find p (cond b (y ∷ with_entry x es) (x ∷ y ∷ es)) ≡ Some x) [
        | true ↦ rw u (find-with-true p x es k t)
        | false ↦ rw t refl
      ]
    ] refl h

pub find-with-false : (p : Entry → Bool) (x : Entry) (es : List Entry) → p x ≡ false → find p (with_entry x es) ≡ find p es
find-with-false p x [] h = rw h refl
find-with-false p x (y ∷ es) h =
    elim (nat_lt y.key x.key) as (λ b. find p (cond b (y ∷ with_entry x es) (x ∷ y ∷ es)) ≡ cond (p y) (Some y) (find p es)) [
      | true ↦ ap (λ o. cond (p y) (Some y) o) (find-with-false p x es h)
      | false ↦ rw h refl
    ]

pub find-put : (p : Entry → Bool) (x : Entry) (es : List Entry) → find p es ≡ None → find p (put x es) ≡ passing p x
find-put p x es h =
    elim (x.word == 0) as (λ b. find p (cond b es (with_entry x es)) ≡ cond (p x && not b) (Some x) None) [
      | true ↦ elim (p x) as (λ a. find p es ≡ cond (a && false) (Some x) None) [ true ↦ h | false ↦ h ]
      | false ↦ elim (p x) as (λ a. p x ≡ a → find p (with_entry x es) ≡ cond (a && true) (Some x) None) [
        | true ↦ λ t. find-with-true p x es h t
        | false ↦ λ t. find-with-false p x es t ∙ h
      ] refl
    ]

-- what no slot has is not found
pub find-none : (p : Entry → Bool) (xs : List Entry) → ((j : ℕ) → j < length xs → ((cell xs j).word ≡ 0 → ⊥) → p (cell xs j) ≡ false) → find p (entries_of xs) ≡ None
unfolding entries_of
find-none p [] h = refl
find-none p (x ∷ xs) h =
    let rest : find p (entries_of xs) ≡ None = find-none p xs (λ j l f. h (suc j) (omega arith) f) in
    find-put p x (entries_of xs) rest ∙ go (x.word == 0) (p x) refl refl
  where
    go : (a b : Bool) → (x.word == 0) ≡ a → p x ≡ b → cond (b && not a) (Some x) None ≡ None
    go true true t u = refl
    go true false t u = refl
    go false true t u = let f : p x ≡ false = h 0 (omega arith) (λ k. grind (arith, nat_tests)) in absurd (cc)
    go false false t u = refl

-- an entry put in is taken out by its key
pub without-with : (x : Entry) (es : List Entry) → without_key x.key (with_entry x es) ≡ es
without-with x [] = grind (arith, nat_tests)
without-with x (y ∷ es) = grind (arith, nat_tests, without-with x es)

pub length-with : (x : Entry) (es : List Entry) → length (with_entry x es) ≡ suc (length es)
length-with x [] = refl
length-with x (y ∷ es) =
    elim (nat_lt y.key x.key) as (λ b. length (cond b (y ∷ with_entry x es) (x ∷ y ∷ es)) ≡ suc (suc (length es))) [
      | true ↦ ap suc (length-with x es)
      | false ↦ refl
    ]

-- no more entries than slots
pub few-entries : (xs : List Entry) → length (entries_of xs) ≤ length xs
unfolding entries_of
few-entries [] = omega arith
few-entries (x ∷ xs) =
    elim (x.word == 0) as (λ b. length (cond b (entries_of xs) (with_entry x (entries_of xs))) ≤ suc (length xs)) [
      | true ↦ omega (arith, few-entries xs)
      | false ↦ omega (arith, few-entries xs, length-with x (entries_of xs))
    ]

-- empty slots hold nothing
pub entries-empty : (n : ℕ) → entries_of (replicate n no_entry) ≡ []
unfolding entries_of
entries-empty zero = refl
entries-empty (suc n) = entries-empty n

-- a test that only entries of one slot pass
abbrev pub IsOfSlot : ℕ → WayRegs → ℕ → (Entry → Bool) → Type 0
IsOfSlot number r i p = (e : Entry) → p e ≡ true → slot r number e.key ≡ i

module _ (number : ℕ) (r : WayRegs) (xs : List Entry) (placed : ArePlaced number r xs) where
  -- a key whose slot this is is in no other slot
  pub alone-at : (i : ℕ) (x : Entry) → slot r number x.key ≡ i → Alone xs i x
  alone-at i x is j less other full same =
      let a : slot r number (cell xs j).key ≡ j = placed.full j less full in
      let b : slot r number (cell xs j).key ≡ slot r number x.key = ap (λ (k : ℕ). slot r number k) same in
      other (sym a ∙ b ∙ is)

  -- the entry that is in a slot is there alone
  pub alone-own : (i : ℕ) → i < length xs → ((cell xs i).word ≡ 0 → ⊥) → Alone xs i (cell xs i)
  alone-own i less full = alone-at i (cell xs i) (placed.full i less full)

  -- the entries are that of the slot, if it isn't empty, and those of the others
  pub split-at : (i : ℕ) → i < length xs → entries_of xs ≡ put (cell xs i) (others xs i)
  split-at i less =
      elim ((cell xs i).word == 0) as (λ b. ((cell xs i).word == 0) ≡ b → entries_of xs ≡ put (cell xs i) (others xs i)) [
        | true ↦ λ t.
            let none : cell xs i ≡ no_entry = placed.empty i less (grind (arith, nat_tests)) in
            let same : set xs i no_entry ≡ xs = ap (λ (x : Entry). set xs i x) (sym none) ∙ set-get_or xs i no_entry in
            ap entries_of (sym same) ∙ ap (λ (x : Entry). put x (others xs i)) (sym none)
        | false ↦ λ t. entries-at xs i less (alone-own i less (λ k. grind (arith, nat_tests)))
      ] refl

  -- the others have no entry of this slot
  pub others-none : (i : ℕ) (p : Entry → Bool) → i < length xs → IsOfSlot number r i p → find p (others xs i) ≡ None
  others-none i p less of = find-none p (set xs i no_entry) each
    where
      each : (j : ℕ) → j < length (set xs i no_entry) → ((cell (set xs i no_entry) j).word ≡ 0 → ⊥) → p (cell (set xs i no_entry) j) ≡ false
      each j l full = elim (j == i) as (λ b. (j == i) ≡ b → p (cell (set xs i no_entry) j) ≡ false) [
        | true ↦ λ t.
            let e : j ≡ i = grind (arith, nat_tests) in
            let none : cell (set xs i no_entry) j ≡ no_entry = ap (λ (k : ℕ). cell (set xs i no_entry) k) e ∙ get_or-set_same xs i no_entry no_entry less in
            absurd (full (ap (λ (x : Entry). x.word) none))
        | false ↦ λ t.
            let o : j ≡ i → ⊥ = (λ e. grind (arith, nat_tests)) in
            let same : cell (set xs i no_entry) j ≡ cell xs j = get_or-set_other xs i j no_entry no_entry o in
            let inside : j < length xs = (let n = length-set xs i no_entry in omega arith) in
            let is : slot r number (cell xs j).key ≡ j = placed.full j inside (subst (λ (x : Entry). x.word ≡ 0 → ⊥) same full) in
            ap p same ∙ not-of (cell xs j) j is o
      ] refl
        where
          not-of : (e : Entry) (j : ℕ) → slot r number e.key ≡ j → (j ≡ i → ⊥) → p e ≡ false
          not-of e j is o = elim (p e) as (λ b. p e ≡ b → b ≡ false) [
            | true ↦ λ t. absurd (o (sym is ∙ of e t))
            | false ↦ λ t. refl
          ] refl

  -- what is found by a test of one slot is what is in that slot
  pub find-at : (i : ℕ) (p : Entry → Bool) → i < length xs → IsOfSlot number r i p → find p (entries_of xs) ≡ passing p (cell xs i)
  find-at i p less of =
      ap (find p) (split-at i less) ∙ find-put p (cell xs i) (others xs i) (others-none i p less of)
