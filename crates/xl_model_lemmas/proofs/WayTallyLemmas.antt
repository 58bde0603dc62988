-- How many ways a table opens with, and how many entries of ways pass a test: with an entry more,
-- without one, and with other words. For cuckoo tables.
use Rattle.xl_model_lemmas.proofs.Common.{◌&&◌, ◌+◌, ◌==◌, ◌∷◌, ◌≡◌, ◌≤◌, [], arith, Bool, cond, entries_in, Entry, false, find, has_key, List, map, nat_lt, None, one_if, refl, reworded, Some, tally, tally-append, tally-map, true, WayShape, with_entry, with_word, without_entry, without_key, ℕ}
use Rattle.std.proofs.Common.{ap, length, suc, zero}
use Rattle.xl_model.specs.Shapes.{opening_ways}

pub opening-length : (start most number n : ℕ) → length (opening_ways start most number n) ≡ n
opening-length start most number zero = refl
opening-length start most number (suc n) = ap suc (opening-length start most (number + 1) n)

pub tally-same : (p q : Entry → Bool) (xs : List Entry) → ((x : Entry) → p x ≡ q x) → tally p xs ≡ tally q xs
tally-same p q [] h = refl
tally-same p q (x ∷ xs) h = let a : p x ≡ q x = h x in let b : tally p xs ≡ tally q xs = tally-same p q xs h in rw (a, b) refl

pub tally-with_entry : (p : Entry → Bool) (x : Entry) (xs : List Entry) → tally p (with_entry x xs) ≡ one_if (p x) + tally p xs
tally-with_entry p x [] = refl
tally-with_entry p x (y ∷ ys) =
    elim (nat_lt y.key x.key) as (λ b. tally p (cond b (y ∷ with_entry x ys) (x ∷ y ∷ ys)) ≡ one_if (p x) + (one_if (p y) + tally p ys)) [
      | true ↦ let e : tally p (with_entry x ys) ≡ one_if (p x) + tally p ys = tally-with_entry p x ys in omega arith
      | false ↦ refl
    ]

pub tally-none : (p : Entry → Bool) (xs : List Entry) → find p xs ≡ None → tally p xs ≡ 0
tally-none p [] h = refl
tally-none p (y ∷ ys) h =
    elim (p y) as (λ b. cond b (Some y) (find p ys) ≡ None → one_if b + tally p ys ≡ 0) [
      | true ↦ λ k. absurd (cc)
      | false ↦ λ k. let e : tally p ys ≡ 0 = tally-none p ys k in omega arith
    ] h

-- where a key is at most once, taking it out takes what passes of it
pub tally-key : (p : Entry → Bool) (key : ℕ) (xs : List Entry) → tally (has_key key) xs ≤ 1
    → tally p (without_key key xs) + tally (λ e. has_key key e && p e) xs ≡ tally p xs
tally-key p key [] few = refl
tally-key p key (y ∷ ys) few =
    elim (y.key == key) as (λ b. (y.key == key) ≡ b → one_if b + tally (has_key key) ys ≤ 1
    → tally p (cond b ys (y ∷ without_key key ys)) + (one_if (b && p y) + tally (λ e. has_key key e && p e) ys) ≡ one_if (p y) + tally p ys) [
      | true ↦ λ t f. let rest : tally (λ e. has_key key e && p e) ys ≡ 0 = none-key p key ys (omega arith) in omega arith
      | false ↦ λ t f. let rest : tally p (without_key key ys) + tally (λ e. has_key key e && p e) ys ≡ tally p ys = tally-key p key ys (omega arith) in omega arith
    ] refl few
  where
    none-key : (p : Entry → Bool) (key : ℕ) (xs : List Entry) → tally (has_key key) xs ≡ 0 → tally (λ e. has_key key e && p e) xs ≡ 0
    none-key p key [] h = refl
    none-key p key (x ∷ xs) h =
        elim (x.key == key) as (λ b. one_if b + tally (has_key key) xs ≡ 0 → one_if (b && p x) + tally (λ e. has_key key e && p e) xs ≡ 0) [
          | true ↦ λ k. absurd (omega arith)
          | false ↦ λ k. let on : tally (λ e. has_key key e && p e) xs ≡ 0 = none-key p key xs (omega arith) in omega arith
        ] h

-- all ways without a key, and with another word for it
pub ways-without : (p : Entry → Bool) (key : ℕ) (ways : List WayShape) → tally (has_key key) (entries_in ways) ≤ 1
    → tally p (entries_in (map (without_entry key) ways)) + tally (λ e. has_key key e && p e) (entries_in ways) ≡ tally p (entries_in ways)
unfolding without_entry
ways-without p key [] few = refl
ways-without p key (w ∷ ways) few =
    let all = tally-append (has_key key) w.entries (entries_in ways) in
    let one = tally-key p key w.entries (omega arith) in
    let on = ways-without p key ways (omega arith) in
    let a = tally-append p (without_key key w.entries) (entries_in (map (without_entry key) ways)) in
    let b = tally-append (λ e. has_key key e && p e) w.entries (entries_in ways) in
    let c = tally-append p w.entries (entries_in ways) in
    omega arith

pub ways-reworded : (p : Entry → Bool) (key word : ℕ) (ways : List WayShape)
    → tally p (entries_in (map (with_word key word) ways)) ≡ tally (λ e. p (reworded key word e)) (entries_in ways)
unfolding with_word
ways-reworded p key word [] = refl
ways-reworded p key word (w ∷ ways) =
    let a = tally-append p (map (reworded key word) w.entries) (entries_in (map (with_word key word) ways)) in
    let b = tally-append (λ e. p (reworded key word e)) w.entries (entries_in ways) in
    let c = tally-map (reworded key word) p w.entries in
    let on = ways-reworded p key word ways in
    omega arith
