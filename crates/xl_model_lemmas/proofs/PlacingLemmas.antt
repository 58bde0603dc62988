-- An insertion that is placed adds one entry and keeps every other. For the cuckoo table and its
-- row.
use Rattle.xl_model_lemmas.proofs.Common.{◌%◌, ◌++◌, ◌+◌, ◌<◌, ◌==◌, ◌∙◌, ◌∷◌, ◌≡◌, [], advanced, after_attempt, after_placing, ap, arith, AtCap, Attempt, attempt, begins, begun, begun_if_full, Bool, by_occupant, Candidate, cond, Displaced, entries_in, entries_of, Entry, Fails, false, find, find-passes, forced, forced_moves, growths_left, insertion, length, List, map, min, nat_tests, next_way, no_moves, None, occupant, one_if, opening_way, Option, place, Placed, Placing, placing, put_in, refl, settled, settled_way, slice_set, slot, slots_left, Some, start_way, subst, suc, Succeeds, swapped, sym, tally, tally-append, to_grow, true, way_at, WayShape, with_entry, with_growth, without_key, without_occupant, zero, ℕ}
use Rattle.std.proofs.Math.Seq.{map-set_same}
use Rattle.xl_model.specs.declared.way.Moves.{Moves}
use Rattle.xl_model_lemmas.proofs.WayTallyLemmas.{tally-with_entry}

-- how many entries of all ways pass a test
abbrev pub tally_all : (Entry → Bool) → List WayShape → ℕ
tally_all p ways = tally p (entries_in ways)

-- what is taken out is what was found
find-out : (p q : Entry → Bool) (e : Entry) (xs : List Entry) → find q xs ≡ Some e → ((y : Entry) → y.key ≡ e.key → q y ≡ true) → one_if (p e) + tally p (without_key e.key xs) ≡ tally p xs
find-out p q e [] found h = absurd (cc)
find-out p q e (y ∷ ys) found h =
    elim (y.key == e.key) as (λ b. (y.key == e.key) ≡ b → one_if (p e) + tally p (cond b ys (y ∷ without_key e.key ys)) ≡ one_if (p y) + tally p ys) [
      | true ↦ λ t.
          let k : q y ≡ true = h y (grind (arith, nat_tests)) in
          let f : Some y ≡ Some e = sym (ap (λ b. cond b (Some y) (find q ys)) k) ∙ found in
          let same : y ≡ e = cc in
          ap (λ z. one_if (p z) + tally p ys) (sym same)
      | false ↦ λ t.
          elim (q y) as (λ b. q y ≡ b → cond b (Some y) (find q ys) ≡ Some e → one_if (p e) + (one_if (p y) + tally p (without_key e.key ys)) ≡ one_if (p y) + tally p ys) [
            | true ↦ λ u k. let same : y ≡ e = cc in let key : y.key ≡ e.key = ap (λ (x : Entry). x.key) same in absurd (grind (arith, nat_tests))
            | false ↦ λ u k. let rest : one_if (p e) + tally p (without_key e.key ys) ≡ tally p ys = find-out p q e ys k h in omega arith
          ] refl found
    ] refl

abbrev pub one_of : (Entry → Bool) → Option Entry → ℕ
one_of p None = 0
one_of p (Some e) = one_if (p e)

pub swapped-adds : (p : Entry → Bool) (w : WayShape) (x : Entry) (o : Option Entry) → occupant w x.key ≡ o → tally p (swapped w x).entries + one_of p o ≡ one_if (p x) + tally p w.entries
unfolding swapped occupant
swapped-adds p w x None e =
    ap (λ o. tally p (with_entry x (without_occupant o w.entries)) + 0) e
    ∙ (let h : tally p (with_entry x w.entries) ≡ one_if (p x) + tally p w.entries = tally-with_entry p x w.entries in omega arith)
swapped-adds p w x (Some y) e =
    let q : Entry → Bool = λ (z : Entry). slot w.regs w.number z.key == slot w.regs w.number x.key in
    let out : one_if (p y) + tally p (without_key y.key w.entries) ≡ tally p w.entries = find-out p q y w.entries e
    (λ z k. let b : q y ≡ true = find-passes q y w.entries e in ap (λ n. slot w.regs w.number n == slot w.regs w.number x.key) k ∙ b) in
    let h : tally p (with_entry x (without_key y.key w.entries)) ≡ one_if (p x) + tally p (without_key y.key w.entries) = tally-with_entry p x (without_key y.key w.entries) in
    ap (λ o. tally p (with_entry x (without_occupant o w.entries)) + one_if (p y)) e ∙ (omega arith)

set-adds : (p : Entry → Bool) (ways : List WayShape) (at : ℕ) (v : WayShape) → at < length ways
    → tally_all p (slice_set ways at v) + tally p (way_at ways at).entries ≡ tally_all p ways + tally p v.entries
set-adds p [] at v h = absurd (omega arith)
set-adds p (w ∷ ways) zero v h =
    let a = tally-append p v.entries (entries_in ways) in let b = tally-append p w.entries (entries_in ways) in
    omega arith
set-adds p (w ∷ ways) (suc at) v h =
    let l : at < length ways = omega arith in
    let r : tally_all p (slice_set ways at v) + tally p (way_at ways at).entries ≡ tally_all p ways + tally p v.entries = set-adds p ways at v l in
    let a = tally-append p w.entries (entries_in (slice_set ways at v)) in let b = tally-append p w.entries (entries_in ways) in
    omega arith

put-adds : (p : Entry → Bool) (ways : List WayShape) (at : ℕ) (hand : Entry) (o : Option Entry) → at < length ways → occupant (way_at ways at) hand.key ≡ o
    → tally_all p (put_in ways at hand) + one_of p o ≡ one_if (p hand) + tally_all p ways
put-adds p ways at hand o l e =
    let a = set-adds p ways at (swapped (way_at ways at) hand) l in
    let b = swapped-adds p (way_at ways at) hand o e in
    omega arith

pub set-length : {A : Type 0} (xs : List A) (at : ℕ) (x : A) → length (slice_set xs at x) ≡ length xs
set-length [] at x = refl
set-length (y ∷ ys) zero x = refl
set-length (y ∷ ys) (suc at) x = ap suc (set-length ys at x)

next-in : (count at : ℕ) → at < count → next_way count at < count
next-in zero at h = elim h [ ]
next-in (suc n) at h = mod-less (at + 1) n
  where
    mod-less : (a n : ℕ) → a % suc n < suc n
    mod-less a n = omega arith

-- what holds of the ways, and of what was displaced, where an attempt succeeds
abbrev pub Succeeded : (List WayShape → List Displaced → Type 0) → Attempt → Type 0
Succeeded C (Succeeds ways moved) = C ways moved
Succeeded C Fails = Unit {0}

-- What one step of an attempt keeps, the attempt keeps up to an empty slot.
pub attempt-by : (I : List WayShape → ℕ → Entry → List Displaced → Type 0) (C : List WayShape → List Displaced → Type 0)
    → ((ways : List WayShape) (at : ℕ) (hand : Entry) (moved : List Displaced) → I ways at hand moved → occupant (way_at ways at) hand.key ≡ None → C (put_in ways at hand) moved)
    → ((ways : List WayShape) (at : ℕ) (hand : Entry) (moved : List Displaced) (y : Entry) → I ways at hand moved → occupant (way_at ways at) hand.key ≡ Some y
    → I (put_in ways at hand) (next_way (length ways) at) y (moved ++ record { key = y.key; way = next_way (length ways) at } ∷ []))
    → (left : ℕ) (ways : List WayShape) (at : ℕ) (hand : Entry) (moved : List Displaced) → I ways at hand moved → Succeeded C (attempt left ways at hand moved)
unfolding attempt
attempt-by I C done next zero ways at hand moved h = go (occupant (way_at ways at) hand.key) refl
  where
    go : (o : Option Entry) → occupant (way_at ways at) hand.key ≡ o → Succeeded C (by_occupant o (Succeeds (put_in ways at hand) moved) (λ e. Fails))
    go None none = done ways at hand moved h none
    go (Some y) some = tt
attempt-by I C done next (suc left) ways at hand moved h =
    go (occupant (way_at ways at) hand.key) refl
    (λ y some. attempt-by I C done next left (put_in ways at hand) (next_way (length ways) at) y (moved ++ record { key = y.key; way = next_way (length ways) at } ∷ [])
    (next ways at hand moved y h some))
  where
    go : (o : Option Entry) → occupant (way_at ways at) hand.key ≡ o
        → ((y : Entry) → occupant (way_at ways at) hand.key ≡ Some y
        → Succeeded C (attempt left (put_in ways at hand) (next_way (length ways) at) y (moved ++ record { key = y.key; way = next_way (length ways) at } ∷ [])))
        → Succeeded C (by_occupant o (Succeeds (put_in ways at hand) moved)
        (λ y. attempt left (put_in ways at hand) (next_way (length ways) at) y (moved ++ record { key = y.key; way = next_way (length ways) at } ∷ [])))
    go None none rest = done ways at hand moved h none
    go (Some y) some rest = rest y some

abbrev pub PlacedBy : (List WayShape → List Displaced → Type 0) → (List WayShape → Type 0) → Placing → Type 0
PlacedBy C Q (Placed ways moved m) = C ways moved
PlacedBy C Q (AtCap ways m) = Q ways

after-by : (C : List WayShape → List Displaced → Type 0) (Q : List WayShape → Type 0) (a : Attempt) (limit : ℕ) (m : Moves) (failed : Moves → Placing)
    → Succeeded C a → ((n : Moves) → PlacedBy C Q (failed n)) → PlacedBy C Q (after_attempt a limit m failed)
after-by C Q (Succeeds ways moved) limit m failed h next = h
after-by C Q Fails limit m failed h next = next _

-- What each attempt gives, and each growth keeps, is so of the placing.
pub placing-by : (C : List WayShape → List Displaced → Type 0) (Q : List WayShape → Type 0) (x : Entry) (limit : ℕ)
    → ((ways : List WayShape) → Q ways → Succeeded C (attempt limit ways (start_way (length ways) x.key) x []))
    → ((ways : List WayShape) (i : ℕ) → Q ways → Q (slice_set ways i (forced (way_at ways i))))
    → (room : ℕ) (ways : List WayShape) (m : Moves) → Q ways → PlacedBy C Q (placing room limit ways x m)
unfolding placing
placing-by C Q x limit tries grows zero ways m h =
    after-by C Q (attempt limit ways (start_way (length ways) x.key) x []) limit m (λ n. AtCap ways n) (tries ways h) (λ n. h)
placing-by C Q x limit tries grows (suc room) ways m h =
    after-by C Q (attempt limit ways (start_way (length ways) x.key) x []) limit m
    (λ n. with_growth (to_grow 0 ways) (AtCap ways n) (λ i. placing room limit (slice_set ways i (forced (way_at ways i))) x (forced_moves (way_at ways i) n)))
    (tries ways h)
    (λ n. grown (to_grow 0 ways) n (λ i. placing-by C Q x limit tries grows room (slice_set ways i (forced (way_at ways i))) (forced_moves (way_at ways i) n) (grows ways i h)))
  where
    grown : (c : Option Candidate) (n : Moves) → ((i : ℕ) → PlacedBy C Q (placing room limit (slice_set ways i (forced (way_at ways i))) x (forced_moves (way_at ways i) n)))
        → PlacedBy C Q (with_growth c (AtCap ways n) (λ i. placing room limit (slice_set ways i (forced (way_at ways i))) x (forced_moves (way_at ways i) n)))
    grown None n next = h
    grown (Some c) n next = next c.way

-- What each put and each growth keeps of the ways, the placing keeps.
pub placing-keeps : (Q : List WayShape → Type 0)
    → ((ways : List WayShape) (at : ℕ) (hand : Entry) → Q ways → Q (put_in ways at hand))
    → ((ways : List WayShape) (i : ℕ) → Q ways → Q (slice_set ways i (forced (way_at ways i))))
    → (room limit : ℕ) (ways : List WayShape) (x : Entry) (m : Moves) → Q ways → PlacedBy (λ us moved. Q us) Q (placing room limit ways x m)
placing-keeps Q puts grows room limit ways x m h =
    placing-by (λ us moved. Q us) Q x limit
    (λ us k. attempt-by (λ vs at hand moved. Q vs) (λ vs moved. Q vs) (λ vs at hand moved i none. puts vs at hand i) (λ vs at hand moved y i some. puts vs at hand i)
    limit us (start_way (length us) x.key) x [] k)
    grows room ways m h

attempt-adds : (p : Entry → Bool) (n left : ℕ) (ways : List WayShape) (at : ℕ) (hand : Entry) → at < length ways → one_if (p hand) + tally_all p ways ≡ n
    → Succeeded (λ after moved. tally_all p after ≡ n) (attempt left ways at hand [])
attempt-adds p n left ways at hand l h =
    attempt-by (λ us at hand moved. (at < length us) × (one_if (p hand) + tally_all p us ≡ n)) (λ us moved. tally_all p us ≡ n)
    (λ us at hand moved i none. let a = put-adds p us at hand None i.0 none in let b = i.1 in omega arith)
    (λ us at hand moved y i some. (
      subst (λ k. next_way (length us) at < k) (sym (set-length us at (swapped (way_at us at) hand))) (next-in (length us) at i.0),
      (let a = put-adds p us at hand (Some y) i.0 some in let b = i.1 in omega arith),
    ))
    left ways at hand [] (l, h)

-- ways with the same lists have the same entries
pub entries-same : (xs ys : List WayShape) → map entries_of xs ≡ map entries_of ys → entries_in xs ≡ entries_in ys
entries-same [] [] e = refl
entries-same [] (y ∷ ys) e = absurd (cc)
entries-same (x ∷ xs) [] e = absurd (cc)
entries-same (x ∷ xs) (y ∷ ys) e =
    let a : x.entries ≡ y.entries = cc in
    let b : map entries_of xs ≡ map entries_of ys = cc in
    ap (λ es. es ++ entries_in xs) a ∙ ap (λ es. y.entries ++ es) (entries-same xs ys b)

pub forced-entries : (w : WayShape) → (forced w).entries ≡ w.entries
unfolding forced advanced begun
forced-entries w = go w.regs.growing
  where
    go : (b : Bool) → (cond b w (begun w)).entries ≡ w.entries
    go true = refl
    go false = refl

grown-same : (ways : List WayShape) (i : ℕ) → entries_in (slice_set ways i (forced (way_at ways i))) ≡ entries_in ways
grown-same ways i = entries-same (slice_set ways i (forced (way_at ways i))) ways (map-set_same entries_of ways i (forced (way_at ways i)) (opening_way 0 0 0) (forced-entries (way_at ways i)))

start-in : (count key : ℕ) → 0 < count → start_way count key < count
start-in zero key h = elim h [ ]
start-in (suc n) key h = omega arith

pub settled-entries : (most threshold : ℕ) (ways : List WayShape) → map entries_of (settled most threshold ways) ≡ map entries_of ways
unfolding settled advanced begun
settled-entries most threshold [] = refl
settled-entries most threshold (w ∷ ways) =
    ap (λ es. es ∷ map entries_of (map (begun_if_full threshold) (map (settled_way most) ways))) (one (settled_way most w) ∙ two w) ∙ ap (λ es. w.entries ∷ es) (settled-entries most threshold ways)
  where
    one : (v : WayShape) → (begun_if_full threshold v).entries ≡ v.entries
    one v = elim (begins threshold v) as (λ b. (cond b (begun v) v).entries ≡ v.entries) [ true ↦ refl | false ↦ refl ]

    two : (v : WayShape) → (settled_way most v).entries ≡ v.entries
    two v = elim v.regs.growing as (λ b. (cond b (advanced (min most (slots_left v.regs)) v) v).entries ≡ v.entries) [ true ↦ refl | false ↦ refl ]

-- An insertion that is placed has the entries of the ways that its attempt left.
pub insertion-by : (C : List WayShape → List Displaced → Type 0) (Q : List WayShape → Type 0) (limit most threshold : ℕ) (ways after : List WayShape) (x : Entry) (moved : List Displaced) (m : Moves)
    → PlacedBy C Q (placing (growths_left ways) limit ways x no_moves) → insertion limit most threshold ways x ≡ Placed after moved m
    → (us : List WayShape) × (map entries_of after ≡ map entries_of us) × C us moved
unfolding insertion place
insertion-by C Q limit most threshold ways after x moved m h e = go (placing (growths_left ways) limit ways x no_moves) h e
  where
    go : (q : Placing) → PlacedBy C Q q → after_placing most threshold q ≡ Placed after moved m → (us : List WayShape) × (map entries_of after ≡ map entries_of us) × C us moved
    go (Placed us mv n) h k =
        let same : settled most threshold us ≡ after = cc in
        let known : mv ≡ moved = cc in
        (us, ap (λ (vs : List WayShape). map entries_of vs) (sym same) ∙ settled-entries most threshold us, subst (C us) known h)
    go (AtCap us n) h k = absurd (cc)

-- after an insertion each test passes as many entries as before, and the new one
pub insertion-adds : (p : Entry → Bool) (limit most threshold : ℕ) (ways after : List WayShape) (x : Entry) (moved : List Displaced) (m : Moves) → 0 < length ways
    → insertion limit most threshold ways x ≡ Placed after moved m → tally_all p after ≡ one_if (p x) + tally_all p ways
insertion-adds p limit most threshold ways after x moved m l e =
    let n : ℕ = one_if (p x) + tally_all p ways in
    let C : List WayShape → List Displaced → Type 0 = λ us mv. tally_all p us ≡ n in
    let Q : List WayShape → Type 0 = λ us. (0 < length us) × (tally_all p us ≡ tally_all p ways) in
    let r = insertion-by C Q limit most threshold ways after x moved m
    (placing-by C Q x limit
    (λ us h. attempt-adds p n limit us (start_way (length us) x.key) x (start-in (length us) x.key h.0) (ap (λ k. one_if (p x) + k) h.1))
    (λ us i h. (subst (λ c. 0 < c) (sym (set-length us i (forced (way_at us i)))) h.0, ap (tally p) (grown-same us i) ∙ h.1))
    (growths_left ways) ways no_moves (l, refl)) e in
    ap (tally p) (entries-same after r.0 r.1) ∙ r.2
