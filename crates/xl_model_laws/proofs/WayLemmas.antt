-- Two keys of one way never have one slot, and a refused insertion keeps every key and word.
use Rattle.xl_model_laws.proofs.Common.{◌%◌, ◌&&◌, ◌+◌, ◌-◌, ◌<◌, ◌==◌, ◌^◌, ◌∙◌, ◌∷◌, ◌≡◌, ◌≤◌, [], advanced, after_placing, ap, ARefusalKeepsEveryWord, arith, AtCap, Attempt, attempt, begun, begun_regs, Bool, cond, entries_of, Entry, eq-eqb, Fails, false, find, find-passes, forced, forced-entries, growths_left, HasPointer, insertion, is_at, IsPointer, KeysHaveTheirSlots, length, List, map, MigratingMovesNoEntry, Moves, nat_lt, nat_tests, no_moves, None, occupant, one_if, opening_way, Option, place, Placed, PlacedBy, Placing, placing, placing-by, refl, regs_after, reworded, slice_set, slot, slot_at, slots_left, SlotsApart, Some, start_way, subst, Succeeded, Succeeds, swapped, sym, tally, tally-none, tally-same, tally-with_entry, ThePointerIsBelowTheSlots, true, way_at, WayShape, with_entry, with_word, without_entry, without_key, without_occupant, zero-add, ℕ}
use Rattle.std.proofs.Math.Pow.{mod-mod-pow}
use Rattle.std.proofs.Math.Seq.{map-set_same}
use Rattle.std.proofs.lemmas.Nat.{pow_pos}
use Rattle.xl_model.specs.Hashes.{way_hash}
use Rattle.xl_model.specs.declared.way.WayRegs.{WayRegs}
use Rattle.xl_model_laws.proofs.WayKeepLemmas.{run-each, WayKeeps}

-- Slots of a growing way: the slot before is a function of the slot after, so keys apart stay apart.
low-bits : (h s : ℕ) → h % 2 ^ (s + 1) % 2 ^ s ≡ h % 2 ^ s
low-bits h s = let e : s + 1 ≡ 1 + s = omega arith in
    subst (λ (k : ℕ). h % 2 ^ k % 2 ^ s ≡ h % 2 ^ s) (sym e) (mod-mod-pow h 1 s)

-- the slot before, from the slot after
abbrev pub before_slot : WayRegs → ℕ → ℕ
before_slot r i = cond (r.growing && nat_lt (i % 2 ^ r.s) r.p) i (i % 2 ^ r.s)

-- the slots of a hash by the number that its low bits are and the number that one bit more gives
slot_by : Bool → ℕ → ℕ → ℕ → ℕ
slot_by growing p low wide = cond (growing && nat_lt low p) wide low

slot-low : (low wide q at m : ℕ) (growing : Bool) → slot_by growing q low wide ≡ at → wide % m ≡ low → low % m ≡ low → at % m ≡ low
unfolding slot_by
slot-low low wide q at m growing e a b = go (growing && nat_lt low q) refl
  where
    go : (t : Bool) → (growing && nat_lt low q) ≡ t → at % m ≡ low
    go true t = let f : wide ≡ at = rw t at e in rw (← f) a
    go false t = let f : low ≡ at = rw t at e in rw (← f) b

twice-low : (h s : ℕ) → h % 2 ^ s % 2 ^ s ≡ h % 2 ^ s
twice-low h s = rw zero-add at (mod-mod-pow h 0 s)

fits-back : (growing : Bool) (p low wide at at_low : ℕ) → at_low ≡ low → (growing ≡ true → low < p → at ≡ wide)
    → slot_by growing p low wide ≡ cond (growing && nat_lt at_low p) at at_low
unfolding slot_by
fits-back false p low wide at at_low e same = sym e
fits-back true p low wide at at_low e same =
    elim (nat_lt low p) as (λ b. nat_lt low p ≡ b → cond (true && b) wide low ≡ cond (true && nat_lt at_low p) at at_low) [
      | true ↦ λ t. let f : at ≡ wide = same refl (grind (arith, nat_tests)) in let g : nat_lt at_low p ≡ true = rw e t in rw g (sym f)
      | false ↦ λ t. let g : nat_lt at_low p ≡ false = rw e t in rw g (sym e)
    ] refl

-- while a way grows further, and where it has doubled
grown-back : (p n s at h : ℕ) → slot_by true (p + n) (h % 2 ^ s) (h % 2 ^ (s + 1)) ≡ at
    → slot_by true p (h % 2 ^ s) (h % 2 ^ (s + 1)) ≡ cond (true && nat_lt (at % 2 ^ s) p) at (at % 2 ^ s)
unfolding slot_by
grown-back p n s at h e =
    fits-back true p (h % 2 ^ s) (h % 2 ^ (s + 1)) at (at % 2 ^ s)
    (slot-low (h % 2 ^ s) (h % 2 ^ (s + 1)) (p + n) at (2 ^ s) true e (low-bits h s) (twice-low h s))
    (λ t less. sym (below e less))
  where
    below : slot_by true (p + n) (h % 2 ^ s) (h % 2 ^ (s + 1)) ≡ at → h % 2 ^ s < p → h % 2 ^ (s + 1) ≡ at
    below e less = passes (h % 2 ^ s) (h % 2 ^ (s + 1)) (p + n) at (omega arith) e
      where
        passes : (low wide q at : ℕ) → low < q → slot_by true q low wide ≡ at → wide ≡ at
        passes low wide q at less e = let t : nat_lt low q ≡ true = grind (arith, nat_tests) in rw t at e

doubled-back : (p s at h : ℕ) → h % 2 ^ (s + 1) ≡ at
    → slot_by true p (h % 2 ^ s) (h % 2 ^ (s + 1)) ≡ cond (true && nat_lt (at % 2 ^ s) p) at (at % 2 ^ s)
doubled-back p s at h e =
    fits-back true p (h % 2 ^ s) (h % 2 ^ (s + 1)) at (at % 2 ^ s) (rw (← e) (low-bits h s)) (λ t less. sym e)

pub slot-back : (r : WayRegs) (n h at : ℕ) → r.growing ≡ true → slot_at (regs_after n r) h ≡ at → slot_at r h ≡ before_slot r at
unfolding slot_by
slot-back r n h at growing e = go (n == slots_left r) refl
  where
    start : slot_by true r.p (h % 2 ^ r.s) (h % 2 ^ (r.s + 1)) ≡ cond (true && nat_lt (at % 2 ^ r.s) r.p) at (at % 2 ^ r.s) → slot_at r h ≡ before_slot r at
    start k = rw growing k

    go : (b : Bool) → (n == slots_left r) ≡ b → slot_at r h ≡ before_slot r at
    go true t =
        let regs : regs_after n r ≡ record { s = r.s + 1; p = 0; growing = false } = rw t refl in
        start (doubled-back r.p r.s at h (subst (λ (q : WayRegs). slot_at q h ≡ at) regs e))
    go false t =
        let regs : regs_after n r ≡ record { s = r.s; p = r.p + n; growing = true } = rw (t, growing) refl in
        start (grown-back r.p n r.s at h (subst (λ (q : WayRegs). slot_at q h ≡ at) regs e))

-- a way that isn't growing and begins to grow: every key stays in its slot
pub begun-slot : (r : WayRegs) (h : ℕ) → r.growing ≡ false → slot_at (begun_regs r) h ≡ slot_at r h
begun-slot r h e = rw e (grind (arith, nat_tests))

-- How many entries of one way pass a test: without a key, and with other words.
pub tally-le : (p q : Entry → Bool) (xs : List Entry) → ((x : Entry) → p x ≡ true → q x ≡ true) → tally p xs ≤ tally q xs
tally-le p q [] h = omega arith
tally-le p q (x ∷ xs) h =
    let rest : tally p xs ≤ tally q xs = tally-le p q xs h in
    let first : one_if (p x) ≤ one_if (q x) = go (p x) refl in
    omega arith
  where
    go : (b : Bool) → p x ≡ b → one_if (p x) ≤ one_if (q x)
    go true t = let u : q x ≡ true = h x t in rw (t, u) (omega arith)
    go false t = rw t (omega arith)

pub tally-without_key : (p : Entry → Bool) (key : ℕ) (xs : List Entry) → tally p (without_key key xs) ≤ tally p xs
tally-without_key p key [] = omega arith
tally-without_key p key (y ∷ ys) =
    elim (y.key == key) as (λ b. tally p (cond b ys (y ∷ without_key key ys)) ≤ one_if (p y) + tally p ys) [
      | true ↦ omega arith
      | false ↦ let e : tally p (without_key key ys) ≤ tally p ys = tally-without_key p key ys in omega arith
    ]

-- where a key's entries pass, and one of them is there, taking it out leaves one fewer
pub tally-out : (p : Entry → Bool) (e : Entry) (xs : List Entry) → find p xs ≡ Some e → ((x : Entry) → x.key ≡ e.key → p x ≡ true)
    → tally p (without_key e.key xs) + 1 ≡ tally p xs
tally-out p e [] found h = absurd (cc)
tally-out p e (y ∷ ys) found h =
    elim (y.key == e.key) as (λ b. (y.key == e.key) ≡ b → tally p (cond b ys (y ∷ without_key e.key ys)) + 1 ≡ one_if (p y) + tally p ys) [
      | true ↦ λ t. let k : p y ≡ true = h y (grind (arith, nat_tests)) in rw k (omega arith)
      | false ↦ λ t.
          elim (p y) as (λ b. p y ≡ b → cond b (Some y) (find p ys) ≡ Some e → one_if b + tally p (without_key e.key ys) + 1 ≡ one_if b + tally p ys) [
            | true ↦ λ u k. let same : y ≡ e = cc in let key : y.key ≡ e.key = ap (λ (x : Entry). x.key) same in absurd (grind (arith, nat_tests))
            | false ↦ λ u k. let rest : tally p (without_key e.key ys) + 1 ≡ tally p ys = tally-out p e ys k h in omega arith
          ] refl found
    ] refl

pub tally-reworded : (p : Entry → Bool) (key word : ℕ) (xs : List Entry) → ((x y : Entry) → x.key ≡ y.key → p x ≡ p y)
    → tally p (map (reworded key word) xs) ≡ tally p xs
tally-reworded p key word [] h = refl
tally-reworded p key word (x ∷ xs) h =
    let rest : tally p (map (reworded key word) xs) ≡ tally p xs = tally-reworded p key word xs h in
    let first : p (reworded key word x) ≡ p x = h (reworded key word x) x (go (x.key == key)) in
    rw (first, rest) refl
  where
    go : (b : Bool) → (cond b (record x { word = word }) x).key ≡ x.key
    go true = refl
    go false = refl

-- keys of one slot
same-slot : (r : WayRegs) (number : ℕ) (x y : Entry) → x.key ≡ y.key → slot r number x.key ≡ slot r number y.key
same-slot r number x y e = ap (slot r number) e

same-test : (r : WayRegs) (number at : ℕ) (x y : Entry) → x.key ≡ y.key → is_at r number at x ≡ is_at r number at y
same-test r number at x y e = let k : slot r number x.key ≡ slot r number y.key = same-slot r number x y e in rw k refl

-- what is left of a list whose occupant of the new key's slot is out
left-at : (r : WayRegs) (number : ℕ) (x : Entry) (xs : List Entry) (o : Option Entry)
    → find (λ (e : Entry). slot r number e.key == slot r number x.key) xs ≡ o
    → tally (λ (e : Entry). slot r number e.key == slot r number x.key) xs ≤ 1
    → tally (λ (e : Entry). slot r number e.key == slot r number x.key) (without_occupant o xs) ≡ 0
left-at r number x xs None found few = tally-none (λ (e : Entry). slot r number e.key == slot r number x.key) xs found
left-at r number x xs (Some e) found few =
    let out = tally-out (λ (e : Entry). slot r number e.key == slot r number x.key) e xs found
    (λ y k. let a : slot r number y.key ≡ slot r number e.key = same-slot r number y e k in
    let b : (slot r number e.key == slot r number x.key) ≡ true = find-passes (λ (e : Entry). slot r number e.key == slot r number x.key) e xs found in
    rw a b) in
    omega arith

out-le : (p : Entry → Bool) (o : Option Entry) (xs : List Entry) → tally p (without_occupant o xs) ≤ tally p xs
out-le p None xs = omega arith
out-le p (Some e) xs = tally-without_key p e.key xs

pub swapped-apart : (w : WayShape) (x : Entry) → SlotsApart w → SlotsApart (swapped w x)
unfolding swapped occupant
swapped-apart w x h at =
    let out : List Entry = without_occupant (find (λ (e : Entry). slot w.regs w.number e.key == slot w.regs w.number x.key) w.entries) w.entries in
    let sum : tally (is_at w.regs w.number at) (with_entry x out) ≡ one_if (is_at w.regs w.number at x) + tally (is_at w.regs w.number at) out =
    tally-with_entry (is_at w.regs w.number at) x out in
    rw sum (elim (slot w.regs w.number x.key == at) as (λ b. (slot w.regs w.number x.key == at) ≡ b → one_if b + tally (is_at w.regs w.number at) out ≤ 1) [
      | true ↦ λ t.
          let e : slot w.regs w.number x.key ≡ at = grind (arith, nat_tests) in
          let P : ℕ → Type 0 = λ i. tally (is_at w.regs w.number i) out ≡ 0 in
          let none : tally (is_at w.regs w.number at) out ≡ 0 =
          subst P e (left-at w.regs w.number x w.entries (find (λ (e : Entry). slot w.regs w.number e.key == slot w.regs w.number x.key) w.entries) refl (h (slot w.regs w.number x.key))) in
          omega arith
      | false ↦ λ t.
          let a : tally (is_at w.regs w.number at) out ≤ tally (is_at w.regs w.number at) w.entries = out-le (is_at w.regs w.number at) _ w.entries in
          let b : tally (is_at w.regs w.number at) w.entries ≤ 1 = h at in
          omega arith
    ] refl)

pub advanced-apart : (n : ℕ) (w : WayShape) → w.regs.growing ≡ true → SlotsApart w → SlotsApart (advanced n w)
unfolding advanced slot
advanced-apart n w growing h at =
    let a : tally (is_at (regs_after n w.regs) w.number at) w.entries ≤ tally (is_at w.regs w.number (before_slot w.regs at)) w.entries =
    tally-le (is_at (regs_after n w.regs) w.number at) (is_at w.regs w.number (before_slot w.regs at)) w.entries
    (λ x t.
    let e : slot_at (regs_after n w.regs) (way_hash w.number x.key) ≡ at = grind (arith, nat_tests) in
    let f : slot_at w.regs (way_hash w.number x.key) ≡ before_slot w.regs at = slot-back w.regs n (way_hash w.number x.key) at growing e in
    rw f (eq-eqb (before_slot w.regs at) (before_slot w.regs at) refl)) in
    let b : tally (is_at w.regs w.number (before_slot w.regs at)) w.entries ≤ 1 = h (before_slot w.regs at) in
    omega arith

pub begun-apart : (w : WayShape) → w.regs.growing ≡ false → SlotsApart w → SlotsApart (begun w)
unfolding begun slot
begun-apart w still h at =
    let a : tally (is_at (begun_regs w.regs) w.number at) w.entries ≡ tally (is_at w.regs w.number at) w.entries =
    tally-same (is_at (begun_regs w.regs) w.number at) (is_at w.regs w.number at) w.entries
    (λ x. let e : slot_at (begun_regs w.regs) (way_hash w.number x.key) ≡ slot_at w.regs (way_hash w.number x.key) = begun-slot w.regs (way_hash w.number x.key) still in rw e refl) in
    let b : tally (is_at w.regs w.number at) w.entries ≤ 1 = h at in
    omega arith

pub opening-apart : (s cap number : ℕ) → SlotsApart (opening_way s cap number)
unfolding opening_way
opening-apart s cap number at = omega arith

pub reworded-apart : (key word : ℕ) (w : WayShape) → SlotsApart w → SlotsApart (with_word key word w)
unfolding with_word
reworded-apart key word w h at =
    let a : tally (is_at w.regs w.number at) (map (reworded key word) w.entries) ≡ tally (is_at w.regs w.number at) w.entries =
    tally-reworded (is_at w.regs w.number at) key word w.entries (λ x y e. same-test w.regs w.number at x y e) in
    let b : tally (is_at w.regs w.number at) w.entries ≤ 1 = h at in
    omega arith

pub without-apart : (key : ℕ) (w : WayShape) → SlotsApart w → SlotsApart (without_entry key w)
unfolding without_entry
without-apart key w h at =
    let a = tally-without_key (is_at w.regs w.number at) key w.entries in
    let b : tally (is_at w.regs w.number at) w.entries ≤ 1 = h at in
    omega arith

-- the steps of a way keep its slots apart
slots-keep : WayKeeps SlotsApart
slots-keep = record {
  opened = opening-apart;
  swapped_in = swapped-apart;
  advances = λ n w growing few h. advanced-apart n w growing h;
  begins = begun-apart;
  reworded = reworded-apart;
  drops = without-apart;
}

pub keys_have_their_slots : KeysHaveTheirSlots
keys_have_their_slots row items = run-each SlotsApart slots-keep row items

-- and its pointer below its slots
pointer-after : (n : ℕ) (r : WayRegs) → r.growing ≡ true → n ≤ slots_left r → IsPointer r → IsPointer (regs_after n r)
pointer-after n r growing few h =
    let below : r.p < 2 ^ r.s = h.below in
    elim (n == slots_left r) as (λ b. (n == slots_left r) ≡ b → IsPointer (cond b (record { s = r.s + 1; p = 0; growing = false }) (record r { p = r.p + n }))) [
      | true ↦ λ t. record { below = pow_pos (r.s + 1); still = λ e. refl }
      | false ↦ λ t. record { below = room n r.p (2 ^ r.s) below few t; still = λ e. let k : true ≡ false = sym growing ∙ e in absurd (cc) }
    ] refl
  where
    room : (n p m : ℕ) → p < m → n ≤ m - p → (n == m - p) ≡ false → p + n < m
    room n p m a b c = grind (arith, nat_tests)

pointer-keeps : WayKeeps HasPointer
unfolding opening_way swapped advanced begun with_word without_entry
pointer-keeps = record {
  opened = λ start cap number. record { below = pow_pos start; still = λ e. refl };
  swapped_in = λ w x h. h;
  advances = λ n w growing few h. pointer-after n w.regs growing few h;
  begins = λ w still h. record { below = pow_pos w.regs.s; still = λ e. refl };
  reworded = λ key word w h. h;
  drops = λ key w h. h;
}

pub the_pointer_is_below_the_slots : ThePointerIsBelowTheSlots
the_pointer_is_below_the_slots row items = run-each HasPointer pointer-keeps row items

-- a refusal keeps every key and word
abbrev AsBefore : List WayShape → Placing → Type 0
AsBefore ways p = PlacedBy (λ us moved. Unit {0}) (λ us. map entries_of us ≡ map entries_of ways) p

set-entries : (ways : List WayShape) (i : ℕ) → map entries_of (slice_set ways i (forced (way_at ways i))) ≡ map entries_of ways
set-entries ways i = map-set_same entries_of ways i (forced (way_at ways i)) (opening_way 0 0 0) (forced-entries (way_at ways i))

placing-before : (room limit : ℕ) (ways : List WayShape) (x : Entry) (m : Moves) → AsBefore ways (placing room limit ways x m)
placing-before room limit ways x m =
    placing-by (λ us moved. Unit {0}) (λ us. map entries_of us ≡ map entries_of ways) x limit
    (λ us h. any (attempt limit us (start_way (length us) x.key) x [])) (λ us i h. set-entries us i ∙ h) room ways m refl
  where
    any : (a : Attempt) → Succeeded (λ us moved. Unit {0}) a
    any (Succeeds us moved) = tt
    any Fails = tt

refused-before : (most threshold : ℕ) (ways after : List WayShape) (p : Placing) (m : Moves) → AsBefore ways p → after_placing most threshold p ≡ AtCap after m → map entries_of after ≡ map entries_of ways
refused-before most threshold ways after (Placed w moved n) m h e = absurd (cc)
refused-before most threshold ways after (AtCap w n) m h e = let same : w ≡ after = cc in let P : List WayShape → Type 0 = λ z. map entries_of z ≡ map entries_of ways in subst P same h

pub a_refusal_keeps_every_word : ARefusalKeepsEveryWord
unfolding insertion place
a_refusal_keeps_every_word limit most threshold ways after x m e =
    refused-before most threshold ways after (placing (growths_left ways) limit ways x no_moves) m (placing-before (growths_left ways) limit ways x no_moves) e

pub migrating_moves_no_entry : MigratingMovesNoEntry
unfolding advanced
migrating_moves_no_entry n w = refl
