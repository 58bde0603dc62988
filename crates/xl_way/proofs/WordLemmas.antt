-- The words of a way: where the words of a slot are, and what a look at them finds.
use Rattle.xl_way.proofs.Common.{◌&&◌, ◌*◌, ◌++◌, ◌+◌, ◌/◌, ◌<◌, ◌==◌, ◌^◌, ◌∙◌, ◌∷◌, ◌≡◌, ◌≤◌, [], ap, AreApart, ArePlaced, arith, Bool, cell, cond, entries_of, Entry, eq-eqb, false, find, found_in, get_or, get_or-append-add, get_or_append_left, inl, inr, IsKept, IsLine, kept_of, length, length-append, List, look_of, nat_lt, nat_tests, no_entry, None, not, or_empty, passing, refl, slice_index, slot, slot_back, slot_says, slot_words, slots_of, Some, standing, suc, sym, true, WayRegs, WayShape, word_in, word_of, words_of, WordsReadBack, zero, ℕ}
use Rattle.std.proofs.Math.Nat.{pow-suc}
use Rattle.xl_list_lemmas.specs.Buckets.{gather}
use Rattle.xl_list_lemmas.specs.Members.{In}
use Rattle.xl_way.proofs.SlotLemmas.{find-at}
use Rattle.xl_way.proofs.WayLemmas.{slot-inside, way_of, word-is}

-- pairs of words, one after another
pair-length : (f : ℕ → List ℕ) → ((i : ℕ) → length (f i) ≡ 2) → (n : ℕ) → length (gather f n) ≡ 2 * n
pair-length f two zero = refl
pair-length f two (suc n) = omega (arith, pair-length f two n, two n, length-append (gather f n) (f n))

pair-at : (f : ℕ → List ℕ) → ((i : ℕ) → length (f i) ≡ 2) → (n i j : ℕ) → i < n → j < 2 → get_or (gather f n) (2 * i + j) 0 ≡ get_or (f i) j 0
pair-at f two zero i j less few = absurd (omega arith)
pair-at f two (suc n) i j less few =
    elim (i == n) as (λ b. (i == n) ≡ b → get_or (gather f n ++ f n) (2 * i + j) 0 ≡ get_or (f i) j 0) [
      | true ↦ λ t.
          let e : i ≡ n = grind (arith, nat_tests) in
          let l = pair-length f two n in
          let k : 2 * i + j ≡ length (gather f n) + j = omega arith in
          ap (λ (m : ℕ). get_or (gather f n ++ f n) m 0) k ∙ get_or-append-add (gather f n) (f n) j 0 ∙ ap (λ (m : ℕ). get_or (f m) j 0) (sym e)
      | false ↦ λ t.
          let s : i < n = grind (arith, nat_tests) in
          let l = pair-length f two n in
          get_or_append_left (gather f n) (f n) 0 (2 * i + j) (omega arith) ∙ pair-at f two n i j s few
    ] refl

pub words-size : (w : WayShape) → length (words_of w) ≡ 2 * slots_of w.cap
unfolding words_of
words-size w = pair-length (slot_words w) (λ i. refl) (slots_of w.cap)

pub key-word : (w : WayShape) (i : ℕ) → i < slots_of w.cap → slice_index (words_of w) (2 * i) ≡ (standing w i).key
unfolding words_of
key-word w i less =
    let e : 2 * i ≡ 2 * i + 0 = omega arith in
    ap (λ (k : ℕ). get_or (words_of w) k 0) e ∙ pair-at (slot_words w) (λ k. refl) (slots_of w.cap) i 0 less (omega arith)

pub leaf-word : (w : WayShape) (i : ℕ) → i < slots_of w.cap → slice_index (words_of w) (2 * i + 1) ≡ (standing w i).word
unfolding words_of
leaf-word w i less = pair-at (slot_words w) (λ k. refl) (slots_of w.cap) i 1 less (omega arith)

-- the slots fill whole lines
pub slots-even : (cap : ℕ) → slots_of cap ≡ 2 * (slots_of cap / 2)
slots-even cap = elim (cap == 0) as (λ b. (cap == 0) ≡ b → cond b 2 (2 ^ cap) ≡ 2 * (cond b 2 (2 ^ cap) / 2)) [
  | true ↦ λ t. omega arith
  | false ↦ λ t. even cap (grind (arith, nat_tests))
] refl
  where
    even : (n : ℕ) → (n ≡ 0 → ⊥) → 2 ^ n ≡ 2 * (2 ^ n / 2)
    even zero o = absurd (o refl)
    even (suc n) o = let e = pow-suc 2 n in omega arith

-- the entry whose slot it is, is that which is in the slot
pub standing-is : (number cap : ℕ) (r : WayRegs) (xs : List Entry) (i : ℕ) → ArePlaced number r xs → i < length xs → standing (way_of number cap r (entries_of xs)) i ≡ cell xs i
unfolding standing
standing-is number cap r xs i placed less =
    ap or_empty (find-at number r xs placed i (λ e. slot r number e.key == i) less (λ e t. grind (arith, nat_tests)))
    ∙ is_placed (cell xs i) ((cell xs i).word == 0) refl (λ f. placed.full i less f) (λ z. placed.empty i less z)
  where
    is_placed : (x : Entry) (b : Bool) → (x.word == 0) ≡ b → ((x.word ≡ 0 → ⊥) → slot r number x.key ≡ i) → (x.word ≡ 0 → x ≡ no_entry)
        → or_empty (passing (λ e. slot r number e.key == i) x) ≡ x
    is_placed x true t full empty =
        let e : x ≡ no_entry = empty (grind (arith, nat_tests)) in
        elim (slot r number x.key == i) as (λ a. or_empty (cond (a && not (x.word == 0)) (Some x) None) ≡ x) [
          | true ↦ rw t (sym e)
          | false ↦ sym e
        ]
    is_placed x false t full empty =
        let e : (slot r number x.key == i) ≡ true = eq-eqb _ _ (full (λ z. grind (arith, nat_tests))) in
        rw (e, t) refl

-- this very entry
is_same : Entry → Entry → Bool
is_same e x = (x.key == e.key) && (x.word == e.word)

same-key : (e x : Entry) → is_same e x ≡ true → x.key ≡ e.key
unfolding is_same
same-key e x t = grind (arith, nat_tests)

same-own : (e : Entry) → is_same e e ≡ true
unfolding is_same
same-own e = grind (arith, nat_tests)

same-entry : (x y : Entry) → x.key ≡ y.key → x.word ≡ y.word → x ≡ y
same-entry x y a b = ap (λ (n : ℕ). record { key = n; word = x.word }) a ∙ ap (λ (n : ℕ). record { key = y.key; word = n }) b

held : (e x : Entry) → (passing (is_same e) x ≡ None → ⊥) → (x ≡ e) × (0 < e.word)
unfolding is_same
held e x h = go (x.key == e.key) (x.word == e.word) (x.word == 0) refl refl refl h
  where
    go : (a b z : Bool) → (x.key == e.key) ≡ a → (x.word == e.word) ≡ b → (x.word == 0) ≡ z → (cond ((a && b) && not z) (Some x) None ≡ None → ⊥) → (x ≡ e) × (0 < e.word)
    go true true false t u v h =
        let same : x.word ≡ e.word = grind (arith, nat_tests) in
        (same-entry x e (grind (arith, nat_tests)) same, (grind (arith, nat_tests)))
    go true true true t u v h = absurd (h refl)
    go true false z t u v h = absurd (h refl)
    go false b z t u v h = absurd (h refl)

-- what passes and is a member is found
find-In : (p : Entry → Bool) (e : Entry) (es : List Entry) → In e es → p e ≡ true → find p es ≡ None → ⊥
find-In p e [] i t n = i
find-In p e (y ∷ es) i t n =
    elim (p y) as (λ b. p y ≡ b → cond b (Some y) (find p es) ≡ None → ⊥) [
      | true ↦ λ u m. absurd (cc)
      | false ↦ λ u m. elim i [
        | inl q ↦ let f : p y ≡ true = ap p (sym q) ∙ t in absurd (cc)
        | inr j ↦ find-In p e es j t m
      ]
    ] refl n

module _ (number cap : ℕ) (r : WayRegs) (xs : List Entry) (used : ℕ) (k : IsKept number cap r xs used) where
  abbrev whole : WayShape
  whole = way_of number cap r (entries_of xs)

  key-in : (i : ℕ) → i < length xs → slice_index (words_of whole) (2 * i) ≡ (cell xs i).key
  key-in i less =
      key-word (way_of number cap r (entries_of xs)) i (let s = k.size in omega arith)
      ∙ ap (λ (x : Entry). x.key) (standing-is number cap r xs i k.placed less)

  word-in : (i : ℕ) → i < length xs → slice_index (words_of whole) (2 * i + 1) ≡ (cell xs i).word
  word-in i less =
      leaf-word (way_of number cap r (entries_of xs)) i (let s = k.size in omega arith)
      ∙ ap (λ (x : Entry). x.word) (standing-is number cap r xs i k.placed less)

  size-in : length (words_of whole) ≡ 2 * length xs
  size-in = words-size (way_of number cap r (entries_of xs)) ∙ ap (λ (n : ℕ). 2 * n) (sym k.size)

  -- the four words of two slots that are side by side
  pub line-is : (line : ℕ) → 2 * line + 2 ≤ length xs
      → IsLine (words_of (way_of number cap r (entries_of xs))) line
      ((cell xs (2 * line)).key ∷ (cell xs (2 * line)).word ∷ (cell xs (2 * line + 1)).key ∷ (cell xs (2 * line + 1)).word ∷ [])
  line-is line there = record {
    there = (let s = size-in in omega arith);
    same = λ j less. each j less;
  }
    where
      each : (j : ℕ) → j < 4 → slice_index ((cell xs (2 * line)).key ∷ (cell xs (2 * line)).word ∷ (cell xs (2 * line + 1)).key ∷ (cell xs (2 * line + 1)).word ∷ []) j
          ≡ slice_index (words_of (way_of number cap r (entries_of xs))) (4 * line + j)
      each zero less =
          let e : 2 * (2 * line) ≡ 4 * line + 0 = omega arith in
          sym (ap (λ (n : ℕ). slice_index (words_of (way_of number cap r (entries_of xs))) n) (sym e) ∙ key-in (2 * line) (omega arith))
      each (suc zero) less =
          let e : 2 * (2 * line) + 1 ≡ 4 * line + 1 = omega arith in
          sym (ap (λ (n : ℕ). slice_index (words_of (way_of number cap r (entries_of xs))) n) (sym e) ∙ word-in (2 * line) (omega arith))
      each (suc (suc zero)) less =
          let e : 2 * (2 * line + 1) ≡ 4 * line + 2 = omega arith in
          sym (ap (λ (n : ℕ). slice_index (words_of (way_of number cap r (entries_of xs))) n) (sym e) ∙ key-in (2 * line + 1) (omega arith))
      each (suc (suc (suc zero))) less =
          let e : 2 * (2 * line + 1) + 1 ≡ 4 * line + 3 = omega arith in
          sym (ap (λ (n : ℕ). slice_index (words_of (way_of number cap r (entries_of xs))) n) (sym e) ∙ word-in (2 * line + 1) (omega arith))
      each (suc (suc (suc (suc j)))) less = absurd (omega arith)

  pub line-none : (line : ℕ) → length xs < 2 * line + 2 → length (words_of (way_of number cap r (entries_of xs))) < 4 * line + 4
  line-none line few = let s = size-in in omega arith

  -- a look at the words finds what is kept
  pub look-is : (key : ℕ) → slot_back (words_of (way_of number cap r (entries_of xs))) r number key ≡ look_of (word_of key (entries_of xs))
  unfolding slot_back
  look-is key =
      let at : ℕ = slot r number key in
      let less : at < length xs = slot-inside number cap r xs used key k in
      let there : nat_lt (length (words_of (way_of number cap r (entries_of xs)))) (4 * (at / 2) + 4) ≡ false =
      (let s = size-in in let e = slots-even cap in let z = k.size in let l : 4 * (at / 2) + 4 ≤ 2 * length xs = room at (length xs) (slots_of cap / 2) less (z ∙ e) in grind (arith, nat_tests)) in
      let a : slot_says (words_of (way_of number cap r (entries_of xs))) at key ≡ found_in key (slice_index (words_of (way_of number cap r (entries_of xs))) (2 * at)) (slice_index (words_of (way_of number cap r (entries_of xs))) (2 * at + 1)) = rw there refl in
      a ∙ ap (λ (n : ℕ). found_in key n (slice_index (words_of (way_of number cap r (entries_of xs))) (2 * at + 1))) (key-in at less)
      ∙ ap (λ (n : ℕ). found_in key (cell xs at).key n) (word-in at less)
      ∙ says (cell xs at) ((cell xs at).key == key) ((cell xs at).word == 0) refl refl
      ∙ ap look_of (sym (word-is number cap r xs used key at k refl))
    where
      room : (at n h : ℕ) → at < n → n ≡ 2 * h → 4 * (at / 2) + 4 ≤ 2 * n
      room at n h less e = omega arith

      says : (x : Entry) (a b : Bool) → (x.key == key) ≡ a → (x.word == 0) ≡ b → found_in key x.key x.word ≡ look_of (word_in (kept_of key x))
      says x true true t u = rw (t, u) refl
      says x true false t u = rw (t, u) refl
      says x false true t u = rw t refl
      says x false false t u = rw t refl

  -- an entry that is held is in its slot
  pub is_placed-in : (e : Entry) → In e (entries_of xs) → (cell xs (slot r number e.key) ≡ e) × (0 < e.word)
  is_placed-in e i =
      let at : ℕ = slot r number e.key in
      let found : find (is_same e) (entries_of xs) ≡ passing (is_same e) (cell xs at) =
      find-at number r xs k.placed at (is_same e) (slot-inside number cap r xs used e.key k) (λ x t. ap (λ (n : ℕ). slot r number n) (same-key e x t)) in
      held e (cell xs at) (λ n. find-In (is_same e) e (entries_of xs) i (same-own e) (found ∙ n))

pub read-back : (number cap : ℕ) (r : WayRegs) (xs : List Entry) (used : ℕ) → IsKept number cap r xs used → WordsReadBack (way_of number cap r (entries_of xs))
read-back number cap r xs used k = record {
  size = words-size (way_of number cap r (entries_of xs));
  keys = λ e i. key-in number cap r xs used k (slot r number e.key) (slot-inside number cap r xs used e.key k)
      ∙ ap (λ (x : Entry). x.key) (is_placed-in number cap r xs used k e i).0;
  words = λ e i. word-in number cap r xs used k (slot r number e.key) (slot-inside number cap r xs used e.key k)
      ∙ ap (λ (x : Entry). x.word) (is_placed-in number cap r xs used k e i).0;
  found = λ key. look-is number cap r xs used k key;
}

pub are-apart : (number cap : ℕ) (r : WayRegs) (xs : List Entry) (used : ℕ) → IsKept number cap r xs used → AreApart (way_of number cap r (entries_of xs))
are-apart number cap r xs used k = record {
  slots = λ x y i j e. sym (is_placed-in number cap r xs used k x i).0 ∙ ap (λ (n : ℕ). cell xs n) e ∙ (is_placed-in number cap r xs used k y j).0;
  some = λ e i. (is_placed-in number cap r xs used k e i).1;
}
