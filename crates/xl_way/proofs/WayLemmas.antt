-- What a way keeps, through each of its changes, over its number, cap, registers and slots.
use Rattle.xl_way.proofs.Common.{◌&&◌, ◌+◌, ◌<◌, ◌==◌, ◌^◌, ◌∙◌, ◌∷◌, ◌≡◌, ◌≤◌, [], ap, ArePlaced, arith, begun_regs, Bool, cell, cond, entries_of, Entry, eq-eqb, false, find, get_or-replicate, get_or-set_other, get_or-set_same, has_key, is_held, is_some, IsKept, kept_of, length, length-replicate, length-set, List, map, moved, nat_lt, nat_tests, no_entry, None, not, occupant, Option, passing, pow_mono, pow_pos, reach, refl, regs_after, replicate, reworded, set, set-get_or, slot, slots_of, Some, subst, swapped, sym, true, way_hash, WayRegs, WayShape, with_entry, with_word, without_entry, without_key, without_occupant, word_in, word_of, ℕ}
use Rattle.xl_list_lemmas.proofs.MemberLemmas.{any-find}
use Rattle.xl_way.proofs.GrowthLemmas.{after-regs, begun-are, reach-there, slot-begun, slot-empty, slot-reach, slot-stays, slot-within}
use Rattle.xl_way.proofs.SlotLemmas.{alone-at, entries-empty, entries-set, few-entries, find-at, length-with, others, others-none, split-at, without-with}

-- a way of these parts
abbrev pub way_of : ℕ → ℕ → WayRegs → List Entry → WayShape
way_of number cap r es = record { number = number; cap = cap; regs = r; entries = es }

-- what is in a slot, if it isn't empty
abbrev pub standing_in : Entry → Option Entry
standing_in x = cond (x.word == 0) None (Some x)

pub slot-inside : (number cap : ℕ) (r : WayRegs) (xs : List Entry) (used key : ℕ) → IsKept number cap r xs used → slot r number key < length xs
unfolding slot
slot-inside number cap r xs used key k =
    let a = slot-reach r (way_hash number key) in
    let b = reach-there cap r k.regs in
    let c = k.size in
    omega arith

few-slots : (cap : ℕ) → cap ≤ 18 → slots_of cap ≤ 2 ^ 18
few-slots cap few = elim (cap == 0) as (λ b. cond b 2 (2 ^ cap) ≤ 2 ^ 18) [ true ↦ omega arith | false ↦ pow_mono few ]

pub few-used : (number cap : ℕ) (r : WayRegs) (xs : List Entry) (used : ℕ) → IsKept number cap r xs used → used ≤ 2 ^ 18
few-used number cap r xs used k =
    let a = k.count in
    let b = few-entries xs in
    let c = k.size in
    let d = few-slots cap k.regs.few in
    omega arith

-- the word that is kept for a key is that of its slot
pub word-is : (number cap : ℕ) (r : WayRegs) (xs : List Entry) (used key at : ℕ) → IsKept number cap r xs used → at ≡ slot r number key
    → word_of key (entries_of xs) ≡ word_in (kept_of key (cell xs at))
unfolding word_of
word-is number cap r xs used key at k is =
    ap word_in (find-at number r xs k.placed at (has_key key) (rw is (slot-inside number cap r xs used key k)) of)
  where
    of : (e : Entry) → has_key key e ≡ true → slot r number e.key ≡ at
    of e t = let q : e.key ≡ key = grind (arith, nat_tests) in ap (λ (n : ℕ). slot r number n) q ∙ sym is

-- the occupant of a key's slot is what is there
pub occupant-is : (number cap : ℕ) (r : WayRegs) (xs : List Entry) (key at : ℕ) → ArePlaced number r xs → at < length xs → at ≡ slot r number key
    → occupant (way_of number cap r (entries_of xs)) key ≡ standing_in (cell xs at)
unfolding occupant
occupant-is number cap r xs key at placed less is =
    find-at number r xs placed at (λ e. slot r number e.key == slot r number key) less of
    ∙ passes (cell xs at) ((cell xs at).word == 0) refl (λ f. placed.full at less f ∙ is)
  where
    of : (e : Entry) → (slot r number e.key == slot r number key) ≡ true → slot r number e.key ≡ at
    of e t = let q : slot r number e.key ≡ slot r number key = grind (arith, nat_tests) in q ∙ sym is

    passes : (x : Entry) (b : Bool) → (x.word == 0) ≡ b → ((x.word ≡ 0 → ⊥) → slot r number x.key ≡ slot r number key)
        → passing (λ e. slot r number e.key == slot r number key) x ≡ standing_in x
    passes x true t h =
        elim (slot r number x.key == slot r number key) as (λ a. cond (a && not (x.word == 0)) (Some x) None ≡ cond (x.word == 0) None (Some x)) [
          | true ↦ rw t refl
          | false ↦ rw t refl
        ]
    passes x false t h =
        let e : (slot r number x.key == slot r number key) ≡ true = eq-eqb _ _ (h (λ z. grind (arith, nat_tests))) in
        rw (e, t) refl

-- without the occupant of a slot, the entries are those of the other slots
pub others-left : (number : ℕ) (r : WayRegs) (xs : List Entry) (at : ℕ) → ArePlaced number r xs → at < length xs
    → without_occupant (standing_in (cell xs at)) (entries_of xs) ≡ others xs at
others-left number r xs at placed less =
    elim ((cell xs at).word == 0) as (λ b. ((cell xs at).word == 0) ≡ b → entries_of xs ≡ cond b (others xs at) (with_entry (cell xs at) (others xs at))
    → without_occupant (cond b None (Some (cell xs at))) (entries_of xs) ≡ others xs at) [
      | true ↦ λ t e. e
      | false ↦ λ t e. ap (without_key (cell xs at).key) e ∙ without-with (cell xs at) (others xs at)
    ] refl (split-at number r xs placed at less)

-- an entry put into its own slot
pub placed-set : (number : ℕ) (r : WayRegs) (xs : List Entry) (at : ℕ) (x : Entry) → ArePlaced number r xs → at < length xs
    → ((x.word ≡ 0 → ⊥) → slot r number x.key ≡ at) → (x.word ≡ 0 → x ≡ no_entry) → ArePlaced number r (set xs at x)
placed-set number r xs at x placed less full empty = record {
  full = λ j l f. go-full j (let n = length-set xs at x in omega arith) f (j == at) refl;
  empty = λ j l z. go-empty j (let n = length-set xs at x in omega arith) z (j == at) refl;
}
  where
    here : (j : ℕ) → j ≡ at → cell (set xs at x) j ≡ x
    here j e = ap (λ (k : ℕ). cell (set xs at x) k) e ∙ get_or-set_same xs at x no_entry less

    there : (j : ℕ) → (j ≡ at → ⊥) → cell (set xs at x) j ≡ cell xs j
    there j o = get_or-set_other xs at j x no_entry o

    go-full : (j : ℕ) → j < length xs → ((cell (set xs at x) j).word ≡ 0 → ⊥) → (b : Bool) → (j == at) ≡ b → slot r number (cell (set xs at x) j).key ≡ j
    go-full j l f true t =
        let e : j ≡ at = grind (arith, nat_tests) in
        ap (λ (y : Entry). slot r number y.key) (here j e) ∙ full (subst (λ (y : Entry). y.word ≡ 0 → ⊥) (here j e) f) ∙ sym e
    go-full j l f false t =
        let o : j ≡ at → ⊥ = (λ e. grind (arith, nat_tests)) in
        ap (λ (y : Entry). slot r number y.key) (there j o) ∙ placed.full j l (subst (λ (y : Entry). y.word ≡ 0 → ⊥) (there j o) f)

    go-empty : (j : ℕ) → j < length xs → (cell (set xs at x) j).word ≡ 0 → (b : Bool) → (j == at) ≡ b → cell (set xs at x) j ≡ no_entry
    go-empty j l z true t =
        let e : j ≡ at = grind (arith, nat_tests) in
        here j e ∙ empty (sym (ap (λ (y : Entry). y.word) (here j e)) ∙ z)
    go-empty j l z false t =
        let o : j ≡ at → ⊥ = (λ e. grind (arith, nat_tests)) in
        there j o ∙ placed.empty j l (sym (ap (λ (y : Entry). y.word) (there j o)) ∙ z)

-- the entries with x in its slot, whatever was there
pub entries-now : (number : ℕ) (r : WayRegs) (xs : List Entry) (at : ℕ) (x : Entry) → ArePlaced number r xs → at < length xs → slot r number x.key ≡ at → 0 < x.word
    → entries_of (set xs at x) ≡ with_entry x (others xs at)
entries-now number r xs at x placed less is some =
    let t : (x.word == 0) ≡ false = grind (arith, nat_tests) in
    entries-set xs at x less (alone-at number r xs placed at x is) ∙ rw t refl

swap-by : (w : WayShape) (x : Entry) (o : Option Entry) (es : List Entry) → occupant w x.key ≡ o → without_occupant o w.entries ≡ es → swapped w x ≡ record w { entries = with_entry x es }
unfolding swapped
swap-by w x o es e f = ap (λ (p : Option Entry). record w { entries = with_entry x (without_occupant p w.entries) }) e ∙ ap (λ (ys : List Entry). record w { entries = with_entry x ys }) f

pub swap-is : (number cap : ℕ) (r : WayRegs) (xs : List Entry) (at : ℕ) (x : Entry) → ArePlaced number r xs → at < length xs → at ≡ slot r number x.key → 0 < x.word
    → way_of number cap r (entries_of (set xs at x)) ≡ swapped (way_of number cap r (entries_of xs)) x
swap-is number cap r xs at x placed less is some =
    ap (λ (es : List Entry). way_of number cap r es) (entries-now number r xs at x placed less (sym is) some)
    ∙ sym (swap-by (way_of number cap r (entries_of xs)) x (standing_in (cell xs at)) (others xs at)
    (occupant-is number cap r xs x.key at placed less is) (others-left number r xs at placed less))

pub some-word : (x : Entry) → 0 < x.word → standing_in x ≡ Some x
some-word x some = let t : (x.word == 0) ≡ false = grind (arith, nat_tests) in rw t refl

-- the way after a swap, where an entry was in the slot
pub record Swapped (number cap : ℕ) (r : WayRegs) (xs ys : List Entry) (x old : Entry) : Type 0 where
  pub again : occupant (way_of number cap r (entries_of ys)) old.key ≡ Some x
  pub back : way_of number cap r (entries_of xs) ≡ swapped (way_of number cap r (entries_of ys)) old
  pub same : length (entries_of ys) ≡ length (entries_of xs)

pub swap-back : (number cap : ℕ) (r : WayRegs) (xs : List Entry) (at : ℕ) (x : Entry) → ArePlaced number r xs → at < length xs → at ≡ slot r number x.key → 0 < x.word
    → 0 < (cell xs at).word → Swapped number cap r xs (set xs at x) x (cell xs at)
swap-back number cap r xs at x placed less is some full =
    let old : Entry = cell xs at in
    let ys : List Entry = set xs at x in
    let z : (x.word ≡ 0 → ⊥) = (λ e. omega arith) in
    let zo : (old.word ≡ 0 → ⊥) = (λ e. omega arith) in
    let now : ArePlaced number r ys = placed-set number r xs at x placed less (λ f. sym is) (λ e. absurd (z e)) in
    let own : slot r number old.key ≡ at = placed.full at less zo in
    let here : cell ys at ≡ x = get_or-set_same xs at x no_entry less in
    let there : at < length ys = (let n = length-set xs at x in omega arith) in
    let again : occupant (way_of number cap r (entries_of ys)) old.key ≡ Some x =
    occupant-is number cap r ys old.key at now there (sym own) ∙ ap standing_in here ∙ some-word x some in
    let new : entries_of ys ≡ with_entry x (others xs at) = entries-now number r xs at x placed less (sym is) some in
    let t : (old.word == 0) ≡ false = grind (arith, nat_tests) in
    let was : entries_of xs ≡ with_entry old (others xs at) = split-at number r xs placed at less ∙ rw t refl in
    record {
      again = again;
      back = ap (λ (es : List Entry). way_of number cap r es) was
          ∙ sym (swap-by (way_of number cap r (entries_of ys)) old (Some x) (others xs at) again
          (ap (without_key x.key) new ∙ without-with x (others xs at)));
      same = (let a = ap (λ (es : List Entry). length es) new in let b = ap (λ (es : List Entry). length es) was in
          let c = length-with x (others xs at) in let d = length-with old (others xs at) in omega arith);
    }

-- where no entry was in the slot, there is one more
pub swap-more : (number : ℕ) (r : WayRegs) (xs : List Entry) (at : ℕ) (x : Entry) → ArePlaced number r xs → at < length xs → at ≡ slot r number x.key → 0 < x.word
    → (cell xs at).word ≡ 0 → length (entries_of (set xs at x)) ≡ length (entries_of xs) + 1
swap-more number r xs at x placed less is some none =
    let new : entries_of (set xs at x) ≡ with_entry x (others xs at) = entries-now number r xs at x placed less (sym is) some in
    let t : ((cell xs at).word == 0) ≡ true = grind (arith, nat_tests) in
    let was : entries_of xs ≡ others xs at = split-at number r xs placed at less ∙ rw t refl in
    let a = ap (λ (es : List Entry). length es) new in
    let b = ap (λ (es : List Entry). length es) was in
    let c = length-with x (others xs at) in
    omega arith

pub kept-set : (number cap : ℕ) (r : WayRegs) (xs : List Entry) (used at : ℕ) (x : Entry) (now : ℕ) → IsKept number cap r xs used → at < length xs
    → ((x.word ≡ 0 → ⊥) → slot r number x.key ≡ at) → (x.word ≡ 0 → x ≡ no_entry) → now ≡ length (entries_of (set xs at x)) → IsKept number cap r (set xs at x) now
kept-set number cap r xs used at x now k less full empty count = record {
  regs = k.regs;
  size = length-set xs at x ∙ k.size;
  placed = placed-set number r xs at x k.placed less full empty;
  count = count;
}

-- a key that is held is in its slot, and in no other
pub record Held (number : ℕ) (r : WayRegs) (xs : List Entry) (used key at : ℕ) : Type 0 where
  pub same : (cell xs at).key ≡ key
  pub was : entries_of xs ≡ with_entry (cell xs at) (others xs at)
  pub none : find (has_key key) (others xs at) ≡ None
  pub count : used ≡ length (others xs at) + 1

pub held-is : (number cap : ℕ) (r : WayRegs) (xs : List Entry) (used key at : ℕ) → IsKept number cap r xs used → at ≡ slot r number key
    → is_held (way_of number cap r (entries_of xs)) key ≡ true → Held number r xs used key at
held-is number cap r xs used key at k is held =
    let less : at < length xs = rw is (slot-inside number cap r xs used key k) in
    let found : find (has_key key) (entries_of xs) ≡ passing (has_key key) (cell xs at) = find-at number r xs k.placed at (has_key key) less of in
    let some : is_some (passing (has_key key) (cell xs at)) ≡ true = ap is_some (sym found) ∙ sym (any-find (has_key key) (entries_of xs)) ∙ held in
    go ((cell xs at).key == key) ((cell xs at).word == 0) refl refl some (split-at number r xs k.placed at less)
    (others-none number r xs k.placed at (has_key key) less of)
  where
    of : (e : Entry) → has_key key e ≡ true → slot r number e.key ≡ at
    of e t = let q : e.key ≡ key = grind (arith, nat_tests) in ap (λ (n : ℕ). slot r number n) q ∙ sym is

    go : (a b : Bool) → ((cell xs at).key == key) ≡ a → ((cell xs at).word == 0) ≡ b → is_some (cond (a && not b) (Some (cell xs at)) None) ≡ true
        → entries_of xs ≡ cond b (others xs at) (with_entry (cell xs at) (others xs at)) → find (has_key key) (others xs at) ≡ None → Held number r xs used key at
    go true true t u h e n = absurd (cc)
    go false b t u h e n = absurd (cc)
    go true false t u h e n =
        let m = ap (λ (es : List Entry). length es) e in
        let l = length-with (cell xs at) (others xs at) in
        let c = k.count in
        record { same = grind (arith, nat_tests); was = e; none = n; count = omega arith }

-- it is taken out there
pub clear-is : (number cap : ℕ) (r : WayRegs) (xs : List Entry) (used key at : ℕ) → Held number r xs used key at
    → way_of number cap r (others xs at) ≡ without_entry key (way_of number cap r (entries_of xs))
unfolding without_entry
clear-is number cap r xs used key at h =
    ap (λ (es : List Entry). way_of number cap r es)
    (sym (ap (λ (n : ℕ). without_key n (entries_of xs)) (sym h.same) ∙ ap (without_key (cell xs at).key) h.was ∙ without-with (cell xs at) (others xs at)))

-- and given another word there
reword-key : (key word : ℕ) (x : Entry) → (reworded key word x).key ≡ x.key
reword-key key word x = elim (x.key == key) as (λ b. (cond b (record x { word = word }) x).key ≡ x.key) [ true ↦ refl | false ↦ refl ]

reword-with : (key word : ℕ) (x : Entry) (es : List Entry) → map (reworded key word) (with_entry x es) ≡ with_entry (reworded key word x) (map (reworded key word) es)
reword-with key word x [] = refl
reword-with key word x (y ∷ es) =
    let a : nat_lt (reworded key word y).key (reworded key word x).key ≡ nat_lt y.key x.key =
    ap (λ (n : ℕ). nat_lt n (reworded key word x).key) (reword-key key word y) ∙ ap (λ (n : ℕ). nat_lt y.key n) (reword-key key word x) in
    elim (nat_lt y.key x.key) as (λ b. nat_lt (reworded key word y).key (reworded key word x).key ≡ b
    → map (reworded key word) (cond b (y ∷ with_entry x es) (x ∷ y ∷ es)) ≡ with_entry (reworded key word x) (reworded key word y ∷ map (reworded key word) es)) [
      | true ↦ λ t. rw t (ap (λ (zs : List Entry). reworded key word y ∷ zs) (reword-with key word x es))
      | false ↦ λ t. rw t refl
    ] a

reword-none : (key word : ℕ) (es : List Entry) → find (has_key key) es ≡ None → map (reworded key word) es ≡ es
reword-none key word [] h = refl
reword-none key word (y ∷ es) h =
    elim (y.key == key) as (λ b. cond b (Some y) (find (has_key key) es) ≡ None → cond b (record y { word = word }) y ∷ map (reworded key word) es ≡ y ∷ es) [
      | true ↦ λ k. absurd (cc)
      | false ↦ λ k. ap (λ (zs : List Entry). y ∷ zs) (reword-none key word es k)
    ] h

pub record Reworded (number cap : ℕ) (r : WayRegs) (xs ys : List Entry) (key word : ℕ) : Type 0 where
  pub shape : way_of number cap r (entries_of ys) ≡ with_word key word (way_of number cap r (entries_of xs))
  pub same : length (entries_of ys) ≡ length (entries_of xs)

pub reword-is : (number cap : ℕ) (r : WayRegs) (xs : List Entry) (used key word at : ℕ) → IsKept number cap r xs used → at ≡ slot r number key → 0 < word
    → Held number r xs used key at → Reworded number cap r xs (set xs at (record { key = key; word = word })) key word
unfolding with_word
reword-is number cap r xs used key word at k is some h =
    let x : Entry = record { key = key; word = word } in
    let less : at < length xs = rw is (slot-inside number cap r xs used key k) in
    let now : entries_of (set xs at x) ≡ with_entry x (others xs at) = entries-now number r xs at x k.placed less (sym is) some in
    let t : ((cell xs at).key == key) ≡ true = eq-eqb _ _ h.same in
    let new : reworded key word (cell xs at) ≡ x = rw t (ap (λ (n : ℕ). record { key = n; word = word }) h.same) in
    record {
      shape = ap (λ (es : List Entry). way_of number cap r es)
          (now ∙ ap (λ (e : Entry). with_entry e (others xs at)) (sym new)
          ∙ ap (with_entry (reworded key word (cell xs at))) (sym (reword-none key word (others xs at) h.none))
          ∙ sym (reword-with key word (cell xs at) (others xs at)) ∙ ap (map (reworded key word)) (sym h.was));
      same = (let a = ap (λ (es : List Entry). length es) now in let b = ap (λ (es : List Entry). length es) h.was in
          let c = length-with x (others xs at) in let d = length-with (cell xs at) (others xs at) in omega arith);
    }

-- a way that begins to grow
pub kept-begun : (number cap : ℕ) (r : WayRegs) (xs : List Entry) (used : ℕ) → IsKept number cap r xs used → r.growing ≡ false → r.s < cap → IsKept number cap (begun_regs r) xs used
unfolding slot
kept-begun number cap r xs used k still room = record {
  regs = begun-are cap r k.regs room;
  size = k.size;
  placed = record {
    full = λ i less f. slot-begun r (way_hash number (cell xs i).key) still ∙ k.placed.full i less f;
    empty = k.placed.empty;
  };
  count = k.count;
}

-- a migrated slot: every entry is kept, and each is in its slot
module _ (number cap : ℕ) (r : WayRegs) (xs : List Entry) (used : ℕ) (k : IsKept number cap r xs used) (growing : r.growing ≡ true) where
  pub reach-in : reach r ≤ length xs
  reach-in = let a = reach-there cap r k.regs in let b = k.size in omega arith

  pub pointer-in : r.p < length xs
  pointer-in =
      let a : 2 ^ (r.s + 1) ≤ length xs = rw growing at reach-in in
      let b : 2 ^ r.s ≤ 2 ^ (r.s + 1) = pow_mono (omega arith) in
      let c = k.regs.below in
      omega arith

  -- without the entry at the pointer
  cleared : List Entry
  cleared = set xs r.p no_entry

  cleared-placed : ArePlaced number (regs_after 1 r) cleared
  unfolding cleared slot
  cleared-placed = record {
    full = λ j l f. go j (let n = length-set xs r.p no_entry in omega arith) f (j == r.p) refl;
    empty = λ j l z. (placed-set number r xs r.p no_entry k.placed pointer-in (λ f. absurd (f refl)) (λ e. refl)).empty j l z;
  }
    where
      go : (j : ℕ) → j < length xs → ((cell (set xs r.p no_entry) j).word ≡ 0 → ⊥) → (b : Bool) → (j == r.p) ≡ b
          → slot (regs_after 1 r) number (cell (set xs r.p no_entry) j).key ≡ j
      go j l f true t =
          let e : j ≡ r.p = grind (arith, nat_tests) in
          let none : cell (set xs r.p no_entry) j ≡ no_entry = ap (λ (n : ℕ). cell (set xs r.p no_entry) n) e ∙ get_or-set_same xs r.p no_entry no_entry pointer-in in
          absurd (f (ap (λ (y : Entry). y.word) none))
      go j l f false t =
          let o : j ≡ r.p → ⊥ = (λ e. grind (arith, nat_tests)) in
          let same : cell (set xs r.p no_entry) j ≡ cell xs j = get_or-set_other xs r.p j no_entry no_entry o in
          ap (λ (y : Entry). slot (regs_after 1 r) number y.key) same
          ∙ slot-stays r (way_hash number (cell xs j).key) j growing k.regs.below (k.placed.full j l (subst (λ (y : Entry). y.word ≡ 0 → ⊥) same f)) o

  -- where the entry at the pointer goes
  goes : ℕ
  goes = slot (regs_after 1 r) number (cell xs r.p).key

  goes-in : goes < length xs
  unfolding goes slot
  goes-in =
      let a : 2 ^ (r.s + 1) ≤ length xs = rw growing at reach-in in
      let b = slot-within r (way_hash number (cell xs r.p).key) growing k.regs.below in
      omega arith

  -- nothing is there
  goes-empty : ((cell xs r.p).word ≡ 0 → ⊥) → set cleared goes no_entry ≡ cleared
  unfolding cleared goes slot
  goes-empty full = ap (λ (x : Entry). set cleared goes x) (sym none) ∙ set-get_or cleared goes no_entry
    where
      at-empty : (b : Bool) → ((cell xs goes).word == 0) ≡ b → (goes ≡ r.p → ⊥) → cell xs goes ≡ no_entry
      at-empty true t o = k.placed.empty goes goes-in (grind (arith, nat_tests))
      at-empty false t o =
          let is_placed = k.placed.full goes goes-in (λ e. grind (arith, nat_tests)) in
          absurd (o (slot-empty r (way_hash number (cell xs r.p).key) (way_hash number (cell xs goes).key) goes growing k.regs.below (k.placed.full r.p pointer-in full) refl is_placed))

      by : (b : Bool) → (goes == r.p) ≡ b → cell cleared goes ≡ no_entry
      by true t =
          let e : goes ≡ r.p = grind (arith, nat_tests) in
          ap (λ (n : ℕ). cell cleared n) e ∙ get_or-set_same xs r.p no_entry no_entry pointer-in
      by false t =
          let o : goes ≡ r.p → ⊥ = (λ e. grind (arith, nat_tests)) in
          get_or-set_other xs r.p goes no_entry no_entry o ∙ at-empty ((cell xs goes).word == 0) refl o

      none : cell cleared goes ≡ no_entry
      none = by (goes == r.p) refl

  pub record Migrated (ys : List Entry) : Type 0 where
    pub entries : entries_of ys ≡ entries_of xs
    pub kept : IsKept number cap (regs_after 1 r) ys used

  made : (ys : List Entry) → entries_of ys ≡ entries_of xs → ArePlaced number (regs_after 1 r) ys → length ys ≡ length xs → Migrated ys
  made ys e placed l = record {
    entries = e;
    kept = record {
      regs = after-regs cap r k.regs growing;
      size = l ∙ k.size;
      placed = placed;
      count = k.count ∙ ap (λ (es : List Entry). length es) (sym e);
    };
  }

  pub migrate-is : Migrated (moved r number xs)
  unfolding cleared goes
  migrate-is = go ((cell xs r.p).word == 0) refl (split-at number r xs k.placed r.p pointer-in)
    where
      size : length cleared ≡ length xs
      size = length-set xs r.p no_entry

      go : (b : Bool) → ((cell xs r.p).word == 0) ≡ b → entries_of xs ≡ cond b (others xs r.p) (with_entry (cell xs r.p) (others xs r.p))
          → Migrated (cond b cleared (set cleared goes (cell xs r.p)))
      go true t e = made cleared (sym e) cleared-placed size
      go false t e =
          let full : (cell xs r.p).word ≡ 0 → ⊥ = (λ z. grind (arith, nat_tests)) in
          let some : 0 < (cell xs r.p).word = (grind (arith, nat_tests)) in
          let less : goes < length cleared = (let n = size in let m = goes-in in omega arith) in
          made (set cleared goes (cell xs r.p))
          (entries-now number (regs_after 1 r) cleared goes (cell xs r.p) cleared-placed less refl some
          ∙ ap (λ (ys : List Entry). with_entry (cell xs r.p) (entries_of ys)) (goes-empty full) ∙ sym e)
          (placed-set number (regs_after 1 r) cleared goes (cell xs r.p) cleared-placed less (λ f. refl) (λ z. absurd (full z)))
          (length-set cleared goes (cell xs r.p) ∙ size)

-- an empty way
pub kept-open : (number start cap : ℕ) (xs : List Entry) → start ≤ cap → cap ≤ 18 → xs ≡ replicate (slots_of cap) no_entry
    → IsKept number cap (record { s = start; p = 0; growing = false }) xs 0
kept-open number start cap xs within few is = record {
  regs = record { few = few; below = pow_pos start; still = λ e. refl; within = within; room = λ e. absurd (cc) };
  size = ap (λ (ys : List Entry). length ys) is ∙ length-replicate (slots_of cap) no_entry;
  placed = record {
    full = λ i less f. absurd (f (ap (λ (y : Entry). y.word) (none i less)));
    empty = λ i less z. none i less;
  };
  count = sym (ap (λ (ys : List Entry). length (entries_of ys)) is ∙ ap (λ (es : List Entry). length es) (entries-empty (slots_of cap)));
}
  where
    none : (i : ℕ) → i < length xs → cell xs i ≡ no_entry
    none i less =
        let l : i < slots_of cap = (let a = ap (λ (ys : List Entry). length ys) is in let b = length-replicate (slots_of cap) no_entry in omega arith) in
        ap (λ (ys : List Entry). cell ys i) is ∙ get_or-replicate (slots_of cap) i no_entry no_entry l

-- a key is held where a word is kept for it
pub held_by : (w : WayShape) (key : ℕ) → is_held w key ≡ is_some (word_of key w.entries)
unfolding word_of
held_by w key = any-find (has_key key) w.entries ∙ go (find (has_key key) w.entries)
  where
    go : (o : Option Entry) → is_some o ≡ is_some (word_in o)
    go None = refl
    go (Some e) = refl
