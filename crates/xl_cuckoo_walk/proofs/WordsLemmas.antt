-- The words of sections that a leaf's coming or going leaves as they are.
use Rattle.xl_cuckoo_walk.proofs.Common.{◌&&◌, ◌++◌, ◌+◌, ◌==◌, ◌||◌, ◌∙◌, ◌∷◌, ◌≡◌, [], ap, arith, attempt, attempt-by, Bool, cond, Count, count_of, counts_at, CuckooRules, CuckooWays, Displaced, entries_of, Entry, false, forced, forced-entries, growths_left, has_key, holder-same, holder_from, In, In-left, In-map, In-right, inl, insertion, insertion-by, is_held, IsSorted, IsTied, key_in, keys_from, keys_if, Leaf, leaf_entry, length, length-map, level_of, List, list_any, map, Moves, nat_le, nat_tests, new_word, next_way, no_moves, None, not, occupant, one_if, one_of, opening_way, Option, Order, order-same, page_key, part, Placed, placed_leaf, placing-by, put_in, refl, same_order, set-length, slice_set, Some, start_way, subst, suc, Succeeded, swapped, swapped-adds, sym, tally, tally-any, true, unit, way_at, way_where, ways_of, WayShape, with_leaf, with_ways, without_entry, without_key, without_leaf, word-cons, word_by, zero, ℕ}
use Rattle.std.proofs.Math.Seq.{map-set_same}
use Rattle.xl_sections.specs.Counted.{word_of}
use Rattle.xl_cuckoo_walk.proofs.CountLemmas.{Apart, word-less, word-with}
use Rattle.xl_cuckoo_walk.proofs.HoldLemmas.{entry-key}
use Rattle.xl_cuckoo_walk.proofs.IndexLemmas.{each-way}
use Rattle.xl_model.specs.declared.address.Order.TheVariants as order

-- a key that isn't this one
abbrev pub Other : ℕ → ℕ → Type 0
Other key k = k ≡ key → ⊥

other-test : (key : ℕ) (e : Entry) → Other key e.key → has_key key e ≡ false
other-test key e h = elim (e.key == key) as (λ b. (e.key == key) ≡ b → b ≡ false) [ true ↦ λ t. absurd (h (grind (arith, nat_tests))) | false ↦ λ t. refl ] refl

OtherOf : ℕ → Option Entry → Type 0
OtherOf key None = Unit {0}
OtherOf key (Some e) = Other key e.key

held-same : (key : ℕ) (w : WayShape) (x : Entry) (o : Option Entry) → occupant w x.key ≡ o → Other key x.key → OtherOf key o → is_held (swapped w x) key ≡ is_held w key
unfolding OtherOf
held-same key w x o e h k =
    let a = swapped-adds (has_key key) w x o e in
    let b : one_if (has_key key x) ≡ 0 = ap one_if (other-test key x h) in
    let c : one_of (has_key key) o ≡ 0 = none o k in
    let n : tally (has_key key) (swapped w x).entries ≡ tally (has_key key) w.entries = omega arith in
    tally-any (has_key key) (swapped w x).entries ∙ ap (λ m. not (m == 0)) n ∙ sym (tally-any (has_key key) w.entries)
  where
    none : (q : Option Entry) → OtherOf key q → one_of (has_key key) q ≡ 0
    none None u = refl
    none (Some y) u = ap one_if (other-test key y u)

holder-set : (key : ℕ) (ways : List WayShape) (at : ℕ) (v : WayShape) → is_held v key ≡ is_held (way_at ways at) key → (i : ℕ) → holder_from i (slice_set ways at v) key ≡ holder_from i ways key
holder-set key [] at v e i = refl
holder-set key (w ∷ ways) zero v e i = ap (λ b. cond b (Some i) (holder_from (i + 1) ways key)) e
holder-set key (w ∷ ways) (suc at) v e i = ap (λ o. cond (is_held w key) (Some i) o) (holder-set key ways at v e (i + 1))

-- none of these was displaced
abbrev pub NotIn : ℕ → List Displaced → Type 0
NotIn key moved = (d : Displaced) → In d moved → Other key d.key

-- a key is held in these ways as in those
abbrev HoldsAs : ℕ → List WayShape → List WayShape → Type 0
HoldsAs key ways us = (length us ≡ length ways) × ((i : ℕ) → holder_from i us key ≡ holder_from i ways key)

put-stays : (key : ℕ) (ways us : List WayShape) (at : ℕ) (hand : Entry) (o : Option Entry) → occupant (way_at us at) hand.key ≡ o → Other key hand.key → OtherOf key o
    → HoldsAs key ways us → HoldsAs key ways (put_in us at hand)
put-stays key ways us at hand o e h k r = (
  set-length us at (swapped (way_at us at) hand) ∙ r.0,
  λ i. holder-set key us at (swapped (way_at us at) hand) (held-same key (way_at us at) hand o e h k) i ∙ r.1 i,
)

attempt-stays : (key left : ℕ) (ways us : List WayShape) (at : ℕ) (hand : Entry) → Other key hand.key → HoldsAs key ways us
    → Succeeded (λ vs moved. NotIn key moved → HoldsAs key ways vs) (attempt left us at hand [])
unfolding OtherOf
attempt-stays key left ways us at hand h r =
    attempt-by (λ vs at hand moved. NotIn key moved → Other key hand.key × HoldsAs key ways vs) (λ vs moved. NotIn key moved → HoldsAs key ways vs)
    (λ vs at hand moved i none n. let k = i n in put-stays key ways vs at hand None none k.0 tt k.1)
    (λ vs at hand moved y i some n.
    let d : Displaced = record { key = y.key; way = next_way (length vs) at } in
    let k = i (λ z j. n z (In-left z moved (d ∷ []) j)) in
    let other : Other key y.key = n d (In-right d moved (d ∷ []) (inl refl)) in
    (other, put-stays key ways vs at hand (Some y) some k.0 other k.1))
    left us at hand [] (λ n. (h, r))

-- after an insertion a key that didn't come and wasn't displaced is held by the way that held it
pub insertion-stays : (key limit most threshold : ℕ) (ways after : List WayShape) (x : Entry) (moved : List Displaced) (m : Moves) → Other key x.key → NotIn key moved
    → insertion limit most threshold ways x ≡ Placed after moved m → (length after ≡ length ways) × (holder_from 0 after key ≡ holder_from 0 ways key)
insertion-stays key limit most threshold ways after x moved m h n e =
    let C : List WayShape → List Displaced → Type 0 = λ us mv. NotIn key mv → HoldsAs key ways us in
    let Q : List WayShape → Type 0 = λ us. HoldsAs key ways us in
    let r = insertion-by C Q limit most threshold ways after x moved m
    (placing-by C Q x limit (λ us k. attempt-stays key limit ways us (start_way (length us) x.key) x h k)
    (λ us i k. (
      set-length us i (forced (way_at us i)) ∙ k.0,
      λ j. holder-same j (slice_set us i (forced (way_at us i))) us key (map-set_same entries_of us i (forced (way_at us i)) (opening_way 0 0 0) (forced-entries (way_at us i))) ∙ k.1 j,
    ))
    (growths_left ways) ways no_moves (refl, λ i. refl)) e in
    let s = r.2 n in
    (sym (length-map after entries_of) ∙ ap length r.1 ∙ length-map r.0 entries_of ∙ s.0, holder-same 0 after r.0 key r.1 ∙ s.1 0)

-- the word of a section by its count and the holder of its key
abbrev word_for : Order → ℕ → Option ℕ → ℕ
word_for size n h =
    word_by (not (part order.K4 n == 0)) (not (part order.M2 n == 0)) (not (part order.G1 n == 0)) (way_where (not (part size n == 0)) h)

pub word-same : (size : Order) (key : ℕ) (old new : List Count) (ways after : List WayShape) → count_of key new ≡ count_of key old → holder_from 0 after key ≡ holder_from 0 ways key
    → new_word size key new after ≡ new_word size key old ways
unfolding new_word
word-same size key old new ways after n h =
    ap (λ c. word_for size c (holder_from 0 after key)) n ∙ ap (word_for size (count_of key old)) h

-- a leaf counts for its own section alone
not-counted : (size : Order) (key : ℕ) (x : Leaf) → (key ≡ key_in size x → ⊥) → counts_at size key x ≡ false
not-counted size key x other =
    elim (key_in size x == key) as (λ b. (key_in size x == key) ≡ b → (nat_le (level_of x.order) (level_of size) && b) ≡ false) [
      | true ↦ λ t. absurd (other (grind (arith, nat_tests)))
      | false ↦ λ t. none (nat_le (level_of x.order) (level_of size))
    ] refl
  where
    none : (b : Bool) → (b && false) ≡ false
    none true = refl
    none false = refl

word-out : (size : Order) (key : ℕ) (x : Leaf) (xs : List Leaf) → (key ≡ key_in size x → ⊥) → word_of size key (x ∷ xs) ≡ word_of size key xs
word-out size key x xs other =
    word-cons size key x xs ∙ ap (λ b. word_of size key xs + cond b (unit x.order) 0) (not-counted size key x other) ∙ (let z : word_of size key xs + 0 ≡ word_of size key xs = omega arith in z)

-- a leaf came
module _ (rules : CuckooRules) (ws : CuckooWays) (leaves : List Leaf) (x : Leaf) (after : List WayShape) (moved : List Displaced) (m : Moves)
    (apart : Apart x leaves) (placed : placed_leaf rules ws x ≡ Placed after moved m) where
  abbrev pub keys_put : Order → List ℕ
  keys_put size = keys_if (same_order size x.order) (keys_from 0 moved) ++ key_in size x ∷ []

  pub words-with : (size : Order) (old new : List Count) → IsTied size leaves old → IsTied size (with_leaf x leaves) new → (key : ℕ) → (In key (keys_put size) → ⊥)
      → new_word size key new (ways_of size (with_ways x.order after ws)) ≡ new_word size key old (ways_of size ws)
  unfolding keys_from
  words-with size old new tied tied_now key out =
      word-same size key old new (ways_of size ws) (ways_of size (with_ways x.order after ws))
      (tied_now key ∙ word-with size key x leaves apart ∙ word-out size key x leaves own ∙ sym (tied key))
      (each-way (λ q w. (In key (keys_put q) → ⊥) → holder_from 0 w key ≡ holder_from 0 (ways_of q ws) key) x.order after ws stays (λ q e n. refl) size out)
    where
      own : key ≡ key_in size x → ⊥
      own e = out (In-right key (keys_if (same_order size x.order) (keys_from 0 moved)) (key_in size x ∷ []) (inl e))

      stays : (In key (keys_put x.order) → ⊥) → holder_from 0 after key ≡ holder_from 0 (ways_of x.order ws) key
      stays n =
          let keys : List ℕ = keys_if (same_order x.order x.order) (keys_from 0 moved) in
          let other : (leaf_entry x).key ≡ key → ⊥ = λ k. n (In-right key keys (key_in x.order x ∷ []) (inl (sym k ∙ entry-key x))) in
          let none : (d : Displaced) → In d moved → d.key ≡ key → ⊥ = λ d i k.
          n (In-left key keys (key_in x.order x ∷ []) (subst (λ b. In key (keys_if b (keys_from 0 moved))) (sym (order-same x.order))
          (subst (λ n. In n (map (λ (c : Displaced). c.key) moved)) k (In-map (λ (c : Displaced). c.key) d moved i)))) in
          (insertion-stays key rules.kick_limit rules.migrate rules.threshold (ways_of x.order ws) after (leaf_entry x) moved m other none placed).1

-- a key went
any-left : (k key : ℕ) (es : List Entry) → (key ≡ k → ⊥) → list_any (has_key key) (without_key k es) ≡ list_any (has_key key) es
any-left k key [] other = refl
any-left k key (e ∷ es) other =
    elim (e.key == k) as (λ b. (e.key == k) ≡ b → list_any (has_key key) (cond b es (e ∷ without_key k es)) ≡ (has_key key e || list_any (has_key key) es)) [
      | true ↦ λ t.
          let q : e.key ≡ k = grind (arith, nat_tests) in
          let n : has_key key e ≡ false = not-key (λ s. other (sym s ∙ q)) in
          sym (ap (λ b. b || list_any (has_key key) es) n)
      | false ↦ λ t. ap (λ b. has_key key e || b) (any-left k key es other)
    ] refl
  where
    not-key : (e.key ≡ key → ⊥) → has_key key e ≡ false
    not-key h = elim (e.key == key) as (λ b. (e.key == key) ≡ b → b ≡ false) [ true ↦ λ t. absurd (h (grind (arith, nat_tests))) | false ↦ λ t. refl ] refl

holder-left : (i k key : ℕ) (ways : List WayShape) → (key ≡ k → ⊥) → holder_from i (map (without_entry k) ways) key ≡ holder_from i ways key
unfolding without_entry
holder-left i k key [] other = refl
holder-left i k key (w ∷ ways) other =
    ap (λ b. cond b (Some i) (holder_from (i + 1) (map (without_entry k) ways) key)) (any-left k key w.entries other)
    ∙ ap (λ h. cond (is_held w key) (Some i) h) (holder-left (i + 1) k key ways other)

pub words-less : (size : Order) (ws : CuckooWays) (leaves : List Leaf) (x : Leaf) → IsSorted leaves → In x leaves → (old new : List Count) → IsTied size leaves old
    → IsTied size (without_leaf x.space x.first leaves) new → (key : ℕ) → (In key (key_in size x ∷ []) → ⊥)
    → new_word size key new (ways_of size (with_ways x.order (map (without_entry (page_key x.order x.space x.first)) (ways_of x.order ws)) ws)) ≡ new_word size key old (ways_of size ws)
words-less size ws leaves x sorted there old new tied tied_now key out =
    let after : List WayShape = map (without_entry (page_key x.order x.space x.first)) (ways_of x.order ws) in
    let own : key ≡ key_in size x → ⊥ = λ e. out (inl e) in
    word-same size key old new (ways_of size ws) (ways_of size (with_ways x.order after ws))
    (tied_now key ∙ sym (word-out size key x (without_leaf x.space x.first leaves) own) ∙ sym (word-less size key x leaves sorted there) ∙ sym (tied key))
    (each-way (λ q w. (key ≡ key_in q x → ⊥) → holder_from 0 w key ≡ holder_from 0 (ways_of q ws) key) x.order after ws
    (λ n. holder-left 0 (page_key x.order x.space x.first) key (ways_of x.order ws) n) (λ q e n. refl) size own)
