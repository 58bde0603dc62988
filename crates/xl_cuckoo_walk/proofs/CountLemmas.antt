-- The counts of leaves by section when a leaf comes, goes, or gets another permission; and room for one more.
use Rattle.xl_cuckoo_walk.proofs.Common.{◌*◌, ◌+◌, ◌==◌, ◌^◌, ◌∙◌, ◌∷◌, ◌≡◌, ◌≤◌, any-In, any-is, ap, AreCounts, arith, Bool, cond, Count, count_of, counts_at, CountState, false, fits_by, HasPlace, In, In-any, In-keys, IsDropped, IsNoted, IsPlaced, IsRoomy, IsShared, IsSorted, IsTied, key_in, keys-count, keys-In, Leaf, leaf_key, length, level_of, List, list_any, nat_le, nat_tests, not, of_order, Order, Perm, refl, same-tests, section_count, section_keys, subst, suc, sym, tally, true, unit, with_leaf, without-other, without_leaf, word-cons, ℕ}
use Rattle.xl_model_lemmas.proofs.LeafTallyLemmas.{tally-less, tally-with}
use Rattle.xl_sections.specs.Counted.{word_of}
use Rattle.xl_tagged.proofs.CountLemmas.{unit-low}
use Rattle.xl_cuckoo_walk.proofs.BitLemmas.{few-in}
use Rattle.xl_cuckoo_walk.proofs.SectionLemmas.{count-with}
use Rattle.xl_model.specs.declared.address.Order.TheVariants as order

-- no leaf has this leaf's place
abbrev pub Apart : Leaf → List Leaf → Type 0
Apart x xs = (z : Leaf) → In z xs → leaf_key z ≡ leaf_key x → ⊥

words-each : (size : Order) (k : ℕ) (xs ys : List Leaf) → ((o : Order) → tally (of_order size k o) xs ≡ tally (of_order size k o) ys) → word_of size k xs ≡ word_of size k ys
unfolding word_of
words-each size k xs ys h =
    let q : Order → ℕ = λ o. tally (of_order size k o) ys in
    ap (λ n. n + (tally (of_order size k order.M2) xs * 2 ^ 22 + tally (of_order size k order.G1) xs * 2 ^ 44)) (h order.K4)
    ∙ ap (λ n. q order.K4 + (n * 2 ^ 22 + tally (of_order size k order.G1) xs * 2 ^ 44)) (h order.M2)
    ∙ ap (λ n. q order.K4 + (q order.M2 * 2 ^ 22 + n * 2 ^ 44)) (h order.G1)

pub word-with : (size : Order) (k : ℕ) (x : Leaf) (xs : List Leaf) → Apart x xs → word_of size k (with_leaf x xs) ≡ word_of size k (x ∷ xs)
word-with size k x xs apart = words-each size k (with_leaf x xs) (x ∷ xs) (λ o. tally-with (of_order size k o) x xs apart)

pub word-less : (size : Order) (k : ℕ) (x : Leaf) (xs : List Leaf) → IsSorted xs → In x xs → word_of size k xs ≡ word_of size k (x ∷ without_leaf x.space x.first xs)
word-less size k x xs sorted i =
    words-each size k xs (x ∷ without_leaf x.space x.first xs) (λ o. let e = tally-less (of_order size k o) x xs sorted i in omega arith)

-- a leaf comes
pub tied-with : (size : Order) (x : Leaf) (xs : List Leaf) (old new : CountState) → Apart x xs → IsTied size xs old.counts → IsNoted size x old new → IsTied size (with_leaf x xs) new.counts
tied-with size x xs old new apart tied noted key =
    noted.number key ∙ ap (λ n. n + cond (counts_at size key x) (unit x.order) 0) (tied key) ∙ sym (word-cons size key x xs) ∙ sym (word-with size key x xs apart)

-- a leaf goes
pub tied-less : (size : Order) (x : Leaf) (xs : List Leaf) (old new : CountState) → IsSorted xs → In x xs → IsTied size xs old.counts → IsDropped size x.space x.first x.order old new
    → IsTied size (without_leaf x.space x.first xs) new.counts
tied-less size x xs old new sorted i tied dropped key =
    let rest : List Leaf = without_leaf x.space x.first xs in
    let n : count_of key new.counts + cond (counts_at size key x) (unit x.order) 0 ≡ count_of key old.counts = dropped.number key in
    let w : count_of key old.counts ≡ word_of size key rest + cond (counts_at size key x) (unit x.order) 0 = tied key ∙ word-less size key x xs sorted i ∙ word-cons size key x rest in
    omega arith

-- a leaf gets another permission
pub tied-given : (size : Order) (x : Leaf) (perm : Perm) (xs : List Leaf) (counts : List Count) → IsSorted xs → In x xs → IsTied size xs counts
    → IsTied size (with_leaf (record x { perm = perm }) (without_leaf x.space x.first xs)) counts
tied-given size x perm xs counts sorted i tied key =
    let y : Leaf = record x { perm = perm } in
    let rest : List Leaf = without_leaf x.space x.first xs in
    tied key ∙ word-less size key x xs sorted i ∙ word-cons size key x rest ∙ sym (word-cons size key y rest)
    ∙ sym (word-with size key y rest (λ z j. without-other z x.space x.first xs j))

count-low : (size : Order) (k : ℕ) (xs : List Leaf) (counts : List Count) → IsSorted xs → ((x : Leaf) → In x xs → IsPlaced x) → IsTied size xs counts → count_of k counts ≤ 2 ^ 18 + 2 ^ 40 + 2 ^ 62
unfolding word_of
count-low size k xs counts sorted placed tied =
    let e : count_of k counts ≡ word_of size k xs = tied k in
    let a = few-in size k order.K4 xs sorted placed in
    let b = few-in size k order.M2 xs sorted placed in
    let c = few-in size k order.G1 xs sorted placed in
    omega arith

-- whether a section more fits
key-any : (size : Order) (key : ℕ) (xs : List Leaf) (counts : List Count) → IsTied size xs counts → list_any (λ k. k == key) (section_keys size xs) ≡ not (count_of key counts == 0)
key-any size key xs counts tied =
    same-tests (list_any (λ k. k == key) (section_keys size xs)) (list_any (counts_at size key) xs)
    (λ t. let found = any-In (λ k. k == key) (section_keys size xs) t in
    let e : found.0 ≡ key = (let p = found.2 in grind (arith, nat_tests)) in
    keys-In size key xs (subst (λ n. In n (section_keys size xs)) e found.1))
    (λ t. In-any (λ k. k == key) key (section_keys size xs) (In-keys size key xs t) (let own : (key == key) ≡ true = grind (arith, nat_tests) in own))
    ∙ any-is size key xs ∙ ap (λ n. not (n == 0)) (sym (tied key))

pub fits-is : (size : Order) (x : Leaf) (xs : List Leaf) (c : CountState) → Apart x xs → AreCounts c.counts → IsTied size xs c.counts → length c.counts ≤ c.room
    → fits_by (nat_le (level_of x.order) (level_of size)) (not (count_of (key_in size x) c.counts == 0)) (length c.counts == c.room) ≡ nat_le (section_count size (with_leaf x xs)) c.room
fits-is size x xs c apart are tied within =
    go (nat_le (level_of x.order) (level_of size)) (not (count_of (key_in size x) c.counts == 0)) refl (key-any size (key_in size x) xs c.counts tied)
    ∙ ap (λ n. nat_le n c.room) (sym (count-with size x xs apart))
  where
    n-is : length c.counts ≡ length (section_keys size xs)
    n-is = keys-count size xs c.counts are tied

    one-more : (m n room : ℕ) → m ≡ n → m ≤ room → not (m == room) ≡ nat_le (suc n) room
    one-more m n room e l = same-tests (not (m == room)) (nat_le (suc n) room) (λ t. grind (arith, nat_tests)) (λ t. grind (arith, nat_tests))

    go : (lies counted : Bool) → nat_le (level_of x.order) (level_of size) ≡ lies → list_any (λ k. k == key_in size x) (section_keys size xs) ≡ counted
        → fits_by lies counted (length c.counts == c.room) ≡ nat_le (section_count size (x ∷ xs)) c.room
    go false counted a b = rw a (let n = n-is in let l : length (section_keys size xs) ≤ c.room = omega arith in let t : nat_le (length (section_keys size xs)) c.room ≡ true = grind (arith, nat_tests) in sym t)
    go true true a b = rw (a, b) (let n = n-is in let l : length (section_keys size xs) ≤ c.room = omega arith in let t : nat_le (length (section_keys size xs)) c.room ≡ true = grind (arith, nat_tests) in sym t)
    go true false a b = rw (a, b) (one-more (length c.counts) (length (section_keys size xs)) c.room n-is within)

pub place-is : (size : Order) (x : Leaf) (c : CountState) → length c.counts ≤ c.room → nat_le (level_of x.order) (level_of size) ≡ true
    → fits_by (nat_le (level_of x.order) (level_of size)) (not (count_of (key_in size x) c.counts == 0)) (length c.counts == c.room) ≡ true → HasPlace (key_in size x) c
place-is size x c within lies fits none =
    let z : not (count_of (key_in size x) c.counts == 0) ≡ false = ap (λ n. not (n == 0)) none in
    let t : fits_by true false (length c.counts == c.room) ≡ true = sym (ap (λ a. fits_by a (not (count_of (key_in size x) c.counts == 0)) (length c.counts == c.room)) lies ∙ ap (λ b. fits_by true b (length c.counts == c.room)) z) ∙ fits in
    grind (arith, nat_tests)

pub roomy-is : (size : Order) (x : Leaf) (xs : List Leaf) (c : CountState) → IsPlaced x → IsSorted xs → ((y : Leaf) → In y xs → IsPlaced y) → AreCounts c.counts → IsTied size xs c.counts → HasPlace (key_in size x) c → IsRoomy size x c
roomy-is size x xs c at sorted placed are tied place = record {
  space_in = at.space_in;
  page_in = at.page_in;
  are = are;
  place = place;
  fits = (let n = count-low size (key_in size x) xs c.counts sorted placed tied in let u = unit-low x.order in omega arith);
}

pub shared-is : (size : Order) (x : Leaf) (xs : List Leaf) (c : CountState) → IsPlaced x → IsSorted xs → In x xs → AreCounts c.counts → IsTied size xs c.counts → IsShared size x.space x.first x.order c
shared-is size x xs c at sorted i are tied = record {
  space_in = at.space_in;
  page_in = at.page_in;
  are = are;
  within = λ l.
      let key : ℕ = key_in size x in
      let lies : counts_at size key x ≡ true = grind (arith, nat_tests) in
      let w : count_of key c.counts ≡ word_of size key (without_leaf x.space x.first xs) + cond (counts_at size key x) (unit x.order) 0 = tied key ∙ word-less size key x xs sorted i ∙ word-cons size key x (without_leaf x.space x.first xs) in
      let u : cond (counts_at size key x) (unit x.order) 0 ≡ unit x.order = ap (λ b. cond b (unit x.order) 0) lies in
      omega arith;
}
