-- The bits of a section, by the counts of leaves and by a leaf that covers a page.
use Rattle.xl_cuckoo_walk.proofs.Common.{◌%◌, ◌&&◌, ◌*◌, ◌+◌, ◌-◌, ◌/◌, ◌<◌, ◌==◌, ◌^◌, ◌∙◌, ◌∷◌, ◌≡◌, ◌≤◌, [], AllAbove, any-each, ap, arith, Bool, by-fields, Count, count_of, counts_at, counts_for, covers, false, holder_from, holds_order, In, inl, inr, is_counted, IsAligned, IsPlaced, IsSorted, IsTied, key_in, Leaf, leaf_key, level_of, List, nat_le, nat_tests, new_word, not, of_order, one_if, Option, Order, pages_of, part, parts-are, refl, same_order, section_by, section_key, section_of, sym, tally, tally-any, true, way_where, WayShape, word_by, ℕ}
use Rattle.std.specs.Cmp.{first_so, second_so}
use Rattle.xl_sections.specs.Counted.{word_of}
use Rattle.xl_cuckoo_walk.proofs.CodeLemmas.{IsWord, word-back}
use Rattle.xl_cuckoo_walk.proofs.SectionLemmas.{counts-same}
use Rattle.xl_model.specs.declared.address.Order.TheVariants as order

-- no more leaves lie in a stretch than it has pages
tally-above : (q : Leaf → Bool) (top k : ℕ) (xs : List Leaf) → AllAbove k xs → IsSorted xs → ((x : Leaf) → In x xs → q x ≡ true → leaf_key x < top) → tally q xs ≤ top - (k + 1)
tally-above q top k [] above sorted within = omega arith
tally-above q top k (x ∷ xs) above sorted within =
    let on : tally q xs ≤ top - (leaf_key x + 1) = tally-above q top (leaf_key x) xs sorted.0 sorted.1 (λ z i. within z (inr i)) in
    let first : k < leaf_key x = above.0 in
    elim (q x) as (λ b. q x ≡ b → one_if b + tally q xs ≤ top - (k + 1)) [
      | true ↦ λ t. let l : leaf_key x < top = within x (inl refl) t in omega arith
      | false ↦ λ t. omega arith
    ] refl

tally-within : (q : Leaf → Bool) (low top : ℕ) (xs : List Leaf) → IsSorted xs → ((x : Leaf) → In x xs → q x ≡ true → (low ≤ leaf_key x) × (leaf_key x < top)) → tally q xs ≤ top - low
tally-within q low top [] sorted within = omega arith
tally-within q low top (x ∷ xs) sorted within =
    elim (q x) as (λ b. q x ≡ b → one_if b + tally q xs ≤ top - low) [
      | true ↦ λ t.
          let on : tally q xs ≤ top - (leaf_key x + 1) = tally-above q top (leaf_key x) xs sorted.0 sorted.1 (λ z i u. (within z (inr i) u).1) in
          let l = within x (inl refl) t in
          let a : low ≤ leaf_key x = l.0 in
          let b : leaf_key x < top = l.1 in
          omega arith
      | false ↦ λ t. let on : tally q xs ≤ top - low = tally-within q low top xs sorted.1 (λ z i. within z (inr i)) in omega arith
    ] refl

in-stretch : (size : Order) (key space first : ℕ) → first < 2 ^ 45 → section_key space (first / pages_of size) ≡ key
    → (key / 2 ^ 45 * 2 ^ 52 + key % 2 ^ 45 * pages_of size ≤ space * 2 ^ 52 + first) × (space * 2 ^ 52 + first < key / 2 ^ 45 * 2 ^ 52 + key % 2 ^ 45 * pages_of size + 2 ^ 18)
in-stretch order.K4 key space first h e = let a : key / 2 ^ 45 ≡ space = omega arith in let b : key % 2 ^ 45 ≡ first = omega arith in (omega arith, omega arith)
in-stretch order.M2 key space first h e = let a : key / 2 ^ 45 ≡ space = omega arith in let b : key % 2 ^ 45 ≡ first / 512 = omega arith in (omega arith, omega arith)
in-stretch order.G1 key space first h e = let a : key / 2 ^ 45 ≡ space = omega arith in let b : key % 2 ^ 45 ≡ first / 262144 = omega arith in (omega arith, omega arith)

pub few-in : (size : Order) (key : ℕ) (o : Order) (leaves : List Leaf) → IsSorted leaves → ((x : Leaf) → In x leaves → IsPlaced x) → tally (of_order size key o) leaves ≤ 2 ^ 18
few-in size key o leaves sorted placed =
    let low : ℕ = key / 2 ^ 45 * 2 ^ 52 + key % 2 ^ 45 * pages_of size in
    let few : tally (of_order size key o) leaves ≤ low + 2 ^ 18 - low = tally-within (of_order size key o) low (low + 2 ^ 18) leaves sorted (λ x i t.
    let c : counts_at size key x ≡ true = first_so (counts_at size key x) (same_order x.order o) t in
    let d : (key_in size x == key) ≡ true = second_so (nat_le (level_of x.order) (level_of size)) (key_in size x == key) c in
    let e : key_in size x ≡ key = grind (arith, nat_tests) in
    in-stretch size key x.space x.first (placed x i).page_in e) in
    omega arith

-- a part of a section's count is the number of its leaves of an order
pub part-tied : (size : Order) (key : ℕ) (o : Order) (leaves : List Leaf) (counts : List Count) → IsSorted leaves → ((x : Leaf) → In x leaves → IsPlaced x) → IsTied size leaves counts
    → part o (count_of key counts) ≡ tally (of_order size key o) leaves
unfolding word_of
part-tied size key o leaves counts sorted placed tied = ap (part o) (tied key) ∙ go o
  where
    all : (part order.K4 (word_of size key leaves) ≡ tally (of_order size key order.K4) leaves) × (part order.M2 (word_of size key leaves) ≡ tally (of_order size key order.M2) leaves) × (part order.G1 (word_of size key leaves) ≡ tally (of_order size key order.G1) leaves)
    all = parts-are (tally (of_order size key order.K4) leaves) (tally (of_order size key order.M2) leaves) (tally (of_order size key order.G1) leaves)
        (omega (arith, few-in size key order.K4 leaves sorted placed)) (omega (arith, few-in size key order.M2 leaves sorted placed))

    go : (p : Order) → part p (word_of size key leaves) ≡ tally (of_order size key p) leaves
    go order.K4 = all.0
    go order.M2 = all.1
    go order.G1 = all.2

pub bit-counted : (size : Order) (space block : ℕ) (o : Order) (leaves : List Leaf) (counts : List Count) → block < 2 ^ 45 → IsSorted leaves → ((x : Leaf) → In x leaves → IsPlaced x) → IsTied size leaves counts
    → holds_order size space block o leaves ≡ is_counted o (section_key space block) counts
bit-counted size space block o leaves counts low sorted placed tied =
    any-each (λ x. counts_for size space block x && same_order x.order o) (of_order size (section_key space block) o) leaves
    (λ x i. ap (λ b. b && same_order x.order o) (counts-same size space block x low (placed x i).page_in))
    ∙ tally-any (of_order size (section_key space block) o) leaves
    ∙ ap (λ n. not (n == 0)) (sym (part-tied size (section_key space block) o leaves counts sorted placed tied))

-- the word that is written for a section is that section
pub written-is : (size : Order) (space block : ℕ) (leaves : List Leaf) (counts : List Count) (ways : List WayShape) → block < 2 ^ 45 → IsSorted leaves → ((x : Leaf) → In x leaves → IsPlaced x) → IsTied size leaves counts
    → section_by (section_key space block) (new_word size (section_key space block) counts ways) ≡ section_of size space block leaves ways
unfolding section_of new_word
written-is size space block leaves counts ways low sorted placed tied =
    let key : ℕ = section_key space block in
    let bit : Order → Bool = λ o. is_counted o key counts in
    let way : Option ℕ = way_where (bit size) (holder_from 0 ways key) in
    let w : IsWord (word_by (bit order.K4) (bit order.M2) (bit order.G1) way) (bit order.K4) (bit order.M2) (bit order.G1) way = word-back (bit order.K4) (bit order.M2) (bit order.G1) way in
    let h : (o : Order) → holds_order size space block o leaves ≡ bit o = λ o. bit-counted size space block o leaves counts low sorted placed tied in
    by-fields _ _ (omega arith) (omega arith) (w.k4 ∙ sym (h order.K4)) (w.m2 ∙ sym (h order.M2)) (w.g1 ∙ sym (h order.G1))
    (w.way ∙ ap (λ b. way_where b (holder_from 0 ways key)) (sym (h size)))

-- a leaf that covers a page counts for the page's section
lies : (size o : Order) (page first e : ℕ) → level_of o ≤ level_of size → first ≡ e * pages_of o → first ≤ page → page < first + pages_of o → first / pages_of size ≡ page / pages_of size
lies order.K4 order.K4 page first e l a b c = omega arith
lies order.M2 order.K4 page first e l a b c = omega arith
lies order.M2 order.M2 page first e l a b c = omega arith
lies order.G1 order.K4 page first e l a b c = omega arith
lies order.G1 order.M2 page first e l a b c = omega arith
lies order.G1 order.G1 page first e l a b c = omega arith
lies order.K4 order.M2 page first e l a b c = absurd (omega arith)
lies order.K4 order.G1 page first e l a b c = absurd (omega arith)
lies order.M2 order.G1 page first e l a b c = absurd (omega arith)

pub counts-covered : (size : Order) (s page : ℕ) (x : Leaf) → IsAligned x → level_of x.order ≤ level_of size → covers s page x ≡ true
    → counts_for size s (page / pages_of size) x ≡ true
counts-covered size s page x at l c =
    let p : x.space ≡ s = grind (arith, nat_tests) in
    let q : x.first ≤ page = grind (arith, nat_tests) in
    let r : page < x.first + pages_of x.order = grind (arith, nat_tests) in
    let t : x.first / pages_of size ≡ page / pages_of size = lies size x.order page x.first at.aligned.0 l at.aligned.1 q r in
    grind (arith, nat_tests)
