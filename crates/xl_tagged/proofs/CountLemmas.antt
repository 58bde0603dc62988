-- Counts of smaller leaves by section, as leaves come and go; and that there is room for them.
use Rattle.xl_tagged.proofs.Common.{◌%◌, ◌&&◌, ◌*◌, ◌++◌, ◌+◌, ◌/◌, ◌<◌, ◌==◌, ◌^◌, ◌∙◌, ◌∷◌, ◌≡◌, ◌≤◌, [], any-In, ap, AreHeld, arith, at-level, Bool, cond, counts_at, false, Form, group_of, HasRoom, In, In-map, inl, inr, is_smaller, IsAligned, IsCounted, IsFit, IsIn, IsLess, IsMore, IsSorted, key_in, Leaf, leaf_in, leaf_key, leaf_tag, leaves_under, length, length-append, length-map, level_of, List, list_any, MadeWordsReadBack, map, mapping_of, nat_le, nat_tests, None, not, of_order, once-short, One, one_if, Option, Order, order_at, pages_of, Perm, refl, same_order, Sixteen, slot_leaves, smaller_word, Some, subst, suc, sym, tally, tally-short, true, with_leaf, with_some, without-other, without_leaf, word_at, zero, ℕ}
use Rattle.xl_model_lemmas.proofs.LeafTallyLemmas.{tally-less, tally-with}
use Rattle.xl_sections.proofs.KeyLemmas.{counted}
use Rattle.xl_sections.specs.Counted.{AreCounts, Count, count_of, CountState, keys_of, unit}
use Rattle.xl_tagged.proofs.FindLemmas.{lies-any, lies_in}
use Rattle.xl_tagged.proofs.PlaceLemmas.{HasParts, tag-parts}
use Rattle.xl_tagged.proofs.SlotLemmas.{known-leaves, with-short}
use Rattle.xl_model.specs.declared.address.Order.TheVariants as order

-- what a leaf adds to the word of a section
abbrev pub adds : Order → ℕ → Leaf → ℕ
adds size k x = cond (is_smaller size x.order) (cond (counts_at size k x) (unit x.order) 0) 0

-- the word of a list that has a leaf more, by its tallies
word-more : (size : Order) (k : ℕ) (x : Leaf) (old new : List Leaf) → ((q : Leaf → Bool) → tally q new ≡ tally q old + one_if (q x))
    → smaller_word size k new ≡ smaller_word size k old + adds size k x
word-more order.K4 k x old new more = go (counts_at order.K4 k x) x.order
  where
    go : (t : Bool) (o : Order) → 0 ≡ 0 + cond (is_smaller order.K4 o) (cond t (unit o) 0) 0
    go t order.K4 = omega arith
    go t order.M2 = omega arith
    go t order.G1 = omega arith
word-more order.M2 k x old new more = more (of_order order.M2 k order.K4) ∙ go (counts_at order.M2 k x) x.order
  where
    n : ℕ
    n = tally (of_order order.M2 k order.K4) old

    go : (t : Bool) (o : Order) → n + one_if (t && same_order o order.K4) ≡ n + cond (is_smaller order.M2 o) (cond t (unit o) 0) 0
    go true order.K4 = omega arith
    go true order.M2 = omega arith
    go true order.G1 = omega arith
    go false order.K4 = omega arith
    go false order.M2 = omega arith
    go false order.G1 = omega arith
word-more order.G1 k x old new more =
    ap (λ a. a + tally (of_order order.G1 k order.M2) new * 2 ^ 22) (more (of_order order.G1 k order.K4))
    ∙ ap (λ b. n + one_if (of_order order.G1 k order.K4 x) + b * 2 ^ 22) (more (of_order order.G1 k order.M2))
    ∙ go (counts_at order.G1 k x) x.order
  where
    n : ℕ
    n = tally (of_order order.G1 k order.K4) old

    m : ℕ
    m = tally (of_order order.G1 k order.M2) old

    go : (t : Bool) (o : Order) → n + one_if (t && same_order o order.K4) + (m + one_if (t && same_order o order.M2)) * 2 ^ 22
        ≡ n + m * 2 ^ 22 + cond (is_smaller order.G1 o) (cond t (unit o) 0) 0
    go true order.K4 = omega arith
    go true order.M2 = omega arith
    go true order.G1 = omega arith
    go false order.K4 = omega arith
    go false order.M2 = omega arith
    go false order.G1 = omega arith

pub word-with : (size : Order) (k : ℕ) (x : Leaf) (xs : List Leaf) → ((z : Leaf) → In z xs → leaf_key z ≡ leaf_key x → ⊥)
    → smaller_word size k (with_leaf x xs) ≡ smaller_word size k xs + adds size k x
word-with size k x xs new =
    word-more size k x xs (with_leaf x xs) (λ q. let e : tally q (with_leaf x xs) ≡ one_if (q x) + tally q xs = tally-with q x xs new in omega arith)

pub word-less : (size : Order) (k : ℕ) (x : Leaf) (xs : List Leaf) → IsSorted xs → In x xs
    → smaller_word size k xs ≡ smaller_word size k (without_leaf x.space x.first xs) + adds size k x
word-less size k x xs s i = word-more size k x (without_leaf x.space x.first xs) xs (λ q. tally-less q x xs s i)

-- the counts of a size after each change
pub counted-with : (size : Order) (x : Leaf) (xs : List Leaf) (room : ℕ) (c d : CountState) → ((z : Leaf) → In z xs → leaf_key z ≡ leaf_key x → ⊥)
    → IsCounted size xs room c → IsMore size x c d → IsCounted size (with_leaf x xs) room d
counted-with size x xs room c d new k more = record {
  are = more.are;
  tied = λ key. more.number key ∙ ap (λ n. n + adds size key x) (k.tied key) ∙ sym (word-with size key x xs new);
  room_is = more.room ∙ k.room_is;
}

cancel : (a b n : ℕ) → a + n ≡ b + n → a ≡ b
cancel a b n h = omega arith

pub counted-less : (size : Order) (x : Leaf) (xs : List Leaf) (room : ℕ) (c d : CountState) → IsSorted xs → In x xs
    → IsCounted size xs room c → IsLess size x.space x.first x.order c d → IsCounted size (without_leaf x.space x.first xs) room d
counted-less size x xs room c d s i k less = record {
  are = less.are;
  tied = λ key. cancel (count_of key d.counts) (smaller_word size key (without_leaf x.space x.first xs)) (adds size key x)
      (less.number key ∙ k.tied key ∙ word-less size key x xs s i);
  room_is = less.room ∙ k.room_is;
}

pub counted-given : (size : Order) (perm : Perm) (x : Leaf) (xs : List Leaf) (room : ℕ) (c : CountState) → IsSorted xs → In x xs
    → IsCounted size xs room c → IsCounted size (with_leaf (record x { perm = perm }) (without_leaf x.space x.first xs)) room c
counted-given size perm x xs room c s i k = record {
  are = k.are;
  tied = λ key. k.tied key ∙ word-less size key x xs s i
      ∙ sym (word-with size key (record x { perm = perm }) (without_leaf x.space x.first xs) (λ z j e. without-other z x.space x.first xs j e));
  room_is = k.room_is;
}

-- the key of the section in which the leaves of a tag lie
abbrev section_of : Form → Order → ℕ → ℕ
section_of f size tag = tag / 2 ^ 45 % 2 ^ 15 * 2 ^ 45 + tag % 2 ^ 45 * group_of f * pages_of (order_at (tag / 2 ^ 60)) / pages_of size

group-section : (f : Form) (size o : Order) (first e : ℕ) → is_smaller size o ≡ true → first ≡ e * pages_of o
    → first / pages_of o / group_of f * group_of f * pages_of o / pages_of size ≡ first / pages_of size
group-section One order.M2 order.K4 first e t h = omega arith
group-section Sixteen order.M2 order.K4 first e t h = omega arith
group-section One order.G1 order.K4 first e t h = omega arith
group-section Sixteen order.G1 order.K4 first e t h = omega arith
group-section One order.G1 order.M2 first e t h = omega arith
group-section Sixteen order.G1 order.M2 first e t h = omega arith
group-section f order.K4 order.K4 first e t h = absurd (cc)
group-section f order.K4 order.M2 first e t h = absurd (cc)
group-section f order.K4 order.G1 first e t h = absurd (cc)
group-section f order.M2 order.M2 first e t h = absurd (cc)
group-section f order.M2 order.G1 first e t h = absurd (cc)
group-section f order.G1 order.G1 first e t h = absurd (cc)

section-is : (f : Form) (size : Order) (x : Leaf) → IsAligned x → is_smaller size x.order ≡ true → section_of f size (leaf_tag (group_of f) x) ≡ key_in size x
section-is f size x a t =
    let tag : ℕ = leaf_tag (group_of f) x in
    let p : HasParts tag x.space (x.first / pages_of x.order / group_of f) (level_of x.order) = tag-parts f tag x a refl in
    ap (λ m. m * 2 ^ 45 + tag % 2 ^ 45 * group_of f * pages_of (order_at (tag / 2 ^ 60)) / pages_of size) p.space_is
    ∙ ap (λ m. x.space * 2 ^ 45 + m * group_of f * pages_of (order_at (tag / 2 ^ 60)) / pages_of size) p.number_is
    ∙ ap (λ o. x.space * 2 ^ 45 + x.first / pages_of x.order / group_of f * group_of f * pages_of o / pages_of size) (ap order_at p.level_is ∙ at-level x.order)
    ∙ ap (λ m. x.space * 2 ^ 45 + m) (group-section f size x.order x.first a.aligned.0 t a.aligned.1)

-- a key that is counted is that of a section of some tag
key-tagged : (f : Form) (size : Order) (values : ℕ → List ℕ) (tags : List ℕ) (xs : List Leaf) (room : ℕ) (c : CountState) → AreHeld f values tags xs → IsCounted size xs room c
    → (key : ℕ) → In key (keys_of c.counts) → In key (map (section_of f size) tags)
key-tagged f size values tags xs room c h k key i = found (any-In (lies_in size key) xs some)
  where
    nonzero : (n : ℕ) → (n ≡ 0 → ⊥) → not (n == 0) ≡ true
    nonzero n z = elim (n == 0) as (λ b. (n == 0) ≡ b → not b ≡ true) [ true ↦ λ t. absurd (z (grind (arith, nat_tests))) | false ↦ λ t. refl ] refl

    some : list_any (lies_in size key) xs ≡ true
    some = lies-any size key xs ∙ nonzero (smaller_word size key xs) (λ z. counted key c.counts k.are i (k.tied key ∙ z))

    found : ((x : Leaf) × In x xs × (lies_in size key x ≡ true)) → In key (map (section_of f size) tags)
    found (x, j, t) =
        let small : is_smaller size x.order ≡ true = grind (arith, nat_tests) in
        let lies : key_in size x ≡ key = grind (arith, nat_tests) in
        subst (λ (n : ℕ). In n (map (section_of f size) tags)) (section-is f size x (h.fit x j).aligned small ∙ lies) (In-map (section_of f size) (leaf_tag (group_of f) x) tags (h.tagged x j))

-- no more leaves than slots
mapping-short : (xs : List Leaf) → length (mapping_of xs) ≤ length xs
unfolding mapping_of
mapping-short [] = omega arith
mapping-short (x ∷ xs) = let a = mapping-short xs in let b = with-short x (mapping_of xs) in omega arith

some-short : (q : Option Leaf) (xs : List Leaf) → length (with_some q xs) ≤ suc (length xs)
some-short None xs = omega arith
some-short (Some x) xs = omega arith

in-short : (f : Form) (values : ℕ → List ℕ) (tag n : ℕ) → length (slot_leaves f values tag n) ≤ n
unfolding slot_leaves
in-short f values tag zero = omega arith
in-short f values tag (suc n) = let a = in-short f values tag n in let b = some-short (leaf_in f tag n (word_at f values tag n)) (slot_leaves f values tag n) in omega arith

group-few : (f : Form) → group_of f ≤ 16
group-few One = omega arith
group-few Sixteen = omega arith

under-short : (f : Form) (values : ℕ → List ℕ) (tags : List ℕ) → length (leaves_under f values tags) ≤ 16 * length tags
unfolding leaves_under
under-short f values [] = omega arith
under-short f values (t ∷ ts) =
    let a = under-short f values ts in
    let b = in-short f values t (group_of f) in
    let c = group-few f in
    let d : length (slot_leaves f values t (group_of f) ++ leaves_under f values ts) ≡ length (slot_leaves f values t (group_of f)) + length (leaves_under f values ts) = length-append (slot_leaves f values t (group_of f)) (leaves_under f values ts) in
    omega arith

pub leaves-short : MadeWordsReadBack → (f : Form) (values : ℕ → List ℕ) (tags : List ℕ) (xs : List Leaf) → AreHeld f values tags xs → length xs ≤ 16 * length tags
leaves-short back f values tags xs h =
    let e : length (mapping_of (leaves_under f values tags)) ≡ length xs = ap (λ (ys : List Leaf). length ys) (known-leaves back f values tags xs h) in
    let a = mapping-short (leaves_under f values tags) in
    let b = under-short f values tags in
    omega arith

word-low : (size : Order) (key : ℕ) (xs : List Leaf) → length xs ≤ 2 ^ 24 → smaller_word size key xs ≤ 2 ^ 47
word-low order.K4 key xs h = omega arith
word-low order.M2 key xs h = let a = tally-short (of_order order.M2 key order.K4) xs in omega arith
word-low order.G1 key xs h = let a = tally-short (of_order order.G1 key order.K4) xs in let b = tally-short (of_order order.G1 key order.M2) xs in omega arith

pub unit-low : (o : Order) → unit o ≤ 2 ^ 44
unit-low order.K4 = omega arith
unit-low order.M2 = omega arith
unit-low order.G1 = omega arith

-- A leaf that comes has room in the counts, where its tag has a place among the tags.
pub has-room : MadeWordsReadBack → (f : Form) (size : Order) (values : ℕ → List ℕ) (tags tags' : List ℕ) (x : Leaf) (xs : List Leaf) (room : ℕ) (c : CountState)
    → AreHeld f values tags xs → IsCounted size xs room c → IsFit x
    → ((t : ℕ) → In t tags → In t tags') → In (leaf_tag (group_of f) x) tags' → length tags' ≤ room → length tags ≤ 2 ^ 20 → HasRoom size x c
has-room back f size values tags tags' x xs room c h k fit stays here few small = record {
  are = k.are;
  room = λ t. record {
    space_in = fit.aligned.placed.space_in;
    page_in = fit.aligned.placed.page_in;
    are = k.are;
    place = λ e. place t e;
    fits = (let a = leaves-short back f values tags xs h in
        let b = word-low size (key_in size x) xs (omega arith) in
        let d = unit-low x.order in
        let e = k.tied (key_in size x) in omega arith);
  };
}
  where
    moved : (key : ℕ) → (ts : List ℕ) → ((t : ℕ) → In t ts → In t tags') → In key (map (section_of f size) ts) → In key (map (section_of f size) tags')
    moved key [] into i = absurd i
    moved key (t ∷ ts) into (inl e) = let P : ℕ → Type 0 = λ n. In n (map (section_of f size) tags') in subst P (sym e) (In-map (section_of f size) t tags' (into t (inl refl)))
    moved key (t ∷ ts) into (inr i) = moved key ts (λ u j. into u (inr j)) i

    place : is_smaller size x.order ≡ true → count_of (key_in size x) c.counts ≡ 0 → length c.counts < c.room
    place t absent =
        let new : In (key_in size x) (keys_of c.counts) → ⊥ = λ i. counted (key_in size x) c.counts k.are i absent in
        let n : suc (length (keys_of c.counts)) ≤ length (map (section_of f size) tags') = once-short (key_in size x ∷ keys_of c.counts) (map (section_of f size) tags') (new, k.are.once)
        (λ key i. elim i [
          | inl e ↦ subst (λ (n : ℕ). In n (map (section_of f size) tags')) (section-is f size x fit.aligned t ∙ sym e) (In-map (section_of f size) (leaf_tag (group_of f) x) tags' here)
          | inr j ↦ moved key tags stays (key-tagged f size values tags xs room c h k key j)
        ]) in
        let a : length (keys_of c.counts) ≡ length c.counts = length-map c.counts (λ (d : Count). d.key) in
        let b : length (map (section_of f size) tags') ≡ length tags' = length-map tags' (section_of f size) in
        let r = k.room_is in
        omega arith

-- a leaf that goes was counted
pub is-in : (size : Order) (x : Leaf) (xs : List Leaf) (room : ℕ) (c : CountState) → IsSorted xs → In x xs → IsAligned x → IsCounted size xs room c → IsIn size x.space x.first x.order c
is-in size x xs room c s i a k = record {
  are = k.are;
  within = λ t. record { space_in = a.placed.space_in; page_in = a.placed.page_in; are = k.are; within = λ l. counts t l };
}
  where
    one : (n : ℕ) → (n == n) ≡ true
    one n = grind (arith, nat_tests)

    le-true : (m n : ℕ) → m ≤ n → nat_le m n ≡ true
    le-true m n h = grind (arith, nat_tests)

    counts : is_smaller size x.order ≡ true → level_of x.order ≤ level_of size → unit x.order ≤ count_of (x.space * 2 ^ 45 + x.first / pages_of size) c.counts
    counts t l =
        let key : ℕ = x.space * 2 ^ 45 + x.first / pages_of size in
        let n : ℕ = smaller_word size key (without_leaf x.space x.first xs) in
        let e : count_of key c.counts ≡ n + adds size key x = k.tied key ∙ word-less size key x xs s i in
        let d : adds size key x ≡ unit x.order = ap (λ b. cond b (cond (counts_at size key x) (unit x.order) 0) 0) t
        ∙ ap (λ b. cond (b && (key == key)) (unit x.order) 0) (le-true (level_of x.order) (level_of size) l) ∙ ap (λ b. cond b (unit x.order) 0) (one key) in
        omega arith

-- no leaves
pub counted-none : (size : Order) (room : ℕ) (c : CountState) → c.counts ≡ [] → c.room ≡ room → IsCounted size [] room c
unfolding count_of
counted-none size room c e r = record {
  are = (let P : List Count → Type 0 = λ cs. AreCounts cs in subst P (sym e) (record { once = tt; some = λ d i. absurd i }));
  tied = λ key. ap (count_of key) e ∙ none size key;
  room_is = r;
}
  where
    none : (o : Order) (key : ℕ) → 0 ≡ smaller_word o key []
    none order.K4 key = refl
    none order.M2 key = refl
    none order.G1 key = omega arith
