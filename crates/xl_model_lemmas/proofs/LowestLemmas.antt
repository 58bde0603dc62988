-- The least free candidate is the lowest free block.
use Rattle.xl_model_lemmas.proofs.Common.{◌&&◌, ◌*◌, ◌+◌, ◌-◌, ◌/◌, ◌<◌, ◌∙◌, ◌∷◌, ◌≡◌, ◌≤◌, [], any-false, any-In, arith, false, filter, filter-In, filter-passes, following, holds_frames, In, In-filter, In-map, inl, inr, is_free_block, IsAnswer, IsFreeOf as IsFree, Leaf, least, lesser, List, list_any, lowest, map, map-In, min, nat_le, nat_tests, None, not, Option, Order, pages_of, refl, Some, subst, suc, sym, true, zero, ℕ}
use Rattle.xl_model.specs.declared.address.Order.TheVariants as order

-- the least of a list is a member, and no member is less
IsLeast : Option ℕ → List ℕ → Type 0
IsLeast None xs = (y : ℕ) → In y xs → ⊥
IsLeast (Some m) xs = In m xs × ((y : ℕ) → In y xs → m ≤ y)

lesser-is : (x : ℕ) (xs : List ℕ) (m : Option ℕ) → IsLeast m xs → IsLeast (lesser x m) (x ∷ xs)
unfolding IsLeast
lesser-is x xs None none = (inl refl, λ y i. elim i [ inl e ↦ omega arith | inr j ↦ absurd (none y j) ])
lesser-is x xs (Some n) (in_xs, low) =
    let P : ℕ → Type 0 = λ m. In m (x ∷ xs) × ((y : ℕ) → In y (x ∷ xs) → m ≤ y) in
    elim (nat_le x n) as (λ b. nat_le x n ≡ b → IsLeast (Some (min x n)) (x ∷ xs)) [
      | true ↦ λ t. let less : x ≤ n = grind (arith, nat_tests) in
          let is : min x n ≡ x = omega arith in
          subst P (sym is) (inl refl, λ y i. elim i [ inl e ↦ omega arith | inr j ↦ let k : n ≤ y = low y j in omega arith ])
      | false ↦ λ t. let more : n < x = grind (arith, nat_tests) in
          let is : min x n ≡ n = omega arith in
          subst P (sym is) (inr in_xs, λ y i. elim i [ inl e ↦ omega arith | inr j ↦ low y j ])
    ] refl

least-is : (xs : List ℕ) → IsLeast (least xs) xs
unfolding IsLeast
least-is [] = λ y i. i
least-is (x ∷ xs) = lesser-is x xs (least xs) (least-is xs)

-- the end of a leaf that lies in the block before
following-is : (o : Order) (e n : ℕ) → e * pages_of o < n → n ≤ suc e * pages_of o → (n + (pages_of o - 1)) / pages_of o * pages_of o ≡ suc e * pages_of o
following-is order.K4 e n low high = omega arith
following-is order.M2 e n low high = omega arith
following-is order.G1 e n low high = omega arith

aligned-following : (size : ℕ) (leaf : Leaf) → (e : ℕ) × (following size leaf ≡ e * size)
aligned-following size leaf = ((leaf.frame + pages_of leaf.order + (size - 1)) / size, refl)

suc-mul : (e size : ℕ) → suc e * size ≡ e * size + size
suc-mul e size = omega arith

met : (at size : ℕ) (x : Leaf) → holds_frames at size x ≡ true → (x.frame < at + size) × (at < x.frame + pages_of x.order)
met at size x h = (grind (arith, nat_tests), grind (arith, nat_tests))

unmet : (at next size : ℕ) (x : Leaf) → next ≡ at + size → x.frame < at + size → holds_frames next size x ≡ false → x.frame + pages_of x.order ≤ next
unmet at next size x e low h = grind (arith, nat_tests)

-- a leaf that overlaps a block and not the next ends at that next block's beginning or before
ends-following : (o : Order) (e : ℕ) (x : Leaf) → holds_frames (e * pages_of o) (pages_of o) x ≡ true
    → holds_frames (suc e * pages_of o) (pages_of o) x ≡ false → following (pages_of o) x ≡ suc e * pages_of o
ends-following o e x here next =
    following-is o e (x.frame + pages_of x.order) (met (e * pages_of o) (pages_of o) x here).1
    (unmet (e * pages_of o) (suc e * pages_of o) (pages_of o) x (suc-mul e (pages_of o)) (met (e * pages_of o) (pages_of o) x here).0 next)

abbrev candidates : ℕ → List Leaf → List ℕ
candidates size leaves = 0 ∷ map (following size) leaves

free-block : (frames size : ℕ) (leaves : List Leaf) (at : ℕ) → at + size ≤ frames → IsFree size at leaves → is_free_block frames size leaves at ≡ true
free-block frames size leaves at fits free =
    elim (list_any (holds_frames at size) leaves) as (λ b. list_any (holds_frames at size) leaves ≡ b → (nat_le (at + size) frames && not b) ≡ true) [
      | true ↦ λ t. let found = any-In (holds_frames at size) leaves t in
          let no : holds_frames at size found.0 ≡ false = free found.0 found.1 in
          let yes : holds_frames at size found.0 ≡ true = found.2 in
          absurd (cc)
      | false ↦ λ t. grind (arith, nat_tests)
    ] refl

block-fits : (frames size : ℕ) (leaves : List Leaf) (at : ℕ) → is_free_block frames size leaves at ≡ true → at + size ≤ frames
block-fits frames size leaves at h = grind (arith, nat_tests)

block-free : (frames size : ℕ) (leaves : List Leaf) (at : ℕ) → is_free_block frames size leaves at ≡ true → IsFree size at leaves
block-free frames size leaves at h x i =
    let none : list_any (holds_frames at size) leaves ≡ false = grind (arith, nat_tests) in
    any-false (holds_frames at size) x leaves none i

block-taken : (frames size : ℕ) (leaves : List Leaf) (at : ℕ) → at + size ≤ frames → is_free_block frames size leaves at ≡ false → list_any (holds_frames at size) leaves ≡ true
block-taken frames size leaves at fits h = grind (arith, nat_tests)

-- for each free block there is a free candidate that isn't above it
candidate-for : (frames : ℕ) (o : Order) (leaves : List Leaf) (e : ℕ) → e * pages_of o + pages_of o ≤ frames
    → IsFree (pages_of o) (e * pages_of o) leaves
    → (c : ℕ) × In c (filter (is_free_block frames (pages_of o) leaves) (candidates (pages_of o) leaves)) × (c ≤ e * pages_of o)
candidate-for frames o leaves zero fits free =
    let z : zero * pages_of o ≡ 0 = omega arith in (
      0,
      In-filter (is_free_block frames (pages_of o) leaves) 0 (candidates (pages_of o) leaves) (inl refl)
          (rw z at (free-block frames (pages_of o) leaves (zero * pages_of o) fits free)),
      omega arith,
    )
candidate-for frames o leaves (suc e) fits free =
    let more : suc e * pages_of o ≡ e * pages_of o + pages_of o = suc-mul e (pages_of o) in
    elim (is_free_block frames (pages_of o) leaves (e * pages_of o)) as (λ b. is_free_block frames (pages_of o) leaves (e * pages_of o) ≡ b
    → (c : ℕ) × In c (filter (is_free_block frames (pages_of o) leaves) (candidates (pages_of o) leaves)) × (c ≤ suc e * pages_of o)) [
      | true ↦ λ t. let lower = candidate-for frames o leaves e (block-fits frames (pages_of o) leaves (e * pages_of o) t) (block-free frames (pages_of o) leaves (e * pages_of o) t) in
          let low : lower.0 ≤ e * pages_of o = lower.2 in
          (lower.0, lower.1, omega arith)
      | false ↦ λ t. let found = any-In (holds_frames (e * pages_of o) (pages_of o)) leaves (block-taken frames (pages_of o) leaves (e * pages_of o) (omega arith) t) in
          let ends : following (pages_of o) found.0 ≡ suc e * pages_of o = ends-following o e found.0 found.2 (free found.0 found.1) in
          let member : In (following (pages_of o) found.0) (candidates (pages_of o) leaves) = inr (In-map (following (pages_of o)) found.0 leaves found.1) in
          let P : ℕ → Type 0 = λ k. In k (candidates (pages_of o) leaves) in (
            suc e * pages_of o,
            In-filter (is_free_block frames (pages_of o) leaves) (suc e * pages_of o) (candidates (pages_of o) leaves)
                (subst P ends member) (free-block frames (pages_of o) leaves (suc e * pages_of o) fits free),
            omega arith,
          )
    ] refl

candidate-aligned : (size : ℕ) (leaves : List Leaf) (c : ℕ) → In c (candidates size leaves) → (e : ℕ) × (c ≡ e * size)
candidate-aligned size leaves c (inl e) = (0, omega arith)
candidate-aligned size leaves c (inr i) =
    let found = map-In (following size) c leaves i in
    let there = aligned-following size found.0 in
    (there.0, found.2 ∙ there.1)

answer-is : (frames : ℕ) (o : Order) (leaves : List Leaf) (m : Option ℕ)
    → IsLeast m (filter (is_free_block frames (pages_of o) leaves) (candidates (pages_of o) leaves)) → IsAnswer frames (pages_of o) leaves m
unfolding IsLeast
answer-is frames o leaves None none = λ e fits free.
    let c = candidate-for frames o leaves e fits free in none c.0 c.1
answer-is frames o leaves (Some at) (in_list, low) =
    let passes : is_free_block frames (pages_of o) leaves at ≡ true = filter-passes (is_free_block frames (pages_of o) leaves) at (candidates (pages_of o) leaves) in_list in
    record {
      aligned = candidate-aligned (pages_of o) leaves at (filter-In (is_free_block frames (pages_of o) leaves) at (candidates (pages_of o) leaves) in_list);
      fits = block-fits frames (pages_of o) leaves at passes;
      is_free = block-free frames (pages_of o) leaves at passes;
      least = λ e fits free.
          let c = candidate-for frames o leaves e fits free in
          let first : at ≤ c.0 = low c.0 c.1 in
          let then : c.0 ≤ e * pages_of o = c.2 in
          omega arith;
    }

pub lowest-is-lowest : (frames : ℕ) (o : Order) (leaves : List Leaf) → IsAnswer frames (pages_of o) leaves (lowest frames o leaves)
unfolding lowest
lowest-is-lowest frames o leaves =
    answer-is frames o leaves (least (filter (is_free_block frames (pages_of o) leaves) (candidates (pages_of o) leaves)))
    (least-is (filter (is_free_block frames (pages_of o) leaves) (candidates (pages_of o) leaves)))
