-- How many sections have leaves, with one leaf more; and the test of a section by its key.
use Rattle.xl_cuckoo_walk.proofs.Common.{◌&&◌, ◌*◌, ◌+◌, ◌/◌, ◌<◌, ◌==◌, ◌^◌, ◌∙◌, ◌∷◌, ◌≡◌, [], any-same, ap, arith, Bool, count-keys, counts_at, counts_for, false, In, In-keys, In-with, inl, inr, keys-In, keys-once, Leaf, leaf_key, level_of, List, nat_le, nat_tests, Order, pages_of, refl, section_count, section_key, section_keys, small-block, stays-with, subst, sym, true, with-In, with_leaf, ℕ}

-- lists with the same leaves have as many sections
pub count-same : (size : Order) (xs ys : List Leaf) → ((z : Leaf) → In z xs → In z ys) → ((z : Leaf) → In z ys → In z xs) → section_count size xs ≡ section_count size ys
count-same size xs ys there back =
    count-keys size ys (section_keys size xs) (keys-once size xs)
    (λ k i. sym (any-same (counts_at size k) xs ys there back) ∙ keys-In size k xs i)
    (λ k t. In-keys size k xs (any-same (counts_at size k) xs ys there back ∙ t))

-- a leaf more: its section is there, and may be new
pub count-with : (size : Order) (x : Leaf) (xs : List Leaf) → ((z : Leaf) → In z xs → leaf_key z ≡ leaf_key x → ⊥) → section_count size (with_leaf x xs) ≡ section_count size (x ∷ xs)
count-with size x xs apart =
    count-same size (with_leaf x xs) (x ∷ xs)
    (λ z i. elim (with-In z x xs i) [ inl e ↦ inl e | inr j ↦ inr j ])
    (λ z i. elim i [
      | inl e ↦ let P : Leaf → Type 0 = λ w. In w (with_leaf x xs) in subst P (sym e) (In-with x xs)
      | inr j ↦ stays-with z x xs j (apart z j)
    ])

pub counts-same : (size : Order) (space block : ℕ) (x : Leaf) → block < 2 ^ 45 → x.first < 2 ^ 45 → counts_for size space block x ≡ counts_at size (section_key space block) x
counts-same size space block x a b =
    moved (x.space == space) (nat_le (level_of x.order) (level_of size)) (x.first / pages_of size == block)
    ∙ ap (λ t. nat_le (level_of x.order) (level_of size) && t) (plain space x.space block (x.first / pages_of size) a (small-block size x.first b))
  where
    plain : (s t m n : ℕ) → m < 2 ^ 45 → n < 2 ^ 45 → ((t == s) && (n == m)) ≡ (t * 2 ^ 45 + n == s * 2 ^ 45 + m)
    plain s t m n h k =
        elim (t == s) as (λ b. (t == s) ≡ b → (b && (n == m)) ≡ (t * 2 ^ 45 + n == s * 2 ^ 45 + m)) [
          | true ↦ λ p. let e : t ≡ s = grind (arith, nat_tests) in grind (arith, nat_tests)
          | false ↦ λ p. grind (arith, nat_tests)
        ] refl

    moved : (a b c : Bool) → (a && (b && c)) ≡ (b && (a && c))
    moved true true c = refl
    moved true false c = refl
    moved false true c = refl
    moved false false c = refl
