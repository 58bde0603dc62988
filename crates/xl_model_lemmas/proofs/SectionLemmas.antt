-- The keys of the sections that exist, and how many there are. For the counts of leaves by section,
-- which the tables of chains and the cuckoo row keep.
use Rattle.xl_model_lemmas.proofs.Common.{◌&&◌, ◌/◌, ◌<◌, ◌==◌, ◌^◌, ◌||◌, ◌∷◌, ◌≡◌, ◌⊎◌, [], any-false, arith, Bool, cond, counts_at, false, In, inl, inr, key_in, Leaf, length, level_of, List, list_any, nat_le, nat_tests, Once, Order, pages_of, refl, section_count, section_keys, subst, true, with_key, ℕ}
use Rattle.xl_list_lemmas.proofs.OnceLemmas.{once-same}
use Rattle.xl_model.specs.declared.address.Order.TheVariants as order

-- a key put to a list of keys
put-In : (key k : ℕ) (keys : List ℕ) → In k (with_key key keys) → (k ≡ key) ⊎ In k keys
put-In key k keys i =
    elim (list_any (λ n. n == key) keys) as (λ b. In k (cond b keys (key ∷ keys)) → (k ≡ key) ⊎ In k keys) [
      | true ↦ λ j. inr j
      | false ↦ λ j. j
    ] i

stays-put : (key k : ℕ) (keys : List ℕ) → In k keys → In k (with_key key keys)
stays-put key k keys i =
    elim (list_any (λ n. n == key) keys) as (λ b. In k (cond b keys (key ∷ keys))) [ true ↦ i | false ↦ inr i ]

In-put : (key : ℕ) (keys : List ℕ) → In key (with_key key keys)
In-put key keys =
    elim (list_any (λ n. n == key) keys) as (λ b. list_any (λ n. n == key) keys ≡ b → In key (cond b keys (key ∷ keys))) [
      | true ↦ λ t. there keys t
      | false ↦ λ t. inl refl
    ] refl
  where
    there : (ks : List ℕ) → list_any (λ n. n == key) ks ≡ true → In key ks
    there [] t = absurd (cc)
    there (k ∷ ks) t =
        elim (k == key) as (λ b. (k == key) ≡ b → (b || list_any (λ n. n == key) ks) ≡ true → In key (k ∷ ks)) [
          | true ↦ λ e u. inl (grind (arith, nat_tests))
          | false ↦ λ e u. inr (there ks u)
        ] refl t

put-once : (key : ℕ) (keys : List ℕ) → Once keys → Once (with_key key keys)
put-once key keys o =
    elim (list_any (λ n. n == key) keys) as (λ b. list_any (λ n. n == key) keys ≡ b → Once (cond b keys (key ∷ keys))) [
      | true ↦ λ t. o
      | false ↦ λ t. (λ i. let e : (key == key) ≡ false = any-false (λ n. n == key) key keys t i in grind (arith, nat_tests), o)
    ] refl

-- the keys are those for which some leaf counts, each once
pub keys-In : (size : Order) (key : ℕ) (xs : List Leaf) → In key (section_keys size xs) → list_any (counts_at size key) xs ≡ true
keys-In size key [] i = absurd i
keys-In size key (x ∷ xs) i =
    elim (nat_le (level_of x.order) (level_of size)) as (λ b. In key (cond b (with_key (key_in size x) (section_keys size xs)) (section_keys size xs))
    → ((b && (key_in size x == key)) || list_any (counts_at size key) xs) ≡ true) [
      | true ↦ λ j. elim (put-In (key_in size x) key (section_keys size xs) j) [
        | inl e ↦ let t : (key_in size x == key) ≡ true = grind (arith, nat_tests) in rw t refl
        | inr k ↦ rw (keys-In size key xs k) (or-true (key_in size x == key))
      ]
      | false ↦ λ j. keys-In size key xs j
    ] i
  where
    or-true : (b : Bool) → (b || true) ≡ true
    or-true true = refl
    or-true false = refl

pub In-keys : (size : Order) (key : ℕ) (xs : List Leaf) → list_any (counts_at size key) xs ≡ true → In key (section_keys size xs)
In-keys size key [] h = absurd (cc)
In-keys size key (x ∷ xs) h =
    elim (nat_le (level_of x.order) (level_of size)) as (λ b. ((b && (key_in size x == key)) || list_any (counts_at size key) xs) ≡ true
    → In key (cond b (with_key (key_in size x) (section_keys size xs)) (section_keys size xs))) [
      | true ↦ λ t. elim (key_in size x == key) as (λ c. (key_in size x == key) ≡ c → (c || list_any (counts_at size key) xs) ≡ true → In key (with_key (key_in size x) (section_keys size xs))) [
        | true ↦ λ e u. let same : key_in size x ≡ key = grind (arith, nat_tests) in
            let P : ℕ → Type 0 = λ k. In k (with_key (key_in size x) (section_keys size xs)) in subst P same (In-put (key_in size x) (section_keys size xs))
        | false ↦ λ e u. stays-put (key_in size x) key (section_keys size xs) (In-keys size key xs u)
      ] refl t
      | false ↦ λ t. In-keys size key xs t
    ] h

pub keys-once : (size : Order) (xs : List Leaf) → Once (section_keys size xs)
keys-once size [] = tt
keys-once size (x ∷ xs) =
    elim (nat_le (level_of x.order) (level_of size)) as (λ b. Once (cond b (with_key (key_in size x) (section_keys size xs)) (section_keys size xs))) [
      | true ↦ put-once (key_in size x) (section_keys size xs) (keys-once size xs)
      | false ↦ keys-once size xs
    ]

-- Keys that occur once and are those of the sections are as many as the sections.
pub count-keys : (size : Order) (leaves : List Leaf) (keys : List ℕ) → Once keys → ((k : ℕ) → In k keys → list_any (counts_at size k) leaves ≡ true)
    → ((k : ℕ) → list_any (counts_at size k) leaves ≡ true → In k keys) → length keys ≡ section_count size leaves
count-keys size leaves keys once there back =
    once-same keys (section_keys size leaves) once (keys-once size leaves) (λ k i. In-keys size k leaves (there k i)) (λ k i. back k (keys-In size k leaves i))

-- the definition's test of a section is that of its key
pub small-block : (o : Order) (first : ℕ) → first < 2 ^ 45 → first / pages_of o < 2 ^ 45
small-block order.K4 first h = omega arith
small-block order.M2 first h = omega arith
small-block order.G1 first h = omega arith
