-- Numbers of nodes: what a new node and a change of the mapping leave of them.
use Rattle.xl_model_laws.proofs.Common.{◌+◌, ◌-◌, ◌<◌, ◌==◌, ◌||◌, ◌∷◌, ◌≡◌, ◌≤◌, [], arith, Bool, cond, false, free_count, in_nodes, is_below, is_needed, kept_node, Leaf, List, list_any, map, missing, nat_le, nat_tests, Node, None, number_of, one_unless, Option, position_from, put_first, refl, slice_index_or, Some, subst, suc, true, unless_there, up, with_node, with_path, zero, ℕ}
use Rattle.std.proofs.Math.Bool.{or-true}

-- a test that a free number doesn't pass
pub put-at : (x y : Node) (nodes : List (Option Node)) (n : ℕ) → slice_index_or nodes n None ≡ Some y → slice_index_or (put_first x nodes) n None ≡ Some y
put-at x y [] n h = h
put-at x y (None ∷ nodes) zero h = absurd (cc)
put-at x y (None ∷ nodes) (suc n) h = h
put-at x y (Some z ∷ nodes) zero h = h
put-at x y (Some z ∷ nodes) (suc n) h = put-at x y nodes n h

put-has : (p : Option Node → Bool) (x : Node) (nodes : List (Option Node)) → p None ≡ false → list_any p nodes ≡ true → list_any p (put_first x nodes) ≡ true
put-has p x [] none h = h
put-has p x (None ∷ nodes) none h = let k : list_any p nodes ≡ true = rw none at h in grind (arith, nat_tests)
put-has p x (Some z ∷ nodes) none h =
    elim (p (Some z)) as (λ b. (b || list_any p nodes) ≡ true → (b || list_any p (put_first x nodes)) ≡ true) [
      | true ↦ λ k. refl
      | false ↦ λ k. put-has p x nodes none k
    ] h

put-puts : (p : Option Node → Bool) (x : Node) (nodes : List (Option Node)) → 0 < free_count nodes → p (Some x) ≡ true → list_any p (put_first x nodes) ≡ true
put-puts p x [] room h = absurd (omega arith)
put-puts p x (None ∷ nodes) room h = rw h refl
put-puts p x (Some z ∷ nodes) room h =
    elim (p (Some z)) as (λ b. (b || list_any p (put_first x nodes)) ≡ true) [
      | true ↦ refl
      | false ↦ put-puts p x nodes room h
    ]

put-free : (x : Node) (nodes : List (Option Node)) → 0 < free_count nodes → free_count (put_first x nodes) + 1 ≡ free_count nodes
put-free x [] room = absurd (omega arith)
put-free x (None ∷ nodes) room = refl
put-free x (Some z ∷ nodes) room = put-free x nodes room

put-other : (p : Option Node → Bool) (x : Node) (nodes : List (Option Node)) → p None ≡ false → p (Some x) ≡ false → list_any p (put_first x nodes) ≡ list_any p nodes
put-other p x [] none h = refl
put-other p x (None ∷ nodes) none h = rw (none, h) refl
put-other p x (Some z ∷ nodes) none h = let k : list_any p (put_first x nodes) ≡ list_any p nodes = put-other p x nodes none h in rw k refl

-- a number that is found, and one that isn't
pub position-none : {A : Type 0} (p : A → Bool) (i : ℕ) (xs : List A) → position_from p i xs ≡ None → list_any p xs ≡ false
position-none p i [] h = refl
position-none p i (x ∷ xs) h =
    elim (p x) as (λ b. cond b (Some i) (position_from p (i + 1) xs) ≡ None → (b || list_any p xs) ≡ false) [
      | true ↦ λ k. absurd (cc)
      | false ↦ λ k. position-none p (i + 1) xs k
    ] h

pub position-any : {A : Type 0} (p : A → Bool) (i n : ℕ) (xs : List A) → position_from p i xs ≡ Some n → list_any p xs ≡ true
position-any p i n [] h = absurd (cc)
position-any p i n (x ∷ xs) h =
    elim (p x) as (λ b. cond b (Some i) (position_from p (i + 1) xs) ≡ Some n → (b || list_any p xs) ≡ true) [
      | true ↦ λ k. refl
      | false ↦ λ k. position-any p (i + 1) n xs k
    ] h

pub position-at : (p : Option Node → Bool) (i n : ℕ) (xs : List (Option Node)) → position_from p i xs ≡ Some n → (k : ℕ) × (n ≡ i + k) × (p (slice_index_or xs k None) ≡ true)
position-at p i n [] h = absurd (cc)
position-at p i n (x ∷ xs) h =
    elim (p x) as (λ b. p x ≡ b → cond b (Some i) (position_from p (i + 1) xs) ≡ Some n → (k : ℕ) × (n ≡ i + k) × (p (slice_index_or (x ∷ xs) k None) ≡ true)) [
      | true ↦ λ t k. let e : i ≡ n = cc in (0, omega arith, t)
      | false ↦ λ t k. let found = position-at p (i + 1) n xs k in
          let e : n ≡ i + 1 + found.0 = found.1 in
          (suc found.0, omega arith, found.2)
    ] refl h

-- what with_node leaves
pub is-new : (space l block : ℕ) → 0 < l → is_below space l block (Some (record { space = space; level = l - 1; prefix = block })) ≡ true
is-new space l block h = grind (arith, nat_tests)

not-new : (space l block space2 l2 block2 : ℕ) → 0 < l → (l2 ≡ l → ⊥) → is_below space2 l2 block2 (Some (record { space = space; level = l - 1; prefix = block })) ≡ false
not-new space l block space2 l2 block2 h other =
    let ne : (l - 1 + 1 == l2) ≡ false = go (l - 1 + 1 == l2) refl in
    grind (arith, nat_tests)
  where
    go : (b : Bool) → (l - 1 + 1 == l2) ≡ b → b ≡ false
    go true t = let e : l - 1 + 1 ≡ l2 = grind (arith, nat_tests) in absurd (other (omega arith))
    go false t = refl

by-at : (o : Option ℕ) (x y : Node) (nodes : List (Option Node)) (n : ℕ) → slice_index_or nodes n None ≡ Some y → slice_index_or (unless_there o nodes (put_first x nodes)) n None ≡ Some y
by-at None x y nodes n h = put-at x y nodes n h
by-at (Some k) x y nodes n h = h

pub with-at : (space l block : ℕ) (y : Node) (nodes : List (Option Node)) (n : ℕ) → slice_index_or nodes n None ≡ Some y → slice_index_or (with_node space l block nodes) n None ≡ Some y
unfolding with_node
with-at space l block y nodes n h = by-at (number_of space l block nodes) _ y nodes n h

by-has : (p : Option Node → Bool) (o : Option ℕ) (x : Node) (nodes : List (Option Node)) → p None ≡ false → list_any p nodes ≡ true → list_any p (unless_there o nodes (put_first x nodes)) ≡ true
by-has p None x nodes none h = put-has p x nodes none h
by-has p (Some k) x nodes none h = h

with-has : (p : Option Node → Bool) (space l block : ℕ) (nodes : List (Option Node)) → p None ≡ false → list_any p nodes ≡ true → list_any p (with_node space l block nodes) ≡ true
unfolding with_node
with-has p space l block nodes none h = by-has p (number_of space l block nodes) _ nodes none h

-- room for one node more: it is there, and its number is no longer free
with-puts : (space l block : ℕ) (nodes : List (Option Node)) → 0 < l → one_unless (number_of space l block nodes) ≤ free_count nodes
    → (list_any (is_below space l block) (with_node space l block nodes) ≡ true)
    × (free_count (with_node space l block nodes) + one_unless (number_of space l block nodes) ≡ free_count nodes)
unfolding with_node number_of
with-puts space l block nodes positive room = go (position_from (is_below space l block) 0 nodes) refl room
  where
    go : (o : Option ℕ) → position_from (is_below space l block) 0 nodes ≡ o → one_unless o ≤ free_count nodes
        → (list_any (is_below space l block) (unless_there o nodes (put_first (record { space = space; level = l - 1; prefix = block }) nodes)) ≡ true)
        × (free_count (unless_there o nodes (put_first (record { space = space; level = l - 1; prefix = block }) nodes)) + one_unless o ≡ free_count nodes)
    go None is r = (
      put-puts (is_below space l block) (record { space = space; level = l - 1; prefix = block }) nodes (omega arith) (is-new space l block positive),
      put-free (record { space = space; level = l - 1; prefix = block }) nodes (omega arith),
    )
    go (Some n) is r = (position-any (is_below space l block) 0 n nodes is, omega arith)

-- nodes of other levels are missing as before
same-unless : (p : Option Node → Bool) (xs ys : List (Option Node)) → list_any p xs ≡ list_any p ys → one_unless (position_from p 0 xs) ≡ one_unless (position_from p 0 ys)
same-unless p xs ys e = go (position_from p 0 xs) (position_from p 0 ys) refl refl
  where
    go : (a b : Option ℕ) → position_from p 0 xs ≡ a → position_from p 0 ys ≡ b → one_unless a ≡ one_unless b
    go None None f g = refl
    go (Some n) (Some m) f g = refl
    go None (Some m) f g =
        let s : list_any p xs ≡ false = position-none p 0 xs f in
        let t : list_any p ys ≡ true = position-any p 0 m ys g in
        absurd (cc)
    go (Some n) None f g =
        let s : list_any p xs ≡ true = position-any p 0 n xs f in
        let t : list_any p ys ≡ false = position-none p 0 ys g in
        absurd (cc)

other-by : (p : Option Node → Bool) (o : Option ℕ) (x : Node) (nodes : List (Option Node)) → p None ≡ false → p (Some x) ≡ false
    → list_any p (unless_there o nodes (put_first x nodes)) ≡ list_any p nodes
other-by p None x nodes none h = put-other p x nodes none h
other-by p (Some k) x nodes none h = refl

other-missing : (space l block k up_k : ℕ) (nodes : List (Option Node)) → 0 < l → (k ≡ l → ⊥)
    → one_unless (number_of space k up_k (with_node space l block nodes)) ≡ one_unless (number_of space k up_k nodes)
unfolding with_node number_of
other-missing space l block k up_k nodes positive other =
    same-unless (is_below space k up_k)
    (unless_there (position_from (is_below space l block) 0 nodes) nodes (put_first (record { space = space; level = l - 1; prefix = block }) nodes)) nodes
    (other-by (is_below space k up_k) (position_from (is_below space l block) 0 nodes) (record { space = space; level = l - 1; prefix = block }) nodes refl
    (not-new space l block space k up_k positive other))

missing-same : (space page l d j block : ℕ) (nodes : List (Option Node)) → l + d < j
    → missing space page l d (with_node space j block nodes) ≡ missing space page l d nodes
missing-same space page l zero j block nodes h = refl
missing-same space page l (suc d) j block nodes h =
    let a : one_unless (number_of space (l + suc d) (up (l + suc d) page) (with_node space j block nodes)) ≡ one_unless (number_of space (l + suc d) (up (l + suc d) page) nodes) =
    other-missing space j block (l + suc d) (up (l + suc d) page) nodes (omega arith) (λ e. omega arith) in
    let b : missing space page l d (with_node space j block nodes) ≡ missing space page l d nodes = missing-same space page l d j block nodes (omega arith) in
    rw (a, b) refl

pub path-at : (space page l d : ℕ) (y : Node) (nodes : List (Option Node)) (n : ℕ) → slice_index_or nodes n None ≡ Some y → slice_index_or (with_path space page l d nodes) n None ≡ Some y
path-at space page l zero y nodes n h = h
path-at space page l (suc d) y nodes n h =
    path-at space page l d y (with_node space (l + suc d) (up (l + suc d) page) nodes) n (with-at space (l + suc d) (up (l + suc d) page) y nodes n h)

pub path-has : (p : Option Node → Bool) (space page l d : ℕ) (nodes : List (Option Node)) → p None ≡ false → list_any p nodes ≡ true → list_any p (with_path space page l d nodes) ≡ true
path-has p space page l zero nodes none h = h
path-has p space page l (suc d) nodes none h =
    path-has p space page l d (with_node space (l + suc d) (up (l + suc d) page) nodes) none (with-has p space (l + suc d) (up (l + suc d) page) nodes none h)

-- with room for what is missing, every node of the way is there
pub path-puts : (space page l d : ℕ) (nodes : List (Option Node)) → missing space page l d nodes ≤ free_count nodes
    → (k : ℕ) → l < k → k ≤ l + d → list_any (is_below space k (up k page)) (with_path space page l d nodes) ≡ true
path-puts space page l zero nodes room k low high = absurd (omega arith)
path-puts space page l (suc d) nodes room k low high =
    let here = with-puts space (l + suc d) (up (l + suc d) page) nodes (omega arith) (omega arith) in
    let less : free_count (with_node space (l + suc d) (up (l + suc d) page) nodes) + one_unless (number_of space (l + suc d) (up (l + suc d) page) nodes) ≡ free_count nodes = here.1 in
    let same : missing space page l d (with_node space (l + suc d) (up (l + suc d) page) nodes) ≡ missing space page l d nodes =
    missing-same space page l d (l + suc d) (up (l + suc d) page) nodes (omega arith) in
    elim (nat_le k (l + d)) as (λ b. nat_le k (l + d) ≡ b → list_any (is_below space k (up k page)) (with_path space page l d (with_node space (l + suc d) (up (l + suc d) page) nodes)) ≡ true) [
      | true ↦ λ t. path-puts space page l d (with_node space (l + suc d) (up (l + suc d) page) nodes) (omega arith) k low (grind (arith, nat_tests))
      | false ↦ λ t.
          let past : l + d < k = grind (arith, nat_tests) in
          let e : l + suc d ≡ k = omega arith in
          let P : ℕ → Type 0 = λ j. list_any (is_below space j (up j page)) (with_path space page l d (with_node space (l + suc d) (up (l + suc d) page) nodes)) ≡ true in
          subst P e (path-has (is_below space (l + suc d) (up (l + suc d) page)) space page l d (with_node space (l + suc d) (up (l + suc d) page) nodes) refl here.0)
    ] refl

-- needed nodes keep their numbers
pub kept-at : (levels : ℕ) (leaves : List Leaf) (y : Node) (nodes : List (Option Node)) (n : ℕ) → slice_index_or nodes n None ≡ Some y
    → is_needed levels leaves y ≡ true → slice_index_or (map (kept_node levels leaves) nodes) n None ≡ Some y
kept-at levels leaves y [] n h need = h
kept-at levels leaves y (x ∷ nodes) zero h need = rw (h, need) refl
kept-at levels leaves y (x ∷ nodes) (suc n) h need = kept-at levels leaves y nodes n h need

below-needed : (levels space l block : ℕ) (leaves : List Leaf) (x : Option Node) → is_below space l block x ≡ true → in_nodes space l block leaves ≡ true
    → kept_node levels leaves x ≡ x
below-needed levels space l block leaves None h need = absurd (cc)
below-needed levels space l block leaves (Some y) h need =
    let a : y.space ≡ space = grind (arith, nat_tests) in
    let b : y.level + 1 ≡ l = grind (arith, nat_tests) in
    let c : y.prefix ≡ block = grind (arith, nat_tests) in
    let n : in_nodes y.space (y.level + 1) y.prefix leaves ≡ true = rw (a, b, c) need in
    rw n (go (y.level + 1 == levels))
  where
    go : (t : Bool) → cond (t || true) (Some y) None ≡ Some y
    go true = refl
    go false = refl

pub kept-has : (levels space l block : ℕ) (leaves : List Leaf) (nodes : List (Option Node)) → list_any (is_below space l block) nodes ≡ true
    → in_nodes space l block leaves ≡ true → list_any (is_below space l block) (map (kept_node levels leaves) nodes) ≡ true
kept-has levels space l block leaves [] h need = h
kept-has levels space l block leaves (x ∷ nodes) h need =
    elim (is_below space l block x) as (λ b. is_below space l block x ≡ b → (b || list_any (is_below space l block) nodes) ≡ true
    → (is_below space l block (kept_node levels leaves x) || list_any (is_below space l block) (map (kept_node levels leaves) nodes)) ≡ true) [
      | true ↦ λ t k. let e : kept_node levels leaves x ≡ x = below-needed levels space l block leaves x t need in rw (e, t) refl
      | false ↦ λ t k. let rest : list_any (is_below space l block) (map (kept_node levels leaves) nodes) ≡ true = kept-has levels space l block leaves nodes k need in
          rw rest (or-true (is_below space l block (kept_node levels leaves x)))
    ] refl h
