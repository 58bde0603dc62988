-- Numbers of nodes, by look-ups at a place, and what the slots of a table say.
use Rattle.xl_radix.proofs.Common.{◌%◌, ◌*◌, ◌+◌, ◌<◌, ◌^◌, ◌∙◌, ◌∷◌, ◌≡◌, ◌≤◌, [], any-In, ap, arith, Bool, cases_lt, cond, decode_of, entry, false, find-In, find-None, find-passes, free_count, get_or_past, In, In-any, in_nodes, inl, inr, is_below, is_none, is_slot, is_some, is_under, IsAtNode, IsImage, IsRadixMapping, Leaf, leaf_in, leaf_word, length, level_of, List, list_any, nat_tests, Node, None, number_of, Option, pointer_word, position, position_from, position_from-zero, Pte, put_first, refl, same_Some, slice_index, slice_index_or, slice_set, Some, subst, suc, sym, true, up, word_at, word_of, zero, ℕ}
use Rattle.xl_pte.proofs.BitLemmas.{decode-made-leaf, decode-made-pointer}
use Rattle.xl_pte.specs.declared.word.Pte.TheVariants as pte

pub position-some : (p : Option Node → Bool) (xs : List (Option Node)) (b n : ℕ) → position_from p b xs ≡ Some n → (k : ℕ) × (n ≡ b + k) × (k < length xs) × (p (slice_index_or xs k None) ≡ true)
position-some p [] b n h = cc
position-some p (x ∷ xs) b n h =
    elim (p x) as (λ t. p x ≡ t → cond t (Some b) (position_from p (b + 1) xs) ≡ Some n → (k : ℕ) × (n ≡ b + k) × (k < length (x ∷ xs)) × (p (slice_index_or (x ∷ xs) k None) ≡ true)) [
      | true ↦ λ e g. let q : b ≡ n = cc in (0, omega arith, omega arith, e)
      | false ↦ λ e g. let r = position-some p xs (b + 1) n g in (suc r.0, omega (arith, r.1), omega (arith, r.2), r.3)
    ] refl h

pub position-none : (p : Option Node → Bool) (xs : List (Option Node)) (b k : ℕ) → p None ≡ false → position_from p b xs ≡ None → p (slice_index_or xs k None) ≡ false
position-none p [] b k f h = f
position-none p (x ∷ xs) b zero f h =
    elim (p x) as (λ t. p x ≡ t → cond t (Some b) (position_from p (b + 1) xs) ≡ None → p x ≡ false) [
      | true ↦ λ e g. cc
      | false ↦ λ e g. e
    ] refl h
position-none p (x ∷ xs) b (suc k) f h =
    elim (p x) as (λ t. p x ≡ t → cond t (Some b) (position_from p (b + 1) xs) ≡ None → p (slice_index_or xs k None) ≡ false) [
      | true ↦ λ e g. cc
      | false ↦ λ e g. position-none p xs (b + 1) k f g
    ] refl h

pub position-set-other : (p : Option Node → Bool) (xs : List (Option Node)) (b k : ℕ) (y : Option Node) → p (slice_index_or xs k None) ≡ false → p y ≡ false → position_from p b (slice_set xs k y) ≡ position_from p b xs
position-set-other p [] b k y e f = refl
position-set-other p (x ∷ xs) b zero y e f = rw (e, f) refl
position-set-other p (x ∷ xs) b (suc k) y e f = ap (cond (p x) (Some b)) (position-set-other p xs (b + 1) k y e f)

pub node-in : (n : ℕ) (nodes : List (Option Node)) (node : Node) → slice_index_or nodes n None ≡ Some node → n < length nodes
node-in n nodes node e = elim (cases_lt n (length nodes)) [
  | inl lt ↦ lt
  | inr ge ↦ absurd (past n nodes node e ge)
]
  where
    past : (n : ℕ) (nodes : List (Option Node)) (node : Node) → slice_index_or nodes n None ≡ Some node → length nodes ≤ n → ⊥
    past n nodes node e ge = let f = get_or_past nodes n None ge in cc

pub number-some : (s l q n : ℕ) (nodes : List (Option Node)) → number_of s l q nodes ≡ Some n → (n < length nodes) × (is_below s l q (slice_index_or nodes n None) ≡ true)
unfolding number_of
number-some s l q n nodes h =
    let r = position-some (is_below s l q) nodes 0 n h in
    let e : n ≡ r.0 = omega (arith, r.1) in
    (omega (arith, r.2), rw e r.3)

pub number-none : (s l q n : ℕ) (nodes : List (Option Node)) → number_of s l q nodes ≡ None → is_below s l q (slice_index_or nodes n None) ≡ false
unfolding number_of
number-none s l q n nodes h = position-none (is_below s l q) nodes 0 n refl h

pub number-there : (s l q n : ℕ) (nodes : List (Option Node)) → is_below s l q (slice_index_or nodes n None) ≡ true → number_of s l q nodes ≡ None → ⊥
number-there s l q n nodes t h = let f = number-none s l q n nodes h in cc

pub number-set-other : (s l q k : ℕ) (y : Option Node) (nodes : List (Option Node)) → slice_index_or nodes k None ≡ None → is_below s l q y ≡ false → number_of s l q (slice_set nodes k y) ≡ number_of s l q nodes
unfolding number_of
number-set-other s l q k y nodes e f = position-set-other (is_below s l q) nodes 0 k y (ap (is_below s l q) e) f

pub number-set-any : (s l q k : ℕ) (y : Option Node) (nodes : List (Option Node)) → is_below s l q (slice_index_or nodes k None) ≡ false → is_below s l q y ≡ false → number_of s l q (slice_set nodes k y) ≡ number_of s l q nodes
unfolding number_of
number-set-any s l q k y nodes e f = position-set-other (is_below s l q) nodes 0 k y e f

-- A number that alone has the node is the node's number.
pub number-only : (s l q n : ℕ) (nodes : List (Option Node)) → is_below s l q (slice_index_or nodes n None) ≡ true → ((m : ℕ) → is_below s l q (slice_index_or nodes m None) ≡ true → m ≡ n) → number_of s l q nodes ≡ Some n
number-only s l q n nodes t only =
    elim (number_of s l q nodes) as (λ o. number_of s l q nodes ≡ o → o ≡ Some n) [
      | Some m ↦ λ e. ap Some (only m (number-some s l q m nodes e).1)
      | None ↦ λ e. absurd (number-there s l q n nodes t e)
    ] refl

pub record Is (s l q : ℕ) (node : Node) : Type 0 where
  pub space_is : node.space ≡ s
  pub level_is : node.level + 1 ≡ l
  pub prefix_is : node.prefix ≡ q

pub below-is : (s l q : ℕ) (node : Node) → is_below s l q (Some node) ≡ true → Is s l q node
below-is s l q node h = record {
  space_is = grind (arith, nat_tests);
  level_is = grind (arith, nat_tests);
  prefix_is = grind (arith, nat_tests);
}

pub is-below : (s l q : ℕ) (node : Node) → Is s l q node → is_below s l q (Some node) ≡ true
is-below s l q node h = let a = h.space_is in let b = h.level_is in let c = h.prefix_is in grind (arith, nat_tests)

pub below-some : (s l q : ℕ) (o : Option Node) → is_below s l q o ≡ true → (node : Node) × (o ≡ Some node) × Is s l q node
below-some s l q None h = cc
below-some s l q (Some node) h = (node, refl, below-is s l q node h)

-- The lowest free number takes a node.
lowest-put : (nodes : List (Option Node)) (b k : ℕ) (x : Node) → position_from is_none b nodes ≡ Some (b + k) → slice_set nodes k (Some x) ≡ put_first x nodes
lowest-put [] b k x h = cc
lowest-put (None ∷ nodes) b zero x h = refl
lowest-put (None ∷ nodes) b (suc k) x h = let e : b ≡ b + suc k = same_Some _ _ h in absurd (omega (arith, e))
lowest-put (Some y ∷ nodes) b zero x h =
    let r = position-some is_none nodes (b + 1) (b + 0) h in
    absurd (omega (arith, r.1))
lowest-put (Some y ∷ nodes) b (suc k) x h =
    let e : b + suc k ≡ b + 1 + k = omega arith in
    ap (λ (l : List (Option Node)). Some y ∷ l) (lowest-put nodes (b + 1) k x (h ∙ ap Some e))

pub put-lowest : (nodes : List (Option Node)) (k : ℕ) (x : Node) → position is_none nodes ≡ Some k → slice_set nodes k (Some x) ≡ put_first x nodes
put-lowest nodes k x h = lowest-put nodes 0 k x (sym (position_from-zero is_none nodes) ∙ h ∙ ap Some (let e : k ≡ 0 + k = omega arith in e))

none-free : (nodes : List (Option Node)) (b : ℕ) → position_from is_none b nodes ≡ None → free_count nodes ≡ 0
none-free [] b h = refl
none-free (None ∷ nodes) b h = cc
none-free (Some y ∷ nodes) b h = none-free nodes (b + 1) h

pub free-none : (nodes : List (Option Node)) → position is_none nodes ≡ None → 0 < free_count nodes → ⊥
free-none nodes h g = let e = none-free nodes 0 (sym (position_from-zero is_none nodes) ∙ h) in omega (arith, e)

pub lowest-is : (nodes : List (Option Node)) (k : ℕ) → position is_none nodes ≡ Some k → (k < length nodes) × (slice_index_or nodes k None ≡ None)
lowest-is nodes k h =
    let r = position-some is_none nodes 0 k (sym (position_from-zero is_none nodes) ∙ h) in
    let e : k ≡ r.0 = omega (arith, r.1) in
    (omega (arith, r.2), rw e (free (slice_index_or nodes r.0 None) r.3))
  where
    free : (o : Option Node) → is_none o ≡ true → o ≡ None
    free None h = refl
    free (Some x) h = cc

pub put-first-count : (nodes : List (Option Node)) (x : Node) → 0 < free_count nodes → free_count (put_first x nodes) + 1 ≡ free_count nodes
put-first-count [] x h = absurd (omega arith)
put-first-count (None ∷ nodes) x h = refl
put-first-count (Some y ∷ nodes) x h = put-first-count nodes x h

position-any : (p : Option Node → Bool) (xs : List (Option Node)) (b : ℕ) → list_any p xs ≡ is_some (position_from p b xs)
position-any p [] b = refl
position-any p (x ∷ xs) b =
    elim (p x) as (λ t. p x ≡ t → list_any p (x ∷ xs) ≡ is_some (cond t (Some b) (position_from p (b + 1) xs))) [
      | true ↦ λ e. rw e refl
      | false ↦ λ e. rw e (position-any p xs (b + 1))
    ] refl

-- Some node has a name where the name has a number.
pub any_number : (s l q : ℕ) (nodes : List (Option Node)) → list_any (is_below s l q) nodes ≡ is_some (number_of s l q nodes)
unfolding number_of
any_number s l q nodes = position-any (is_below s l q) nodes 0

-- A leaf at a slot.
pub record At (space l block : ℕ) (leaf : Leaf) : Type 0 where
  pub space_is : leaf.space ≡ space
  pub level_is : level_of leaf.order ≡ l
  pub block_is : up l leaf.first ≡ block

pub slot-at : (s l q : ℕ) (x : Leaf) → is_slot s l q x ≡ true → At s l q x
slot-at s l q x h = record {
  space_is = grind (arith, nat_tests);
  level_is = grind (arith, nat_tests);
  block_is = grind (arith, nat_tests);
}

pub at-slot : (s l q : ℕ) (x : Leaf) → At s l q x → is_slot s l q x ≡ true
at-slot s l q x h = let a = h.space_is in let b = h.level_is in let c = h.block_is in grind (arith, nat_tests)

-- A leaf under a slot.
pub record Under (space l block : ℕ) (leaf : Leaf) : Type 0 where
  pub space_is : leaf.space ≡ space
  pub level_in : level_of leaf.order < l
  pub block_is : up l leaf.first ≡ block

pub under-is : (s l q : ℕ) (x : Leaf) → is_under s l q x ≡ true → Under s l q x
under-is s l q x h = record {
  space_is = grind (arith, nat_tests);
  level_in = grind (arith, nat_tests);
  block_is = grind (arith, nat_tests);
}

pub is-under : (s l q : ℕ) (x : Leaf) → Under s l q x → is_under s l q x ≡ true
is-under s l q x h = let a = h.space_is in let b = h.level_in in let c = h.block_is in grind (arith, nat_tests)

pub leaf-in-some : (s l q : ℕ) (leaves : List Leaf) (x : Leaf) → leaf_in s l q leaves ≡ Some x → In x leaves × At s l q x
unfolding leaf_in
leaf-in-some s l q leaves x h = (find-In (is_slot s l q) x leaves h, slot-at s l q x (find-passes (is_slot s l q) x leaves h))

pub leaf-in-none : (s l q : ℕ) (leaves : List Leaf) (x : Leaf) → leaf_in s l q leaves ≡ None → In x leaves → At s l q x → ⊥
unfolding leaf_in
leaf-in-none s l q leaves x h i a = let f = find-None (is_slot s l q) x leaves h i in let t = at-slot s l q x a in cc

pub in-nodes : (s l q : ℕ) (leaves : List Leaf) (x : Leaf) → In x leaves → Under s l q x → in_nodes s l q leaves ≡ true
unfolding in_nodes
in-nodes s l q leaves x i u = In-any (is_under s l q) x leaves i (is-under s l q x u)

pub in-nodes-leaf : (s l q : ℕ) (leaves : List Leaf) → in_nodes s l q leaves ≡ true → (x : Leaf) × In x leaves × Under s l q x
unfolding in_nodes
in-nodes-leaf s l q leaves h = let r = any-In (is_under s l q) leaves h in (r.0, r.1, under-is s l q r.0 r.2)

-- What the word of a slot says.
abbrev pub Says : Pte → ℕ → ℕ → ℕ → List Leaf → List (Option Node) → Type 0
Says pte.Invalid s l q leaves nodes = (leaf_in s l q leaves ≡ None) × (number_of s l q nodes ≡ None)
Says (pte.Pointer number) s l q leaves nodes = (leaf_in s l q leaves ≡ None) × (number_of s l q nodes ≡ Some number)
Says (pte.Leaf frame perm) s l q leaves nodes = (x : Leaf) × (leaf_in s l q leaves ≡ Some x) × (x.frame ≡ frame) × (x.perm ≡ perm)
Says pte.Reserved s l q leaves nodes = ⊥
Says pte.Misaligned s l q leaves nodes = ⊥

decode-nothing : (l : ℕ) → decode_of 0 l ≡ pte.Invalid
unfolding decode_of
decode-nothing l = refl

no-pointer : (s q n : ℕ) (nodes : List (Option Node)) → number_of s 0 q nodes ≡ Some n → ⊥
no-pointer s q n nodes h =
    let r = number-some s 0 q n nodes h in
    let b = below-some s 0 q _ r.1 in
    let e = b.2.level_is in absurd (omega arith)

pub pointer-low : (s l q n : ℕ) (nodes : List (Option Node)) → number_of s l q nodes ≡ Some n → 0 < l
pointer-low s zero q n nodes h = absurd (no-pointer s q n nodes h)
pointer-low s (suc l) q n nodes h = omega arith

pub says : (top spaces s l q : ℕ) (leaves : List Leaf) (nodes : List (Option Node)) → IsRadixMapping top spaces leaves → length nodes ≤ 16384 → Says (decode_of (word_at leaves nodes s l q) l) s l q leaves nodes
unfolding word_at
says top spaces s l q leaves nodes m small =
    elim (leaf_in s l q leaves) as (λ o. leaf_in s l q leaves ≡ o → Says (decode_of (entry o (number_of s l q nodes)) l) s l q leaves nodes) [
      | Some x ↦ λ e. leaf x e
      | None ↦ λ e. elim (number_of s l q nodes) as (λ o. number_of s l q nodes ≡ o → Says (decode_of (entry None o) l) s l q leaves nodes) [
        | Some n ↦ λ f. pointed n e f
        | None ↦ λ f. rw (decode-nothing l) (e, f)
      ] refl
    ] refl
  where
    leaf : (x : Leaf) → leaf_in s l q leaves ≡ Some x → Says (decode_of (leaf_word x.frame x.perm) l) s l q leaves nodes
    leaf x e =
        let r = leaf-in-some s l q leaves x e in
        let p = m.proper x r.0 in
        let a : x.frame % 2 ^ (9 * l) ≡ 0 = let P : ℕ → Type 0 = λ k. x.frame % 2 ^ (9 * k) ≡ 0 in subst P r.1.level_is p.frame_aligned in
        rw (decode-made-leaf x.frame l x.perm p.frame_in a) (x, e, refl, refl)

    pointed : (n : ℕ) → leaf_in s l q leaves ≡ None → number_of s l q nodes ≡ Some n → Says (decode_of (pointer_word n) l) s l q leaves nodes
    pointed n e f =
        let b = (number-some s l q n nodes f).0 in
        let low = pointer-low s l q n nodes f in
        let high : n < 2 ^ 44 = omega arith in
        rw (decode-made-pointer n l high low) (e, f)

-- The word of a page in the node of its level is that of its slot.
pub at_node-word : (top s page l n : ℕ) (leaves : List Leaf) (nodes : List (Option Node)) (words : List ℕ) → IsImage top leaves nodes words → IsAtNode s page l n nodes → (n < length nodes) × (slice_index words (n * 512 + up l page % 512) ≡ word_at leaves nodes s l (up l page))
at_node-word top s page l n leaves nodes words image at =
    let b = below-some s (suc l) (up (suc l) page) _ at.at_node in
    let inside : n < length nodes = node-in n nodes b.0 b.1 in
    let same = image.same n (up l page % 512) inside (omega arith) in
    (inside, same ∙ ap (λ (o : Option Node). word_of leaves nodes o (up l page % 512)) b.1 ∙ named b.0 b.2)
  where
    named : (node : Node) → Is s (suc l) (up (suc l) page) node → word_at leaves nodes node.space node.level (node.prefix * 512 + up l page % 512) ≡ word_at leaves nodes s l (up l page)
    named node is =
        let a = is.space_is in
        let b : node.level ≡ l = omega (arith, is.level_is) in
        let c : node.prefix * 512 + up l page % 512 ≡ up l page = omega (arith, is.prefix_is) in
        rw (a, b, c) refl
