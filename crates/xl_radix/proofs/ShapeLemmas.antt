-- The shape after a leaf was added: each node is one that the leaves need, so none is dropped.
use Rattle.xl_radix.proofs.Common.{◌+◌, ◌==◌, ◌∷◌, ◌≡◌, ◌⊎◌, [], ap, arith, changed, eq-eqb, free_count, in_nodes, inl, inr, Insert, is_below, is_needed, IsExact, IsLess, kept_node, Leaf, length, List, map, nat_tests, Node, None, only_needed, Option, Radix, refl, shape_after, slice_index_or, Some, subst, suc, sym, true, with_leaf, with_leaf_nodes, ℕ}
use Rattle.std.proofs.Math.Bool.{or-true}

pub own-slot : (node : Node) → is_below node.space (node.level + 1) node.prefix (Some node) ≡ true
own-slot node = rw (eq-eqb node.space node.space refl, eq-eqb (node.level + 1) (node.level + 1) refl, eq-eqb node.prefix node.prefix refl) refl

needed-by : (top : ℕ) (leaves : List Leaf) (node : Node) → (node.level + 1 ≡ top) ⊎ (in_nodes node.space (node.level + 1) node.prefix leaves ≡ true) → is_needed top leaves node ≡ true
needed-by top leaves node (inl e) = let t : (node.level + 1 == top) ≡ true = grind (arith, nat_tests) in rw t refl
needed-by top leaves node (inr n) = rw n (or-true (node.level + 1 == top))

pub kept-one : (top : ℕ) (leaves : List Leaf) (nodes : List (Option Node)) (n : ℕ) (x : Option Node) → IsExact top leaves nodes → slice_index_or nodes n None ≡ x → kept_node top leaves x ≡ x
kept-one top leaves nodes n None exact e = refl
kept-one top leaves nodes n (Some node) exact e =
    let P : Option Node → Type 0 = λ y. is_below node.space (node.level + 1) node.prefix y ≡ true in
    let below : is_below node.space (node.level + 1) node.prefix (slice_index_or nodes n None) ≡ true = subst P (sym e) (own-slot node) in
    let t : is_needed top leaves node ≡ true = needed-by top leaves node (exact.needed node.space (node.level + 1) node.prefix n below) in
    rw t refl

kept-list : (top : ℕ) (leaves : List Leaf) (xs : List (Option Node)) → ((n : ℕ) (x : Option Node) → slice_index_or xs n None ≡ x → kept_node top leaves x ≡ x) → map (kept_node top leaves) xs ≡ xs
kept-list top leaves [] each = refl
kept-list top leaves (x ∷ xs) each =
    let first : kept_node top leaves x ≡ x = each 0 x refl in
    let rest : map (kept_node top leaves) xs ≡ xs = kept-list top leaves xs (λ n y e. each (suc n) y e) in
    rw (first, rest) refl

pub all-needed : (top : ℕ) (leaves : List Leaf) (nodes : List (Option Node)) → IsExact top leaves nodes → only_needed top leaves nodes ≡ nodes
unfolding only_needed
all-needed top leaves nodes exact = kept-list top leaves nodes (λ n x e. kept-one top leaves nodes n x exact e)

pub shape-added : (top spaces : ℕ) (leaf : Leaf) (leaves new_leaves : List Leaf) (nodes new : List (Option Node)) → IsExact top new_leaves new
    → new_leaves ≡ with_leaf leaf leaves → new ≡ with_leaf_nodes top leaf nodes
    → Radix top spaces new ≡ shape_after (Insert leaf) leaves (Radix top spaces nodes)
unfolding shape_after changed
shape-added top spaces leaf leaves new_leaves nodes new exact e f =
    let kept : only_needed top (with_leaf leaf leaves) new ≡ new = subst (λ (l : List Leaf). only_needed top l new ≡ new) e (all-needed top new_leaves new exact) in
    subst (λ (n : List (Option Node)). Radix top spaces new ≡ Radix top spaces (only_needed top (with_leaf leaf leaves) n)) f (ap (Radix top spaces) (sym kept))

-- Where the nodes stay, none was given back.
pub less-same : (nodes new : List (Option Node)) → new ≡ nodes → IsLess nodes new
less-same nodes new e = record {
  size = ap length e;
  each = λ n. inl (ap (λ (l : List (Option Node)). slice_index_or l n None) e);
}

pub count-same : (nodes new : List (Option Node)) → new ≡ nodes → free_count new ≡ free_count nodes + 0
count-same nodes new e = let f = ap free_count e in omega arith
