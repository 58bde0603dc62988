-- A leaf is taken out, and the empty nodes above it.
use Rattle.xl_radix.proofs.Common.{◌*◌, ◌+◌, ◌-◌, ◌<◌, ◌==◌, ◌∙◌, ◌∷◌, ◌≡◌, ◌≢◌, ◌≤◌, ◌⊎◌, [], ap, arith, Bool, changed, false, false_from_ne_true, false≢true, free_count, in_nodes, inl, inr, is_below, is_needed, is_slot, is_some, IsAtNode, IsExact, IsLess, IsNamed, IsNearly, IsStore, IsTaken, kept_node, Leaf, leaf_in, leaf_named, length, level_of, List, map, named-first, named-is, named-space, nat_tests, Node, None, number_of, only_needed, Option, Order, Radix, refl, Remove, shape_after, slice_index, slice_index_or, Some, subst, suc, sym, true, up, without-In, without_leaf, without_old, zero, ℕ}
use Rattle.xl_radix.proofs.CountLemmas.{filled-some}
use Rattle.xl_radix.proofs.FreedNodeLemmas.{filled-needed, kept-nearly, node-is}
use Rattle.xl_radix.proofs.ListLemmas.{find-nothing}
use Rattle.xl_radix.proofs.MadeNodeLemmas.{new_node}
use Rattle.xl_radix.proofs.RemovalLemmas.{Named, named}
use Rattle.xl_radix.proofs.ShapeLemmas.{kept-one, own-slot}
use Rattle.xl_radix.proofs.SlotLemmas.{below-some, in-nodes, leaf-in-none, node-in, number-some, slot-at}

-- A named leaf needs the nodes above it.
pub named-needs : (s f l : ℕ) (o : Order) (leaves : List Leaf) → IsNamed s f o leaves → level_of o < l → in_nodes s l (up l f) leaves ≡ true
named-needs s f l o leaves name low = step (named s f o leaves name)
  where
    step : (x : Leaf) × Named s f (level_of o) x leaves → in_nodes s l (up l f) leaves ≡ true
    step r = in-nodes s l (up l f) leaves r.0 r.1.there (record { space_is = r.1.space_is; level_in = omega (arith, r.1.level_is); block_is = ap (up l) r.1.first_is })

-- An empty slot stays empty when a leaf leaves.
pub empty-without : (s l q a b : ℕ) (leaves : List Leaf) → leaf_in s l q leaves ≡ None → leaf_in s l q (without_leaf a b leaves) ≡ None
unfolding leaf_in
empty-without s l q a b leaves e =
    find-nothing (is_slot s l q) (without_leaf a b leaves) (λ y i t. leaf-in-none s l q leaves y e (without-In y a b leaves i) (slot-at s l q y t))

pub is-zero : (b : Bool) (u : ℕ) → b ≡ (u == 0) → b ≡ true → u ≡ 0
is-zero b u e h = grind (arith, nat_tests)

pub not-zero : (b : Bool) (u : ℕ) → b ≡ (u == 0) → b ≡ false → u ≢ 0
not-zero b u e h = λ z. false≢true (sym h ∙ e ∙ zero-is u z)
  where
    zero-is : (u : ℕ) → u ≡ 0 → (u == 0) ≡ true
    zero-is u z = grind (arith, nat_tests)

still-core : (top spaces s page l k : ℕ) (leaves : List Leaf) (nodes : List (Option Node)) (words used : List ℕ) → IsStore top spaces leaves nodes words used → suc l < top → IsAtNode s page l k nodes → slice_index used k ≢ 0 → IsNearly top s page l leaves nodes → IsNearly top s page (suc l) leaves nodes
still-core top spaces s page l k leaves nodes words used store low at ne nearly =
    let b = below-some s (suc l) (up (suc l) page) _ at.at_node in
    let name : slice_index_or nodes k None ≡ Some (new_node s l (up (suc l) page)) = b.1 ∙ ap Some (node-is s l (up (suc l) page) b.0 b.2) in
    let inside : k < length nodes = node-in k nodes b.0 b.1 in
    let some = filled-some words (k * 512) 512 (λ z. ne (store.counted.each k inside ∙ z)) in
    kept-nearly top s page l k leaves nodes nearly (filled-needed top s page l k some.0 leaves nodes words store.image (omega arith) nearly name some.1 some.2)

-- A node of the path that isn't empty is needed.
pub still-nearly : (top spaces s page j k : ℕ) (leaves : List Leaf) (nodes : List (Option Node)) (words used : List ℕ) → IsStore top spaces leaves nodes words used → 0 < j → j < top → IsAtNode s page (j - 1) k nodes → slice_index used k ≢ 0 → IsNearly top s page (j - 1) leaves nodes → IsNearly top s page j leaves nodes
still-nearly top spaces s page zero k leaves nodes words used store pos low at ne nearly = absurd (omega arith)
still-nearly top spaces s page (suc l) k leaves nodes words used store pos low at ne nearly =
    let h : suc l - 1 ≡ l = omega arith in
    still-core top spaces s page l k leaves nodes words used store low (rw h at at) ne (rw h at nearly)

-- At the top nothing of the path is left over.
pub nearly-exact : (top spaces s page : ℕ) (leaves : List Leaf) (nodes : List (Option Node)) (words used : List ℕ) → IsStore top spaces leaves nodes words used → IsNearly top s page (top - 1) leaves nodes → IsExact top leaves nodes
nearly-exact top spaces s page leaves nodes words used store nearly = record {
  needed = λ a b c n h. needed a b c n h (nearly.nearly a b c n h);
}
  where
    high : (a b c n : ℕ) → is_below a b c (slice_index_or nodes n None) ≡ true → top - 1 < b → b ≡ top
    high a b c n h g = elim (store.image.closed a b c n h) [ inl e ↦ e | inr e ↦ let k = e.1 in absurd (omega arith) ]

    needed : (a b c n : ℕ) → is_below a b c (slice_index_or nodes n None) ≡ true → (b ≡ top) ⊎ ((in_nodes a b c leaves ≡ true) ⊎ ((a ≡ s) × (top - 1 < b) × (c ≡ up b page))) → (b ≡ top) ⊎ (in_nodes a b c leaves ≡ true)
    needed a b c n h (inl e) = inl e
    needed a b c n h (inr (inl e)) = inr e
    needed a b c n h (inr (inr e)) = inl (high a b c n h e.1)

-- A root is at each page.
pub root-at_node : (top spaces s page : ℕ) (leaves : List Leaf) (nodes : List (Option Node)) (words used : List ℕ) → IsStore top spaces leaves nodes words used → s < spaces → up top page ≡ 0 → IsAtNode s page (top - 1) s nodes
root-at_node top spaces s page leaves nodes words used store h e =
    let high = store.high in
    let t : suc (top - 1) ≡ top = omega arith in
    record { at_node = subst (λ (v : ℕ). is_below s v (up v page) (slice_index_or nodes s None) ≡ true) (sym t) (rw e (store.rooted.root s h)) }

pub named-at_node : (top spaces s f : ℕ) (o : Order) (leaves : List Leaf) (nodes : List (Option Node)) (words used : List ℕ) → IsStore top spaces leaves nodes words used → IsNamed s f o leaves → IsAtNode s f (top - 1) s nodes
named-at_node top spaces s f o leaves nodes words used store name = step (named s f o leaves name)
  where
    step : (x : Leaf) × Named s f (level_of o) x leaves → IsAtNode s f (top - 1) s nodes
    step r =
        let p = store.mapping.proper r.0 r.1.there in
        root-at_node top spaces s f leaves nodes words used store (subst (λ (v : ℕ). v < spaces) r.1.space_is p.space_in) (subst (λ (v : ℕ). up top v ≡ 0) r.1.first_is p.first_in)

-- The nodes after a removal are those that are needed.
needed-cases : (top : ℕ) (leaves : List Leaf) (node : Node) → is_needed top leaves node ≡ true → (node.level + 1 ≡ top) ⊎ (in_nodes node.space (node.level + 1) node.prefix leaves ≡ true)
needed-cases top leaves node h =
    elim (in_nodes node.space (node.level + 1) node.prefix leaves) as (λ b. in_nodes node.space (node.level + 1) node.prefix leaves ≡ b → (node.level + 1 ≡ top) ⊎ (b ≡ true)) [
      | true ↦ λ e. inr refl
      | false ↦ λ e. inl (grind (arith, nat_tests))
    ] refl

only-list : (top : ℕ) (leaves : List Leaf) (old new : List (Option Node)) → length new ≡ length old → ((n : ℕ) → slice_index_or new n None ≡ kept_node top leaves (slice_index_or old n None)) → new ≡ map (kept_node top leaves) old
only-list top leaves [] [] e each = refl
only-list top leaves [] (y ∷ ys) e each = absurd (omega arith)
only-list top leaves (x ∷ xs) [] e each = absurd (omega arith)
only-list top leaves (x ∷ xs) (y ∷ ys) e each =
    let first : y ≡ kept_node top leaves x = each 0 in
    let rest = only-list top leaves xs ys (omega arith) (λ n. each (suc n)) in
    rw (first, rest) refl

pub taken-only : (top spaces spaces' j given : ℕ) (before leaves : List Leaf) (old new : List (Option Node)) (words used words' used' : List ℕ) → IsStore top spaces before old words used → IsStore top spaces' leaves new words' used' → IsTaken j given old new → j < top → IsExact top leaves new → new ≡ only_needed top leaves old
unfolding only_needed
taken-only top spaces spaces' j given before leaves old new words used words' used' store store' taken low exact =
    only-list top leaves old new taken.less.size (λ n. each n (slice_index_or old n None) refl (taken.less.each n))
  where
    gone : (n : ℕ) (x : Node) → slice_index_or old n None ≡ Some x → slice_index_or new n None ≡ None → (x.level + 1 ≡ top) ⊎ (in_nodes x.space (x.level + 1) x.prefix leaves ≡ true) → ⊥
    gone n x e f (inl h) =
        let below : is_below x.space (x.level + 1) x.prefix (slice_index_or old n None) ≡ true = rw e (own-slot x) in
        let after = taken.others x.space (x.level + 1) x.prefix n (omega arith) below in
        let g = rw f at after in false≢true g
    gone n x e f (inr h) =
        let below : is_below x.space (x.level + 1) x.prefix (slice_index_or old n None) ≡ true = rw e (own-slot x) in
        let lower : x.level + 1 ≤ top = elim (store.image.closed x.space (x.level + 1) x.prefix n below) [ inl k ↦ omega arith | inr k ↦ let z = k.1 in omega arith ] in
        elim (number_of x.space (x.level + 1) x.prefix new) as (λ o. number_of x.space (x.level + 1) x.prefix new ≡ o → ⊥) [
          | None ↦ λ k. store'.image.full x.space (x.level + 1) x.prefix h lower k
          | Some m ↦ λ k. there m (number-some x.space (x.level + 1) x.prefix m new k).1 (taken.less.each m)
        ] refl
      where
        there : (m : ℕ) → is_below x.space (x.level + 1) x.prefix (slice_index_or new m None) ≡ true → (slice_index_or new m None ≡ slice_index_or old m None) ⊎ (slice_index_or new m None ≡ None) → ⊥
        there m t (inr k) = let g = rw k at t in false≢true g
        there m t (inl k) =
            let d = store.image.apart x.space (x.level + 1) x.prefix m n (rw k at t) (rw e (own-slot x)) in
            let g = rw (d, f) at t in false≢true g

    each : (n : ℕ) (x : Option Node) → slice_index_or old n None ≡ x → (slice_index_or new n None ≡ slice_index_or old n None) ⊎ (slice_index_or new n None ≡ None) → slice_index_or new n None ≡ kept_node top leaves (slice_index_or old n None)
    each n x e (inl f) = f ∙ e ∙ sym (ap (kept_node top leaves) e ∙ kept-one top leaves new n x exact (f ∙ e))
    each n None e (inr f) = f ∙ sym (ap (kept_node top leaves) e)
    each n (Some x) e (inr f) =
        let t : is_needed top leaves x ≡ false = false_from_ne_true _ (λ h. gone n x e f (needed-cases top leaves x h)) in
        f ∙ sym (ap (kept_node top leaves) e ∙ rw t refl)

-- A node of the path at a level from which none was given back is yet.
pub stays : (s page j h given n : ℕ) (a b : List (Option Node)) → IsTaken j given a b → j ≤ h → IsAtNode s page h n a → IsAtNode s page h n b
stays s page j h given n a b taken low at = record { at_node = taken.others s (suc h) (up (suc h) page) n (omega arith) at.at_node }

pub free-le : (nodes : List (Option Node)) → free_count nodes ≤ length nodes
free-le [] = omega arith
free-le (None ∷ nodes) = let h = free-le nodes in omega arith
free-le (Some x ∷ nodes) = let h = free-le nodes in omega arith

few-le : (xs ys : List (Option Node)) → IsLess xs ys → free_count xs ≤ free_count ys
few-le [] ys f = omega arith
few-le (x ∷ xs) [] f = let h = f.size in absurd (omega arith)
few-le (None ∷ xs) (None ∷ ys) f = let r = few-le xs ys (record { size = let h = f.size in omega arith; each = λ n. f.each (suc n) }) in omega arith
few-le (None ∷ xs) (Some y ∷ ys) f = absurd (elim (f.each 0) [ inl e ↦ other y e | inr e ↦ other y e ])
  where
    other : (y : Node) → Some y ≡ None → ⊥
    other y e = cc
few-le (Some x ∷ xs) (None ∷ ys) f = let r = few-le xs ys (record { size = let h = f.size in omega arith; each = λ n. f.each (suc n) }) in omega arith
few-le (Some x ∷ xs) (Some y ∷ ys) f = few-le xs ys (record { size = let h = f.size in omega arith; each = λ n. f.each (suc n) })

-- Where as many numbers are free as before, no node was given back.
pub less-none : (old new : List (Option Node)) → IsLess old new → free_count new ≡ free_count old → new ≡ old
less-none [] [] less e = refl
less-none [] (y ∷ ys) less e = let h = less.size in absurd (omega arith)
less-none (x ∷ xs) [] less e = let h = less.size in absurd (omega arith)
less-none (x ∷ xs) (y ∷ ys) less e = go x y (less.each 0) e (less-none xs ys rest)
  where
    rest : IsLess xs ys
    rest = record { size = let h = less.size in omega arith; each = λ n. less.each (suc n) }

    go : (x y : Option Node) → (y ≡ x) ⊎ (y ≡ None) → free_count (y ∷ ys) ≡ free_count (x ∷ xs) → (free_count ys ≡ free_count xs → ys ≡ xs) → y ∷ ys ≡ x ∷ xs
    go x y (inl f) e on = rw (f, on (same x y f e)) refl
      where
        same : (x y : Option Node) → y ≡ x → free_count (y ∷ ys) ≡ free_count (x ∷ xs) → free_count ys ≡ free_count xs
        same None None f e = omega arith
        same (Some x) (Some y) f e = e
        same None (Some y) f e = cc
        same (Some x) None f e = cc
    go None None (inr f) e on = ap (λ (l : List (Option Node)). None ∷ l) (on (omega arith))
    go None (Some y) (inr f) e on = cc
    go (Some x) None (inr f) e on = let r = few-le xs ys rest in absurd (omega arith)
    go (Some x) (Some y) (inr f) e on = cc

-- The mapping after a removal.
pub removed-is : (s f : ℕ) (o : Order) (leaves : List Leaf) → IsNamed s f o leaves → changed (Remove s f o) leaves ≡ without_leaf s f leaves
unfolding changed
removed-is s f o leaves h =
    elim (leaf_named s f o leaves) as (λ r. leaf_named s f o leaves ≡ r → is_some r ≡ true → without_old r leaves ≡ without_leaf s f leaves) [
      | None ↦ λ e g. absurd (false≢true g)
      | Some x ↦ λ e g. let is = named-is s f o x leaves e in rw (named-space s f o x is, named-first s f o x is) refl
    ] refl h

pub shape-removed : (top spaces s f : ℕ) (o : Order) (leaves after : List Leaf) (nodes new : List (Option Node)) → after ≡ changed (Remove s f o) leaves → new ≡ only_needed top after nodes → Radix top spaces new ≡ shape_after (Remove s f o) leaves (Radix top spaces nodes)
unfolding shape_after
shape-removed top spaces s f o leaves after nodes new e d = ap (Radix top spaces) (d ∙ ap (λ (l : List Leaf). only_needed top l nodes) e)

pub small-of : (nodes : List (Option Node)) → length nodes ≤ 16384 → free_count nodes ≤ 16384
small-of nodes h = let g = free-le nodes in omega arith
