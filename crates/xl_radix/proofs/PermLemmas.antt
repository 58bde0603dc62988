-- A leaf changes its permission: it leaves its slot, and comes back.
use Rattle.xl_radix.proofs.Common.{◌%◌, ◌*◌, ◌+◌, ◌-◌, ◌<◌, ◌^◌, ◌∙◌, ◌∷◌, ◌≡◌, ◌≤◌, [], ap, arith, changed, false≢true, In, inl, inr, is_some, IsAtNode, IsEnd, IsExact, IsNamed, IsNew, IsRadixMapping, IsReady, IsStore, Leaf, leaf_at_page, leaf_in, leaf_named, leaf_word, length, level-low, level_of, List, named-first, named-In, named-is, named-order, named-space, Node, None, number_of, only_needed, Option, Order, Protect, Radix, read_back, refl, shape_after, slice_index, slice_index_or, slice_set, Some, subst, suc, sym, true, up, with_leaf, without_leaf, zero, ℕ}
use Rattle.xl_model.specs.declared.perm.Perm.{Perm}
use Rattle.xl_radix.proofs.CaseLemmas.{split-le}
use Rattle.xl_radix.proofs.EndLemmas.{found-at, not-both}
use Rattle.xl_radix.proofs.ReadBackLemmas.{own-slot}
use Rattle.xl_radix.proofs.RemovalLemmas.{clear-step, Named, named}
use Rattle.xl_radix.proofs.ShapeLemmas.{all-needed}
use Rattle.xl_radix.proofs.SlotLemmas.{at_node-word}
use Rattle.xl_radix.proofs.StepLemmas.{at_node-in, put-step}
use Rattle.xl_radix.proofs.TakenLeafLemmas.{unplaced-leaf-same, without-in}
use Rattle.xl_radix.proofs.TakingLemmas.{named-needs}

set-twice : (xs : List ℕ) (p a b : ℕ) → slice_set (slice_set xs p a) p b ≡ slice_set xs p b
set-twice [] p a b = refl
set-twice (x ∷ xs) zero a b = refl
set-twice (x ∷ xs) (suc p) a b = ap (λ (l : List ℕ). x ∷ l) (set-twice xs p a b)

set-own : (xs : List ℕ) (p : ℕ) → p < length xs → slice_set xs p (slice_index xs p) ≡ xs
set-own [] p h = absurd (omega arith)
set-own (x ∷ xs) zero h = refl
set-own (x ∷ xs) (suc p) h = ap (λ (l : List ℕ). x ∷ l) (set-own xs p (omega arith))

abbrev pub with_perm_of : Perm → Leaf → Leaf
with_perm_of perm x = record x { perm = perm }

pub record PermStep (top spaces : ℕ) (x : Leaf) (perm : Perm) (leaves : List Leaf) (nodes : List (Option Node)) (words used : List ℕ) : Type 0 where
  pub store : IsStore top spaces (with_leaf (with_perm_of perm x) (without_leaf x.space x.first leaves)) nodes words used
  pub back : read_back nodes words ≡ with_leaf (with_perm_of perm x) (without_leaf x.space x.first leaves)
  pub exact : IsExact top (with_leaf (with_perm_of perm x) (without_leaf x.space x.first leaves)) nodes

-- The changed leaf is new beside the others.
new-perm : (top spaces : ℕ) (x : Leaf) (perm : Perm) (leaves : List Leaf) → IsRadixMapping top spaces leaves → In x leaves → IsNew top spaces (with_perm_of perm x) (without_leaf x.space x.first leaves)
new-perm top spaces x perm leaves m i = record {
  proper = let p = m.proper x i in record { space_in = p.space_in; aligned = p.aligned; first_in = p.first_in; key_in = p.key_in; frame_in = p.frame_in; frame_aligned = p.frame_aligned };
  over = λ y j s h e. let r = without-in x leaves y j in r.1 (m.apart y x r.0 i s h e);
  under = λ y j s h e. let r = without-in x leaves y j in r.1 (sym (m.apart x y i r.0 (sym s) h (sym e)));
}

pub perm-step : (top spaces n i : ℕ) (w : ℕ) (x : Leaf) (perm : Perm) (leaves : List Leaf) (nodes : List (Option Node)) (words used : List ℕ) → IsStore top spaces leaves nodes words used → IsExact top leaves nodes → leaf_named x.space x.first x.order leaves ≡ Some x → IsAtNode x.space x.first (level_of x.order) n nodes →
    i ≡ up (level_of x.order) x.first % 512 → w ≡ leaf_word x.frame perm → PermStep top spaces x perm leaves nodes (slice_set words (n * 512 + i) w) used
perm-step top spaces n i w x perm leaves nodes words used store exact name at ei ew =
    let there = named-In x.space x.first x.order x leaves name in
    let r = at_node-word top x.space x.first (level_of x.order) n leaves nodes words store.image at in
    let inside : n < length used = let z = store.counted.places in let y = r.0 in omega arith in
    let u = slice_index used n in
    let is-named : is_some (leaf_named x.space x.first x.order leaves) ≡ true = rw name refl in
    let clear = clear-step top spaces x.space x.first n i u x.order leaves nodes words used store exact is-named at ei (own used n u inside refl) in
    let slot = own-slot top spaces leaves x store.mapping there in
    let ready : IsReady x.space x.first (level_of x.order) n (without_leaf x.space x.first leaves) nodes = record {
      at = at;
      empty = unplaced-leaf-same top spaces x.space (level_of x.order) (up (level_of x.order) x.first) x leaves store.mapping there (record { space_is = refl; level_is = refl; block_is = refl });
      absent = absent slot;
    } in
    let counts : slice_index (slice_set used n (u - 1)) n ≡ u - 1 = same used n (u - 1) inside in
    let put = put-step top spaces n i w (u - 1) (with_perm_of perm x) (without_leaf x.space x.first leaves) nodes (slice_set words (n * 512 + i) 0) (slice_set used n (u - 1)) clear.store (new-perm top spaces x perm leaves store.mapping there) ready ei ew (own2 (slice_set used n (u - 1)) n (u - 1) counts) in
    let some = clear.some in
    let e : u - 1 + 1 ≡ u = omega arith in
    let f : slice_set (slice_set used n (u - 1)) n (u - 1 + 1) ≡ used = set-twice used n (u - 1) (u - 1 + 1) ∙ ap (slice_set used n) e ∙ set-own used n inside in
    let d = set-twice words (n * 512 + i) 0 w in
    record {
      store = rw (d, f) at put.store;
      back = rw d at put.back;
      exact = put.exact clear.nearly;
    }
  where
    own : (xs : List ℕ) (p v : ℕ) → p < length xs → v ≡ slice_index xs p → v ≡ slice_index_or xs p v
    own [] p v h e = absurd (omega arith)
    own (x ∷ xs) zero v h e = e
    own (x ∷ xs) (suc p) v h e = own xs p v (omega arith) e

    same : (xs : List ℕ) (p v : ℕ) → p < length xs → slice_index (slice_set xs p v) p ≡ v
    same [] p v h = absurd (omega arith)
    same (x ∷ xs) zero v h = refl
    same (x ∷ xs) (suc p) v h = same xs p v (omega arith)

    own2 : (xs : List ℕ) (p v : ℕ) → slice_index xs p ≡ v → v ≡ slice_index_or xs p v
    own2 [] p v e = refl
    own2 (x ∷ xs) zero v e = sym e
    own2 (x ∷ xs) (suc p) v e = own2 xs p v e

    low : level_of x.order < top
    low = elim (store.image.closed x.space (suc (level_of x.order)) (up (suc (level_of x.order)) x.first) n at.at_node) [ inl e ↦ omega arith | inr e ↦ let h = e.1 in omega arith ]

    absent : leaf_in x.space (level_of x.order) (up (level_of x.order) x.first) leaves ≡ Some x → number_of x.space (level_of x.order) (up (level_of x.order) x.first) nodes ≡ None
    absent slot = elim (number_of x.space (level_of x.order) (up (level_of x.order) x.first) nodes) as (λ o. number_of x.space (level_of x.order) (up (level_of x.order) x.first) nodes ≡ o → o ≡ None) [
      | None ↦ λ e. refl
      | Some k ↦ λ e. absurd (not-both top spaces x.space (level_of x.order) (up (level_of x.order) x.first) k leaves nodes x (low) store.mapping exact slot e)
    ] refl

pub node-low : (top spaces s page l n : ℕ) (leaves : List Leaf) (nodes : List (Option Node)) (words used : List ℕ) → IsStore top spaces leaves nodes words used → IsAtNode s page l n nodes → n < 16384
node-low top spaces s page l n leaves nodes words used store at = let h = at_node-in s page l n nodes at in let k = store.rooted.small in omega arith

pub frame-low : (top spaces : ℕ) (x : Leaf) (leaves : List Leaf) (nodes : List (Option Node)) (words used : List ℕ) → IsStore top spaces leaves nodes words used → leaf_named x.space x.first x.order leaves ≡ Some x → x.frame < 2 ^ 44
frame-low top spaces x leaves nodes words used store name = (store.mapping.proper x (named-In x.space x.first x.order x leaves name)).frame_in

-- What names a leaf finds it at its first page too, and the walk to it comes down to its level.
pub record Found (top s f : ℕ) (o : Order) (l n : ℕ) (r : Option Leaf) (leaves : List Leaf) (nodes : List (Option Node)) : Type 0 where
  pub leaf : Leaf
  pub is : leaf_named s f o leaves ≡ Some leaf
  pub at_page : r ≡ Some leaf
  pub own : leaf_named leaf.space leaf.first leaf.order leaves ≡ Some leaf
  pub at : IsAtNode leaf.space leaf.first (level_of leaf.order) n nodes

pub found-named : (top spaces s f l n : ℕ) (o : Order) (r : Option Leaf) (leaves : List Leaf) (nodes : List (Option Node)) (words used : List ℕ) → IsStore top spaces leaves nodes words used → IsNamed s f o leaves → IsEnd top s f (level_of o) l n nodes → r ≡ leaf_at_page s f leaves → Found top s f o l n r leaves nodes
found-named top spaces s f l n o r leaves nodes words used store name end er =
    elim (leaf_named s f o leaves) as (λ q. leaf_named s f o leaves ≡ q → is_some q ≡ true → Found top s f o l n r leaves nodes) [
      | None ↦ λ e g. absurd (false≢true g)
      | Some x ↦ λ e g. some x e
    ] refl name
  where
    some : (x : Leaf) → leaf_named s f o leaves ≡ Some x → Found top s f o l n r leaves nodes
    some x e =
        let is = named-is s f o x leaves e in
        let a = named-space s f o x is in
        let b = named-first s f o x is in
        let d = named-order s f o x is in
        let i = named-In s f o x leaves e in
        let low = level-low o in
        let slot = own-slot top spaces leaves x store.mapping i in
        let page = found-at top spaces x.space x.first (level_of x.order) leaves x store.mapping slot in
        let level : l ≡ level_of o = elim end.ends [
          | inl k ↦ k
          | inr k ↦ elim (split-le (level_of o) l end.least_in) [
            | inl h ↦ sym h
            | inr h ↦ absurd (store.image.full s l (up l f) (named-needs s f l o leaves name h) (let z = end.level_in in omega arith) k)
          ]
        ] in
        record {
          leaf = x;
          is = e;
          at_page = er ∙ rw (← a, ← b) page;
          own = ap (λ (v : ℕ). leaf_named v x.first x.order leaves) a ∙ ap (λ (v : ℕ). leaf_named s v x.order leaves) b ∙ ap (λ (v : Order). leaf_named s f v leaves) d ∙ e;
          at = rw (a, b, d, ← level) end.at;
        }

-- The mapping and the shape after the change.
pub protected-is : (s f : ℕ) (o : Order) (perm : Perm) (x : Leaf) (leaves : List Leaf) → leaf_named s f o leaves ≡ Some x → changed (Protect s f o perm) leaves ≡ with_leaf (with_perm_of perm x) (without_leaf x.space x.first leaves)
unfolding changed
protected-is s f o perm x leaves e = rw e refl

pub shape-protected : (top spaces s f : ℕ) (o : Order) (perm : Perm) (leaves after : List Leaf) (nodes new : List (Option Node)) → after ≡ changed (Protect s f o perm) leaves → new ≡ nodes → IsExact top after new → Radix top spaces new ≡ shape_after (Protect s f o perm) leaves (Radix top spaces nodes)
unfolding shape_after
shape-protected top spaces s f o perm leaves after nodes new e d exact =
    ap (Radix top spaces) (sym (all-needed top after new exact) ∙ ap (only_needed top after) d ∙ ap (λ (l : List Leaf). only_needed top l nodes) e)

top-page : (top page : ℕ) → 3 ≤ top → top ≤ 5 → up top page ≡ 0 → page < 2 ^ (9 * top)
top-page zero page h g e = absurd (omega arith)
top-page (suc zero) page h g e = absurd (omega arith)
top-page (suc (suc zero)) page h g e = absurd (omega arith)
top-page (suc (suc (suc zero))) page h g e = omega arith
top-page (suc (suc (suc (suc zero)))) page h g e = omega arith
top-page (suc (suc (suc (suc (suc zero))))) page h g e = omega arith
top-page (suc (suc (suc (suc (suc (suc l)))))) page h g e = absurd (omega arith)

pub named-page : (top spaces s f : ℕ) (o : Order) (leaves : List Leaf) (nodes : List (Option Node)) (words used : List ℕ) → IsStore top spaces leaves nodes words used → IsNamed s f o leaves → (s < spaces) × (f < 2 ^ (9 * top))
named-page top spaces s f o leaves nodes words used store name = step (named s f o leaves name)
  where
    step : (x : Leaf) × Named s f (level_of o) x leaves → (s < spaces) × (f < 2 ^ (9 * top))
    step r =
        let p = store.mapping.proper r.0 r.1.there in
        (subst (λ (v : ℕ). v < spaces) r.1.space_is p.space_in, top-page top f store.high store.low (subst (λ (v : ℕ). up top v ≡ 0) r.1.first_is p.first_in))
