-- A leaf moves: its new place is free, its old name stays beside the new leaf, and the order in which the two
-- come and go doesn't matter.
use Rattle.xl_radix.proofs.Common.{◌%◌, ◌*◌, ◌+◌, ◌/◌, ◌<◌, ◌^◌, ◌∙◌, ◌≡◌, ◌≤◌, any-false, ap, arith, brought, changed, false, false≢true, free_count, has_room, In, Insert, is_leaf, is_some, IsBlock, IsLess, IsMade, IsMove, IsNamed, IsRadixMapping, IsStore, Leaf, leaf_at_page, leaf_key, leaf_named, level_of, List, meets_any, meets_block, named-first, named-In, named-is, named-order, named-space, nat_tests, Node, None, only_needed, Option, Order, pages-some, pages_of, Radix, refl, Relocate, Remove, shape_after, shape_of, Some, stays-with, subst, sym, Table, true, with-without, with_leaf, with_leaf_nodes, without_leaf, ℕ}
use Rattle.xl_radix.proofs.EndLemmas.{found-at}
use Rattle.xl_radix.proofs.ListLemmas.{found-some}
use Rattle.xl_radix.proofs.ReadBackLemmas.{own-slot}
use Rattle.xl_radix.proofs.UpLemmas.{limit-low}
use Rattle.xl_model.specs.declared.address.Order.TheVariants as order

-- A leaf that is named covers the page that names it.
pub named-page-is : (top spaces s f : ℕ) (o : Order) (x : Leaf) (leaves : List Leaf) → IsRadixMapping top spaces leaves → leaf_named s f o leaves ≡ Some x → leaf_at_page s f leaves ≡ Some x
named-page-is top spaces s f o x leaves m e =
    let is = named-is s f o x leaves e in
    let a = named-space s f o x is in
    let b = named-first s f o x is in
    let slot = own-slot top spaces leaves x m (named-In s f o x leaves e) in
    rw (← a, ← b) (found-at top spaces x.space x.first (level_of x.order) leaves x m slot)

-- What names a leaf is what covers its first page.
pub named-at-page : (top spaces s f : ℕ) (o : Order) (leaves : List Leaf) → IsRadixMapping top spaces leaves → IsNamed s f o leaves → (x : Leaf) × (leaf_named s f o leaves ≡ Some x) × (leaf_at_page s f leaves ≡ Some x)
named-at-page top spaces s f o leaves m name =
    elim (leaf_named s f o leaves) as (λ r. leaf_named s f o leaves ≡ r → is_some r ≡ true → (x : Leaf) × (r ≡ Some x) × (leaf_at_page s f leaves ≡ Some x)) [
      | None ↦ λ e g. absurd (false≢true g)
      | Some x ↦ λ e g. (x, refl, named-page-is top spaces s f o x leaves m e)
    ] refl name

-- Frames of a leaf lie below 2^44, and its first one is a multiple of their number.
frames-in : (o : Order) (frame : ℕ) → frame < 2 ^ 44 → frame % 2 ^ (9 * level_of o) ≡ 0 → frame + pages_of o ≤ 2 ^ 44
frames-in order.K4 frame low e = omega arith
frames-in order.M2 frame low e = omega arith
frames-in order.G1 frame low e = omega arith

frames-aligned : (o : Order) (frame : ℕ) → frame % 2 ^ (9 * level_of o) ≡ 0 → (e : ℕ) × (frame ≡ e * pages_of o)
frames-aligned order.K4 frame e = (frame, omega arith)
frames-aligned order.M2 frame e = (frame / 512, omega arith)
frames-aligned order.G1 frame e = (frame / 262144, omega arith)

-- A leaf that begins where a block begins overlaps it.
begins-meets : (s to : ℕ) (o : Order) (y : Leaf) → y.space ≡ s → y.first ≡ to → meets_block s to o y ≡ true
begins-meets s to o y e f =
    let a = pages-some o in
    let b = pages-some y.order in
    grind (arith, nat_tests)

-- No leaf of the mapping has the key of a place that overlaps none.
no-key : (top spaces s to : ℕ) (o : Order) (leaves : List Leaf) → IsRadixMapping top spaces leaves → to < 2 ^ 52 → meets_any s to o leaves ≡ false → (y : Leaf) → In y leaves → s * 2 ^ 52 + to ≡ leaf_key y → ⊥
unfolding meets_any
no-key top spaces s to o leaves m low free y i e =
    let key = (m.proper y i).key_in in
    let space : y.space ≡ s = omega arith in
    let first : y.first ≡ to = omega arith in
    false≢true (sym (any-false (meets_block s to o) y leaves free i) ∙ begins-meets s to o y space first)

-- The moved leaf.
abbrev pub at_block : ℕ → ℕ → Order → Leaf → Leaf
at_block s to o x = record { space = s; first = to; order = o; frame = x.frame; perm = x.perm }

brings-is : (s f to : ℕ) (o : Order) (x : Leaf) (leaves : List Leaf) → leaf_named s f o leaves ≡ Some x → x.space ≡ s → x.order ≡ o → brought (Relocate s f to o) leaves ≡ Some (at_block s to o x)
brings-is s f to o x leaves e a b = rw e (rw (a, b) refl)

changed-is : (s f to : ℕ) (o : Order) (x : Leaf) (leaves : List Leaf) → leaf_named s f o leaves ≡ Some x → x.space ≡ s → x.first ≡ f → x.order ≡ o → changed (Relocate s f to o) leaves ≡ with_leaf (at_block s to o x) (without_leaf s f leaves)
unfolding changed
changed-is s f to o x leaves e a b d = rw e (rw (a, b, d) refl)

pub moves : (top spaces s f to : ℕ) (o : Order) (x : Leaf) (leaves : List Leaf) (nodes : List (Option Node)) (words used : List ℕ) → IsStore top spaces leaves nodes words used → leaf_named s f o leaves ≡ Some x → IsBlock (Radix top spaces nodes) s to o → meets_any s to o leaves ≡ false → IsMove top spaces s f to o (at_block s to o x) leaves nodes
unfolding leaf_named
moves top spaces s f to o x leaves nodes words used store e block free =
    let is = named-is s f o x leaves e in
    let a = named-space s f o x is in
    let b = named-first s f o x is in
    let d = named-order s f o x is in
    let i = named-In s f o x leaves e in
    let p = store.mapping.proper x i in
    let aligned : x.frame % 2 ^ (9 * level_of o) ≡ 0 = ap (λ (v : Order). x.frame % 2 ^ (9 * level_of v)) (sym d) ∙ p.frame_aligned in
    let some = pages-some o in
    let limit = limit-low top store.low in
    let low : to < 2 ^ 52 = let h = block.pages_in in omega arith in
    let new = at_block s to o x in
    let none : (y : Leaf) → In y leaves → leaf_key new ≡ leaf_key y → ⊥ = no-key top spaces s to o leaves store.mapping low free in
    let other : leaf_key new ≡ s * 2 ^ 52 + f → ⊥ = λ k. none x i (k ∙ sym (ap (λ (v : ℕ). v * 2 ^ 52 + x.first) a ∙ ap (λ (v : ℕ). s * 2 ^ 52 + v) b)) in
    record {
      brings = brings-is s f to o x leaves e a d;
      valid = record {
        block = block;
        frames_in = frames-in o x.frame p.frame_in aligned;
        frames_aligned = frames-aligned o x.frame aligned;
      };
      free = free;
      named = found-some (is_leaf s f o) x (with_leaf new leaves) (stays-with x new leaves i (λ k. none x i (sym k))) is;
      after = sym (changed-is s f to o x leaves e a b d ∙ with-without s f new leaves store.mapping.sorted other (λ z j e. none z j (sym e)));
    }

-- There is room for a move where there is room for the leaf as it is afterwards.
pub room-moved : (top s f to : ℕ) (o : Order) (x : Leaf) (t : Table) → IsMove top t.spaces s f to o x t.leaves t.nodes → has_room (Insert x) t.leaves (shape_of top t) ≡ has_room (Relocate s f to o) t.leaves (shape_of top t)
unfolding has_room
room-moved top s f to o x t move = rw move.brings refl

-- The leaf as it is afterwards comes, then the old one goes.
pub shifted : (top s f to given : ℕ) (o : Order) (x : Leaf) (old mid new : Table) → IsMove top old.spaces s f to o x old.leaves old.nodes
    → mid.leaves ≡ with_leaf x old.leaves → mid.nodes ≡ with_leaf_nodes top x old.nodes → mid.spaces ≡ old.spaces → mid.loads ≡ old.loads
    → IsMade top (Remove s f o) given mid new → new.leaves ≡ without_leaf s f mid.leaves → IsMade top (Relocate s f to o) given old new
unfolding shape_after
shifted top s f to given o x old mid new move el en es ed made gone =
    let after : new.leaves ≡ changed (Relocate s f to o) old.leaves = gone ∙ ap (without_leaf s f) el ∙ move.after in
    let needed : only_needed top (changed (Remove s f o) mid.leaves) mid.nodes ≡ only_needed top (changed (Relocate s f to o) old.leaves) (with_leaf_nodes top x old.nodes) =
    ap (λ (l : List Leaf). only_needed top l mid.nodes) (sym made.leaves ∙ after) ∙ ap (only_needed top (changed (Relocate s f to o) old.leaves)) en in
    record {
      leaves = after;
      shape = made.shape ∙ rw move.brings (ap (λ (v : ℕ). Radix top v (only_needed top (changed (Remove s f o) mid.leaves) mid.nodes)) es ∙ ap (Radix top old.spaces) needed);
      less = rw move.brings (subst (λ (l : List (Option Node)). IsLess l new.nodes) en made.less);
      count = rw move.brings (made.count ∙ ap (λ (l : List (Option Node)). free_count l + given) en);
      spaces = made.spaces ∙ es;
      loads = made.loads ∙ ed;
    }
