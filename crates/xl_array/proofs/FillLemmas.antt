-- A fill of one set of items, as one of the leaves; and leaves that come back from their items.
use Rattle.xl_array.proofs.Common.{◌%◌, ◌*◌, ◌+◌, ◌/◌, ◌<◌, ◌∙◌, ◌∷◌, ◌≡◌, ◌≤◌, [], ap, arith, Bool, false, get_or, length, List, map, refl, replicate, set, suc, sym, true, zero, ℕ}
unfoldable use Rattle.xl_model.specs.Tlb.{array_filled}
use Rattle.xl_model.proofs.CodeLemmas.{frame-back, perm-back}
use Rattle.xl_array.specs.Arrays.{is_in_set, IsArray}
use Rattle.xl_recency.specs.declared.item.Item.{Item}
use Rattle.xl_model.specs.declared.leaf.Leaf.{Leaf}
unfoldable use Rattle.xl_array.specs.Coding.{leaf_of, tag_of}
use Rattle.xl_model.specs.LeafWords.{leaf_with, perm_code}
use Rattle.xl_array.specs.Coding.{leaves_of}
use Rattle.std.specs.List.{list_all}
use Rattle.xl_model.specs.Tlb.{opening_array, set_number, takes_order, TlbArray}
use Rattle.xl_model.specs.declared.address.Order.{Order}
use Rattle.xl_model.specs.Addresses.{pages_of}
use Rattle.xl_model.specs.declared.row.TlbSpec.{TlbSpec}
use Rattle.xl_model.specs.Recency.{with_newest}
use Rattle.xl_array.proofs.LookLemmas.{array_of}
use Rattle.xl_list_lemmas.proofs.RecencyLemmas.{newest-map}
use Rattle.xl_array.proofs.SetLemmas.{kept_filled, view_set}
use Rattle.xl_array.proofs.TagLemmas.{leaf_tagged}
use Rattle.xl_model.specs.declared.address.Order.TheVariants as order

whole_block : (first : ℕ) (o : Order) → first % pages_of o ≡ 0 → first / pages_of o * pages_of o ≡ first
whole_block first order.K4 e = omega arith
whole_block first order.M2 e = omega arith
whole_block first order.G1 e = omega arith

-- a leaf comes back from its space, its first page, its order and its word
pub word_back : (leaf : Leaf) → leaf.first % pages_of leaf.order ≡ 0 → leaf_with leaf.space leaf.first leaf.order (leaf.frame * 16 + perm_code leaf.perm) ≡ leaf
word_back leaf aligned = rw (whole_block leaf.first leaf.order aligned, perm-back leaf.frame leaf.perm, frame-back leaf.frame leaf.perm) refl

pub filled : (spec : TlbSpec) (sets new : List (List Item)) (leaf : Leaf) (item : Item) → leaf_of item ≡ leaf → takes_order spec leaf.order ≡ true
    → new ≡ set sets (set_number spec leaf.order leaf.first) (with_newest spec.width item (get_or sets (set_number spec leaf.order leaf.first) []))
    → array_of spec new ≡ array_filled leaf (array_of spec sets)
unfolding array_filled
filled spec sets new leaf item back takes e =
    rw takes
    (ap (λ (z : List (List Leaf)). let a : TlbArray = record { spec = spec; sets = z } in a)
    (ap (λ (z : List (List Item)). map leaves_of z) e
    ∙ view_set (with_newest spec.width item) (with_newest spec.width leaf)
    (λ xs. ap (λ (l : Leaf). with_newest spec.width l (leaves_of xs)) (sym back) ∙ newest-map leaf_of spec.width item xs)
    sets (set_number spec leaf.order leaf.first)))

-- a leaf that was hit, in its item
pub hit_back : (space page word : ℕ) (o : Order) → space < 64 → (i : Item) → i.tag ≡ tag_of space page o → i.word ≡ word → leaf_of i ≡ leaf_with space page o word
hit_back space page word o small i t w = leaf_tagged i space page o small t ∙ ap (λ (n : ℕ). leaf_with space page o n) w

pub hit_set : (spec : TlbSpec) (page : ℕ) (o : Order) → set_number spec o page ≡ set_number spec o (page / pages_of o * pages_of o)
hit_set spec page order.K4 = ap (λ (n : ℕ). n % spec.sets) (omega arith)
hit_set spec page order.M2 = ap (λ (n : ℕ). n % spec.sets) (omega arith)
hit_set spec page order.G1 = ap (λ (n : ℕ). n % spec.sets) (omega arith)

pub not_filled : (a : TlbArray) (leaf : Leaf) → takes_order a.spec leaf.order ≡ false → a ≡ array_filled leaf a
unfolding array_filled
not_filled a leaf takes = rw takes refl

empty : (n k : ℕ) (p : Leaf → Bool) → list_all p (get_or (replicate n []) k []) ≡ true
empty zero zero p = refl
empty zero (suc k) p = refl
empty (suc n) zero p = refl
empty (suc n) (suc k) p = empty n k p

no_leaves : (n : ℕ) → map leaves_of (replicate n []) ≡ replicate n []
no_leaves zero = refl
no_leaves (suc n) = ap (λ (z : List (List Leaf)). [] ∷ z) (no_leaves n)

size : (n : ℕ) (A : Type 0) → length (replicate {A = List A} n []) ≡ n
size zero A = refl
size (suc n) A = rw (size n A) refl

pub opened : (spec : TlbSpec) (sets : List (List Item)) → sets ≡ replicate spec.sets [] → array_of spec sets ≡ opening_array spec
opened spec sets e = ap (λ (z : List (List Leaf)). let a : TlbArray = record { spec = spec; sets = z } in a) (ap (λ (z : List (List Item)). map leaves_of z) e ∙ no_leaves spec.sets)

pub opened_kept : (spec : TlbSpec) (sets : List (List Item)) (width : ℕ) → 0 < spec.sets → spec.width ≡ width → 0 < width → width ≤ 64 → sets ≡ replicate spec.sets [] → IsArray spec (map leaves_of sets) width
opened_kept spec sets width some same ways most e =
    let t : map leaves_of sets ≡ replicate spec.sets [] = ap (λ (z : List (List Item)). map leaves_of z) e ∙ no_leaves spec.sets in
    rw t (record { some = some; count = size spec.sets Leaf; same_width = same; some_ways = ways; most = most; placed = λ k. empty spec.sets k (is_in_set spec k) })

pub fill_kept : (spec : TlbSpec) (sets new : List (List Item)) (width : ℕ) (leaf : Leaf) (item : Item) → leaf_of item ≡ leaf → IsArray spec (map leaves_of sets) width
    → new ≡ set sets (set_number spec leaf.order leaf.first) (with_newest spec.width item (get_or sets (set_number spec leaf.order leaf.first) []))
    → IsArray spec (map leaves_of new) width
fill_kept spec sets new width leaf item back kept e =
    let v : map leaves_of new ≡ set (map leaves_of sets) (set_number spec leaf.order leaf.first) (with_newest spec.width leaf (get_or (map leaves_of sets) (set_number spec leaf.order leaf.first) [])) =
    ap (λ (z : List (List Item)). map leaves_of z) e
    ∙ view_set (with_newest spec.width item) (with_newest spec.width leaf)
    (λ xs. ap (λ (l : Leaf). with_newest spec.width l (leaves_of xs)) (sym back) ∙ newest-map leaf_of spec.width item xs)
    sets (set_number spec leaf.order leaf.first) in
    rw v (kept_filled spec (map leaves_of sets) width leaf kept)
