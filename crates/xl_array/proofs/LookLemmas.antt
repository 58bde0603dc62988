-- A look at one set of items, as one at the leaves that they keep.
use Rattle.xl_array.proofs.Common.{◌<◌, ◌∙◌, ◌∷◌, ◌≡◌, [], ap, arith, Bool, false, find, get_or, List, map, None, refl, set, Some, sym, true, ℕ}
unfoldable use Rattle.xl_model.specs.Tlb.{array_touched}
use Rattle.xl_model.specs.Tlb.{covers_as, found_as, set_number, takes_order, TlbArray}
use Rattle.std.proofs.Math.ListN.{get_or-map}
use Rattle.xl_array.specs.Coding.{leaves_of}
use Rattle.xl_recency.specs.Marks.{has_tag}
use Rattle.xl_array.specs.Arrays.{IsArray}
use Rattle.xl_recency.specs.declared.item.Item.{Item}
use Rattle.xl_model.specs.declared.leaf.Leaf.{Leaf}
unfoldable use Rattle.xl_array.specs.Coding.{leaf_of, tag_of}
use Rattle.xl_model.specs.LeafWords.{leaf_with}
use Rattle.std.proofs.lemmas.Bool.Decides.{nat_tests}
use Rattle.xl_model.specs.declared.address.Order.{Order}
use Rattle.std.proofs.lemmas.List.{set-get_or}
use Rattle.xl_model.specs.declared.row.TlbSpec.{TlbSpec}
use Rattle.xl_model.specs.Recency.{touched}
use Rattle.xl_list_lemmas.proofs.RecencyLemmas.{find-none, find-some, touched-map, touched-none}
use Rattle.xl_array.proofs.SetLemmas.{kept_touched, view_set}
use Rattle.xl_array.proofs.TagLemmas.{leaf_tagged, same_tag}

abbrev pub array_of : TlbSpec → List (List Item) → TlbArray
array_of spec sets = record { spec = spec; sets = map leaves_of sets }

meets : (q : Item → Bool) (xs : List Item) (x : Item) → find q xs ≡ Some x → q x ≡ true
meets q [] x e = cc
meets q (y ∷ xs) x e = go (q y) refl (λ h. meets q xs x h)
  where
    go : (b : Bool) → q y ≡ b → (find q xs ≡ Some x → q x ≡ true) → q x ≡ true
    go true t more = let v : Some y ≡ Some x = rw t at e in let w : y ≡ x = cc in ap q (sym w) ∙ t
    go false t more = more (rw t at e)

module _ (spec : TlbSpec) (sets : List (List Item)) (space page : ℕ) (o : Order) (small : space < 64) where
  same : (x : Item) → has_tag (tag_of space page o) x ≡ covers_as space page o (leaf_of x)
  same x = same_tag x space page o small

  pub look_found : (x : Item) → takes_order spec o ≡ true → Some x ≡ find (has_tag (tag_of space page o)) (get_or sets (set_number spec o page) [])
      → Some (leaf_with space page o x.word) ≡ found_as (array_of spec sets) space page o
  look_found x takes e =
      let t : x.tag ≡ tag_of space page o = let m = meets (has_tag (tag_of space page o)) (get_or sets (set_number spec o page) []) x (sym e) in grind (arith, nat_tests) in
      rw (takes, get_or-map leaves_of sets (set_number spec o page) [])
      (ap (λ (l : Leaf). Some l) (sym (leaf_tagged x space page o small t))
      ∙ sym (find-some leaf_of (covers_as space page o) (has_tag (tag_of space page o)) same (get_or sets (set_number spec o page) []) x (sym e)))

  pub look_none : takes_order spec o ≡ true → None ≡ find (has_tag (tag_of space page o)) (get_or sets (set_number spec o page) [])
      → None ≡ found_as (array_of spec sets) space page o
  look_none takes e =
      rw (takes, get_or-map leaves_of sets (set_number spec o page) [])
      (sym (find-none leaf_of (covers_as space page o) (has_tag (tag_of space page o)) same (get_or sets (set_number spec o page) []) (sym e)))

  pub look_moved : (new : List (List Item)) (word : ℕ)
      → new ≡ set sets (set_number spec o page) (touched (has_tag (tag_of space page o)) (get_or sets (set_number spec o page) []))
      → array_of spec new ≡ array_touched space page (leaf_with space page o word) (array_of spec sets)
  unfolding array_touched
  look_moved new word e =
      ap (λ (z : List (List Leaf)). let a : TlbArray = record { spec = spec; sets = z } in a)
      (ap (λ (z : List (List Item)). map leaves_of z) e
      ∙ view_set (touched (has_tag (tag_of space page o))) (touched (covers_as space page o)) (λ xs. touched-map leaf_of (covers_as space page o) (has_tag (tag_of space page o)) same xs) sets (set_number spec o page))

  pub look_stays : (new : List (List Item)) → None ≡ find (has_tag (tag_of space page o)) (get_or sets (set_number spec o page) [])
      → new ≡ set sets (set_number spec o page) (touched (has_tag (tag_of space page o)) (get_or sets (set_number spec o page) []))
      → new ≡ sets
  look_stays new n e =
      e ∙ ap (λ (z : List Item). set sets (set_number spec o page) z) (touched-none (has_tag (tag_of space page o)) (get_or sets (set_number spec o page) []) (sym n))
      ∙ set-get_or sets (set_number spec o page) []

pub touch_kept : (spec : TlbSpec) (sets new : List (List Item)) (width k : ℕ) (space page : ℕ) (o : Order) → space < 64 → IsArray spec (map leaves_of sets) width → k < spec.sets
    → new ≡ set sets k (touched (has_tag (tag_of space page o)) (get_or sets k [])) → IsArray spec (map leaves_of new) width
touch_kept spec sets new width k space page o small kept within e =
    let v : map leaves_of new ≡ set (map leaves_of sets) k (touched (covers_as space page o) (get_or (map leaves_of sets) k [])) =
    ap (λ (z : List (List Item)). map leaves_of z) e
    ∙ view_set (touched (has_tag (tag_of space page o))) (touched (covers_as space page o)) (λ xs. touched-map leaf_of (covers_as space page o) (has_tag (tag_of space page o)) (λ x. same_tag x space page o small) xs) sets k in
    rw v (kept_touched spec (map leaves_of sets) width k (covers_as space page o) kept within)

pub same_array : (spec : TlbSpec) (sets new : List (List Item)) → new ≡ sets → array_of spec new ≡ array_of spec sets
same_array spec sets new e = ap (λ (z : List (List Item)). array_of spec z) e
