-- What the table's questions answer.
use Rattle.xl_radix.proofs.Common.{◌%◌, ◌*◌, ◌+◌, ◌-◌, ◌<◌, ◌==◌, ◌^◌, ◌∙◌, ◌≡◌, ◌≢◌, ◌≤◌, ◌⊎◌, aligned-frame, any-false, arith, Bool, decode_of, false, free_count, has_room, In, inl, inr, Insert, IsBlock, IsEnd, IsLeafFor, IsNew, IsStore, Leaf, leaf_at_page, leaf_in, leaf_nodes_missing, leaf_said, level_of, List, meets_any, meets_block, missing, nat_le, nat_tests, Node, None, not, number_of, Option, Order, order_of, pages-some, pages_of, Pte, Radix, refl, shape_of, slice_index, Some, sym, Table, true, up, ℕ}
use Rattle.xl_radix.proofs.EndLemmas.{a-leaf-meets, found-at, found-none, IsTable, no-leaf-meets}
use Rattle.xl_radix.proofs.MeetLemmas.{meets, Met}
use Rattle.xl_radix.proofs.ReadBackLemmas.{said-is}
use Rattle.xl_radix.proofs.SlotLemmas.{pointer-low}
use Rattle.xl_radix.proofs.StepLemmas.{read-says, read-word}
use Rattle.xl_radix.proofs.UpLemmas.{page-low, up-top}
use Rattle.xl_model.specs.declared.address.Order.TheVariants as order

-- Where the walk of a page stops, the slot has the page's leaf, or the page has none.
pub at-page : (top spaces s page l n : ℕ) (leaves : List Leaf) (nodes : List (Option Node)) (words used : List ℕ) → IsTable top spaces leaves nodes words used → IsEnd top s page 0 l n nodes → leaf_in s l (up l page) leaves ≡ leaf_at_page s page leaves
at-page top spaces s page l n leaves nodes words used t end =
    elim (leaf_in s l (up l page) leaves) as (λ o. leaf_in s l (up l page) leaves ≡ o → o ≡ leaf_at_page s page leaves) [
      | Some x ↦ λ e. sym (found-at top spaces s page l leaves x t.store.mapping e)
      | None ↦ λ e. sym (found-none top spaces s page l n leaves nodes words used t end.level_in end.at e (absent end.ends))
    ] refl
  where
    absent : (l ≡ 0) ⊎ (number_of s l (up l page) nodes ≡ None) → number_of s l (up l page) nodes ≡ None
    absent (inr e) = e
    absent (inl e) = elim (number_of s l (up l page) nodes) as (λ o. number_of s l (up l page) nodes ≡ o → o ≡ None) [
      | Some k ↦ λ f. let low = pointer-low s l (up l page) k nodes f in absurd (omega (arith, e, low))
      | None ↦ λ f. refl
    ] refl

pub look-is : (top spaces s page l n i w b : ℕ) (r : Option Leaf) (pte : Pte) (leaves : List Leaf) (nodes : List (Option Node)) (words used : List ℕ) → IsTable top spaces leaves nodes words used → IsEnd top s page 0 l n nodes → i ≡ up l page % 512 → w ≡ slice_index words (n * 512 + i) → b ≡ up l page → pte ≡ decode_of w l → r ≡ leaf_said s b (order_of l) pte → r ≡ leaf_at_page s page leaves
look-is top spaces s page l n i w b r pte leaves nodes words used t end ei ew eb ep er =
    let says = read-says top spaces s page l n i w leaves nodes words used t.store end.at end.level_in ei ew in
    let said = said-is top spaces s l (up l page) leaves nodes (decode_of w l) t.store.mapping says in
    er ∙ rw (eb, ep) (said ∙ at-page top spaces s page l n leaves nodes words used t end)

aligned-up : (o : Order) (first e : ℕ) → first ≡ e * pages_of o → up (level_of o) first * pages_of o ≡ first
aligned-up order.K4 first e h = omega arith
aligned-up order.M2 first e h = omega arith
aligned-up order.G1 first e h = omega arith

pub block-aligned : (top spaces s first : ℕ) (o : Order) (nodes : List (Option Node)) → IsBlock (Radix top spaces nodes) s first o → up (level_of o) first * pages_of o ≡ first
block-aligned top spaces s first o nodes b = aligned-up o first b.aligned.0 b.aligned.1

pub block-first : (top spaces s first : ℕ) (o : Order) (nodes : List (Option Node)) → IsBlock (Radix top spaces nodes) s first o → first < 2 ^ (9 * top)
block-first top spaces s first o nodes b =
    let h : first + pages_of o ≤ 2 ^ (9 * top) = b.pages_in in
    let g = pages-some o in
    less first (pages_of o) (2 ^ (9 * top)) h g
  where
    less : (a b c : ℕ) → a + b ≤ c → 0 < b → a < c
    less a b c h g = omega arith

pub met-word : (top spaces s first l n i w : ℕ) (o : Order) (leaves : List Leaf) (nodes : List (Option Node)) (words used : List ℕ) → IsTable top spaces leaves nodes words used → IsBlock (Radix top spaces nodes) s first o → IsEnd top s first (level_of o) l n nodes → i ≡ up l first % 512 → w ≡ slice_index words (n * 512 + i) → not (w == 0) ≡ meets_any s first o leaves
met-word top spaces s first l n i w o leaves nodes words used t block end ei ew =
    let aligned = block-aligned top spaces s first o nodes block in
    let word = read-word top spaces s first l n i w leaves nodes words used t.store end.at ei ew in
    elim (w == 0) as (λ b. (w == 0) ≡ b → not b ≡ meets_any s first o leaves) [
      | true ↦ λ e. let z : w ≡ 0 = grind (arith, nat_tests) in sym (no-leaf-meets top spaces s first n l o leaves nodes words used t aligned end (sym word ∙ z))
      | false ↦ λ e. let z : w ≢ 0 = grind (arith, nat_tests) in sym (a-leaf-meets top spaces s first n l o leaves nodes words used t aligned end (λ f. z (word ∙ f)))
    ] refl

pub is-new : (top spaces : ℕ) (x : Leaf) (leaves : List Leaf) (nodes : List (Option Node)) (words used : List ℕ) → IsStore top spaces leaves nodes words used → IsLeafFor (Radix top spaces nodes) x → meets_any x.space x.first x.order leaves ≡ false → IsNew top spaces x leaves
unfolding meets_any
is-new top spaces x leaves nodes words used store valid free =
    let aligned = block-aligned top spaces x.space x.first x.order nodes valid.block in
    let first = block-first top spaces x.space x.first x.order nodes valid.block in
    record {
      proper = record {
        space_in = valid.block.space_in;
        aligned = aligned;
        first_in = up-top top x.first store.low first;
        key_in = (let low : x.first < 2 ^ 45 = page-low top x.first store.low first in omega arith);
        frame_in = let h : x.frame + pages_of x.order ≤ 2 ^ 44 = valid.frames_in in let g = pages-some x.order in omega (arith, h, g);
        frame_aligned = aligned-frame x.order x.frame valid.frames_aligned.0 valid.frames_aligned.1;
      };
      over = λ y i s h e. never y i aligned (record { space_is = s; overlap = inl (h, e) });
      under = λ y i s h e. never y i aligned (record { space_is = s; overlap = inr (h, e) });
    }
  where
    never : (y : Leaf) → In y leaves → up (level_of x.order) x.first * pages_of x.order ≡ x.first → Met x.space x.first (level_of x.order) y → ⊥
    never y i aligned m =
        let t = meets x.space x.first x.order y (store.mapping.proper y i).aligned aligned m in
        let f = any-false (meets_block x.space x.first x.order) y leaves free i in cc

pub room-is : (levels k : ℕ) (x : Leaf) (t : Table) (b : Bool) → missing x.space x.first (level_of x.order) (levels - 1 - level_of x.order) t.nodes ≡ k → nat_le k (free_count t.nodes) ≡ b → has_room (Insert x) t.leaves (shape_of levels t) ≡ b
unfolding has_room leaf_nodes_missing
room-is levels k x t b e f = rw e f
