-- Leaves that are looked for without loads.
use Rattle.xl_cuckoo_walk.proofs.Common.{◌*◌, ◌+◌, ◌/◌, ◌<◌, ◌==◌, ◌^◌, ◌||◌, ◌∙◌, ◌≡◌, ◌≤◌, ap, arith, at-page, Bool, counts_smaller, CuckooWays, either, first_from, found-from, found_from, found_in, from-is, In, is_counted, is_some, IsBlock, IsPage, IsPlaced, IsRow, Large, Leaf, leaf_at_page, leaves_of_ways, List, looked, looked_from, MadeWordsReadBack, meets-is, meets_any, Middle, not, of_order, One, Order, page-found, pages-some, pages_of, refl, row_state, RowParts, sym, tags_in, tally, values_in, ways_in, ℕ}
use Rattle.xl_tagged.specs.Counted.{smaller_word}
use Rattle.xl_cuckoo_walk.proofs.BitLemmas.{part-tied}
use Rattle.xl_cuckoo_walk.proofs.HolderLemmas.{found-said}
use Rattle.xl_cuckoo_walk.proofs.IndexLemmas.{each}
use Rattle.xl_model.specs.declared.address.Order.TheVariants as order

module _ (p : RowParts) (r : IsRow p) where
  placed : (x : Leaf) → In x (leaves_of_ways (ways_in p)) → IsPlaced x
  placed x i = (r.holds.held.fit x i).aligned.placed

  -- smaller leaves by the counts
  pub smaller-is : (o : Order) (key : ℕ) → counts_smaller o key p ≡ not (smaller_word o key (leaves_of_ways (ways_in p)) == 0)
  smaller-is order.K4 key = refl
  smaller-is order.M2 key = ap (λ n. not (n == 0)) (part-tied order.M2 key order.K4 (leaves_of_ways (ways_in p)) p.middle.counts.counts r.holds.held.sorted placed (r.holds.tied Middle).tied)
  smaller-is order.G1 key =
      let a = part-tied order.G1 key order.K4 (leaves_of_ways (ways_in p)) p.large.counts.counts r.holds.held.sorted placed (r.holds.tied Large).tied in
      let b = part-tied order.G1 key order.M2 (leaves_of_ways (ways_in p)) p.large.counts.counts r.holds.held.sorted placed (r.holds.tied Large).tied in
      ap (λ n. not (n == 0) || is_counted order.M2 key p.large.counts.counts) a
      ∙ ap (λ n. not (tally (of_order order.G1 key order.K4) (leaves_of_ways (ways_in p)) == 0) || not (n == 0)) b
      ∙ either (tally (of_order order.G1 key order.K4) (leaves_of_ways (ways_in p))) (tally (of_order order.G1 key order.M2) (leaves_of_ways (ways_in p)))

from-said : (o : Order) (s page : ℕ) (ws : CuckooWays) → s < 64 → page < 2 ^ 45 → looked_from o s page ws ≡ found_from One s page (values_in ws) o
from-said o s page ws a b =
    let said : (λ q. looked q s page ws) ≡ found_in One s page (values_in ws) = λ i q. found-said q s page ws a b i in
    each (λ q. looked_from q s page ws ≡ found_from One s page (values_in ws) q) (ap (first_from order.K4) said) (ap (first_from order.M2) said) (ap (first_from order.G1) said) o

pub block-parts : (p : RowParts) (s first : ℕ) (o : Order) → IsBlock (row_state p).shape s first o → (s < 64) × (first < 2 ^ 45)
unfolding row_state
block-parts p s first o h = let n = pages-some o in let l = h.pages_in in (h.space_in, omega arith)

-- what is found for a page
pub leaf-found : MadeWordsReadBack → (p : RowParts) → IsRow p → (s page : ℕ) → IsPage (row_state p).shape s page
    → looked_from order.K4 s page (ways_in p) ≡ leaf_at_page s page (row_state p).leaves
unfolding row_state
leaf-found back p r s page h = from-said order.K4 s page (ways_in p) h.space_in h.page_in ∙ at-page back One s page (values_in (ways_in p)) (tags_in (ways_in p)) (leaves_of_ways (ways_in p)) h.space_in h.page_in r.holds.held

-- whether a block overlaps a leaf
pub block-met : MadeWordsReadBack → (p : RowParts) → IsRow p → (s first : ℕ) (o : Order) → IsBlock (row_state p).shape s first o
    → (counts_smaller o (s * 2 ^ 45 + first / pages_of o) p || is_some (looked_from o s first (ways_in p))) ≡ meets_any s first o (row_state p).leaves
unfolding row_state
block-met back p r s first o h =
    let leaves : List Leaf = leaves_of_ways (ways_in p) in
    let n : 0 < pages_of o = pages-some o in
    let l : first + pages_of o ≤ 2 ^ 45 = h.pages_in in
    let low : first < 2 ^ 45 = omega arith in
    let any : Bool = not (smaller_word o (s * 2 ^ 45 + first / pages_of o) leaves == 0) in
    ap (λ t. t || is_some (looked_from o s first (ways_in p))) (smaller-is p r o (s * 2 ^ 45 + first / pages_of o))
    ∙ ap (λ q. any || is_some q) (from-said o s first (ways_in p) h.space_in low)
    ∙ ap (λ q. any || is_some q) (found-from back One s first (values_in (ways_in p)) (tags_in (ways_in p)) leaves h.space_in low r.holds.held o)
    ∙ from-is o s first h.aligned.0 leaves h.space_in low h.aligned.1 (λ x i. (r.holds.held.fit x i).aligned)
    ∙ ap (λ q. is_some q || any) (sym (page-found s first leaves))
    ∙ meets-is o s first h.aligned.0 leaves h.space_in low h.aligned.1 (λ x i. (r.holds.held.fit x i).aligned)
