-- The search for the node whose pages hold a key.
use Rattle.xl_treap.proofs.Common.{◌%◌, ◌*◌, ◌+◌, ◌-◌, ◌<◌, ◌^◌, ◌∙◌, ◌≡◌, ◌≤◌, ap, arith, Bin, examined, found, High, IsReached, IsTree, length, link_at, List, Low, pick-no, pick-yes, range_key, ranges, refl, slice_index, Some, suc, sym, Tip, Tree, ℕ}
use Rattle.xl_treap.proofs.UnderLemmas.{IsPlaced, IsTop, placed-tree, tip-of, top-of}

-- a link reached by `loads` nodes: the tree under it decides, with the other nodes to examine
pub record IsLeft (words : List ℕ) (t : Tree) (k loads at : ℕ) : Type 0 where
  pub small : at < 2 ^ 32
  pub under : Tree
  pub placed : IsPlaced words at under
  pub few : loads + length (ranges under) ≤ length (ranges t)
  pub found_is : found t k ≡ found under k
  pub loads_is : examined t k ≡ loads + examined under k

pub left-start : (words : List ℕ) (t : Tree) (k root : ℕ) → root < 2 ^ 32 → IsTree words root t → IsLeft words t k 0 root
left-start words t k root small s =
    let few : 0 + length (ranges t) ≤ length (ranges t) = omega arith in
    let loads : examined t k ≡ 0 + examined t k = omega arith in
    record { small = small; under = t; placed = placed-tree words root t s; few = few; found_is = refl; loads_is = loads }

pub left-end : {words : List ℕ} {t : Tree} {k loads at : ℕ} → IsLeft words t k loads at → at ≡ 0 → IsReached words t k (record { at = 0; loads = loads })
left-end {words = words} {t = t} {k = k} {loads = loads} {at = at} b z =
    let e : b.under ≡ Tip = tip-of words at b.under b.placed z in
    let none : examined b.under k ≡ 0 = ap (λ s. examined s k) e in
    let p = b.loads_is in
    record { at_in = omega arith; range_is = sym (b.found_is ∙ ap (λ s. found s k) e); loads_is = omega arith }

-- the words of a node of an ordered tree
record IsSmall (first pages : ℕ) : Type 0 where
  pub first_in : first < 2 ^ 58
  pub pages_in : pages ≤ 2 ^ 52

-- the distance to a node's first page, which wraps where the key is before it
wrap-near : (k first pages : ℕ) → IsSmall first pages → k < 2 ^ 58 → (k + (2 ^ 64 - first)) % 2 ^ 64 < pages → (first ≤ k) × (k < first + pages)
wrap-near k first pages s key near = let f = s.first_in in let p = s.pages_in in (omega arith, omega arith)

wrap-far : (k first pages : ℕ) → IsSmall first pages → k < 2 ^ 58 → first ≤ k → pages ≤ (k + (2 ^ 64 - first)) % 2 ^ 64 → first + pages ≤ k
wrap-far k first pages s key ge far = let f = s.first_in in omega arith

-- one node of the way
module _ {words : List ℕ} {t : Tree} {k loads at : ℕ} (b : IsLeft words t k loads at) (some : 0 < at) where
  top : IsTop words at b.under
  top = top-of words at b.under b.placed some

  pub left-there : 4 * (at - 1) + 4 ≤ length words
  left-there = top.node.there

  pub left-less : loads < length (ranges t)
  left-less = let f = b.few in let g = top.size_is in omega arith

  small : IsSmall (slice_index words (4 * (at - 1))) (slice_index words (4 * (at - 1) + 1))
  small =
      let f = top.fit in let a = f.some in let c = f.space_in in let d = f.pages_in in let e = top.node.key_is in let g = top.node.pages_is in
      record { first_in = omega arith; pages_in = omega arith }

  -- continues to one of the trees under the node
  left-next : (next : ℕ) (s : Tree) → next < 2 ^ 32 → IsPlaced words next s → length (ranges s) < length (ranges b.under)
      → found (Bin (at - 1) top.range top.low top.high) k ≡ found s k → examined (Bin (at - 1) top.range top.low top.high) k ≡ suc (examined s k) → IsLeft words t k (loads + 1) next
  left-next next s fits placed less found_is loads_is =
      let f = b.few in
      let n : examined b.under k ≡ suc (examined s k) = ap (λ z. examined z k) top.is ∙ loads_is in
      let p = b.loads_is in
      record { small = fits; under = s; placed = placed; few = omega arith; found_is = b.found_is ∙ ap (λ z. found z k) top.is ∙ found_is; loads_is = omega arith }

  pub left-below : k < slice_index words (4 * (at - 1)) → IsLeft words t k (loads + 1) (link_at Low words (at - 1))
  left-below lt =
      let e = top.node.key_is in let z = top.size_is in
      let below : k < range_key top.range = omega arith in
      left-next (link_at Low words (at - 1)) top.low (omega arith) (top.under Low) (omega arith) (pick-yes k (range_key top.range) _ _ below) (pick-yes k (range_key top.range) _ _ below)

  pub left-above : slice_index words (4 * (at - 1) + 3) < 2 ^ 64 → k < 2 ^ 58 → slice_index words (4 * (at - 1)) ≤ k
      → slice_index words (4 * (at - 1) + 1) ≤ (k + (2 ^ 64 - slice_index words (4 * (at - 1)))) % 2 ^ 64 → IsLeft words t k (loads + 1) (link_at High words (at - 1))
  left-above fits key ge far =
      let w = wrap-far k (slice_index words (4 * (at - 1))) (slice_index words (4 * (at - 1) + 1)) small key ge far in
      let e = top.node.key_is in let p = top.node.pages_is in let z = top.size_is in
      let from : range_key top.range ≤ k = omega arith in
      let following : top.range.pages ≤ k - range_key top.range = omega arith in
      left-next (link_at High words (at - 1)) top.high (omega arith) (top.under High) (omega arith)
      (pick-no k (range_key top.range) _ _ from ∙ pick-no (k - range_key top.range) top.range.pages _ _ following)
      (pick-no k (range_key top.range) _ _ from ∙ pick-no (k - range_key top.range) top.range.pages _ _ following)

  pub left-here : k < 2 ^ 58 → (k + (2 ^ 64 - slice_index words (4 * (at - 1)))) % 2 ^ 64 < slice_index words (4 * (at - 1) + 1) → IsReached words t k (record { at = at; loads = loads + 1 })
  left-here key near =
      let w = wrap-near k (slice_index words (4 * (at - 1))) (slice_index words (4 * (at - 1) + 1)) small key near in
      let e = top.node.key_is in let p = top.node.pages_is in let h = top.node.there in
      let from : range_key top.range ≤ k = omega arith in
      let inside : k - range_key top.range < top.range.pages = omega arith in
      let f : found b.under k ≡ Some top.range = ap (λ z. found z k) top.is ∙ pick-no k (range_key top.range) _ _ from ∙ pick-yes (k - range_key top.range) top.range.pages _ _ inside in
      let n : examined b.under k ≡ 1 = ap (λ z. examined z k) top.is ∙ pick-no k (range_key top.range) _ _ from ∙ pick-yes (k - range_key top.range) top.range.pages _ _ inside in
      let q = b.loads_is in
      record { at_in = omega arith; range_is = top.said ∙ sym (b.found_is ∙ f); loads_is = omega arith }
