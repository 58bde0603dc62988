-- Steps of the table's functions.
use Rattle.xl_radix.proofs.Common.{◌%◌, ◌*◌, ◌+◌, ◌-◌, ◌<◌, ◌∙◌, ◌≡◌, ◌≢◌, ◌≤◌, ◌⊎◌, ap, arith, decode_of, filled, get_or_default_zero, In, inl, inr, IsAtNode, IsCounted, IsEnd, IsExact, IsNearly, IsNew, IsRadixMapping, IsReady, IsStore, Leaf, leaf_in, leaf_word, length, length-set, level_of, List, Node, None, number_of, Option, pointer_word, Pte, read_back, refl, slice_index, slice_index_or, slice_set, Some, subst, suc, sym, up, with_leaf, word_at, zero, ℕ}
use Rattle.xl_radix.proofs.CountLemmas.{counted-more, filled-le}
use Rattle.xl_radix.proofs.EndLemmas.{none-word, not-both, word-none}
use Rattle.xl_radix.proofs.MadeNodeLemmas.{IsSpot, made, made-at_node, made-empty, made-nearly, made-rooted, made_nodes, made_words, new_node}
use Rattle.xl_radix.proofs.PlacedLeafLemmas.{placed, placed-exact, placed-mapping, placed_words}
use Rattle.xl_radix.proofs.ReadBackLemmas.{reads-back}
use Rattle.xl_radix.proofs.SlotLemmas.{At, at_node-word, below-some, in-nodes-leaf, leaf-in-some, node-in, number-some, pointer-low, Says, says, Under}
use Rattle.xl_pte.specs.declared.word.Pte.TheVariants as pte

-- The word that was read, in the node that is at a page, is that of the slot.
pub read-word : (top spaces s page l n i w : ℕ) (leaves : List Leaf) (nodes : List (Option Node)) (words used : List ℕ) → IsStore top spaces leaves nodes words used → IsAtNode s page l n nodes → i ≡ up l page % 512 → w ≡ slice_index words (n * 512 + i) → w ≡ word_at leaves nodes s l (up l page)
read-word top spaces s page l n i w leaves nodes words used store at e f =
    let r = at_node-word top s page l n leaves nodes words store.image at in
    f ∙ ap (λ (v : ℕ). slice_index words (n * 512 + v)) e ∙ r.1

pub read-says : (top spaces s page l n i w : ℕ) (leaves : List Leaf) (nodes : List (Option Node)) (words used : List ℕ) → IsStore top spaces leaves nodes words used → IsAtNode s page l n nodes → l < top → i ≡ up l page % 512 → w ≡ slice_index words (n * 512 + i) →
    Says (decode_of w l) s l (up l page) leaves nodes
read-says top spaces s page l n i w leaves nodes words used store at low e f =
    let g = read-word top spaces s page l n i w leaves nodes words used store at e f in
    subst (λ (v : ℕ). Says (decode_of v l) s l (up l page) leaves nodes) (sym g) (says top spaces s l (up l page) leaves nodes store.mapping store.rooted.small)

pub next-at_node : (s page l n : ℕ) (leaves : List Leaf) (nodes : List (Option Node)) → Says (pte.Pointer n) s l (up l page) leaves nodes → IsAtNode s page (l - 1) n nodes
next-at_node s page zero n leaves nodes h = let low = pointer-low s zero page n nodes h.1 in absurd (omega arith)
next-at_node s page (suc l) n leaves nodes h =
    let e : suc l - 1 ≡ l = omega arith in
    rw e (record { at_node = (number-some s (suc l) (up (suc l) page) n nodes h.1).1 })

pub stops : (top spaces s l q : ℕ) (w : Pte) (leaves : List Leaf) (nodes : List (Option Node)) → l < top → IsRadixMapping top spaces leaves → IsExact top leaves nodes → Says w s l q leaves nodes → ((n : ℕ) → w ≡ pte.Pointer n → ⊥) → number_of s l q nodes ≡ None
stops top spaces s l q pte.Invalid leaves nodes low m exact h not = h.1
stops top spaces s l q (pte.Pointer n) leaves nodes low m exact h not = absurd (not n refl)
stops top spaces s l q (pte.Leaf frame perm) leaves nodes low m exact h not =
    elim (number_of s l q nodes) as (λ o. number_of s l q nodes ≡ o → o ≡ None) [
      | Some k ↦ λ e. absurd (not-both top spaces s l q k leaves nodes h.0 low m exact h.1 e)
      | None ↦ λ e. refl
    ] refl
stops top spaces s l q pte.Reserved leaves nodes low m exact h not = absurd h
stops top spaces s l q pte.Misaligned leaves nodes low m exact h not = absurd h

pub record MadeStep (top spaces s page j l k : ℕ) (leaves : List Leaf) (nodes new : List (Option Node)) (words used : List ℕ) : Type 0 where
  pub store : IsStore top spaces leaves new words used
  pub back : read_back new words ≡ leaves
  pub ready : IsReady s page l k leaves new
  pub nearly : (i : ℕ) → i < j → IsNearly top s page i leaves nodes → IsNearly top s page i leaves new

pointer-filled : (n : ℕ) → pointer_word n ≢ 0
unfolding pointer_word
pointer-filled n e = omega arith

leaf-filled : (x : Leaf) → leaf_word x.frame x.perm ≢ 0
unfolding leaf_word
leaf-filled x e = omega (arith, e)

pub recounted : (nodes new : List (Option Node)) (words used : List ℕ) → length new ≡ length nodes → IsCounted nodes words used → IsCounted new words used
recounted nodes new words used e c = record { places = c.places ∙ sym e; each = λ n h. c.each n (omega arith) }

pub made-step : (top spaces s page l k n : ℕ) (leaves : List Leaf) (nodes : List (Option Node)) (words used : List ℕ) → IsStore top spaces leaves nodes words used → suc l < top → IsReady s page (suc l) n leaves nodes → k < length nodes → slice_index_or nodes k None ≡ None →
    MadeStep top spaces s page (suc l) l k leaves nodes (made_nodes s l (up (suc l) page) k nodes) (made_words n (up (suc l) page % 512) k words) (slice_set used n (slice_index used n + 1))
made-step top spaces s page l k n leaves nodes words used store low ready within free =
    let spot : IsSpot s l (up (suc l) page) k leaves nodes = record { within = within; free = free; empty = ready.empty; absent = ready.absent } in
    let image = made top s page l k n leaves nodes words store.image low ready.at spot in
    let r = at_node-word top s page (suc l) n leaves nodes words store.image ready.at in
    let empty : slice_index words (n * 512 + up (suc l) page % 512) ≡ 0 = r.1 ∙ none-word s (suc l) (up (suc l) page) leaves nodes ready.empty ready.absent in
    let len : length (made_nodes s l (up (suc l) page) k nodes) ≡ length nodes = length-set nodes k (Some (new_node s l (up (suc l) page))) in
    let small : length (made_nodes s l (up (suc l) page) k nodes) ≤ 16384 = let z = store.rooted.small in omega arith in
    let counted = counted-more 512 n (up (suc l) page % 512) (pointer_word k) nodes words used refl store.counted store.image.size r.0 (omega arith) empty (pointer-filled k) in
    let below : up (suc l) page * 512 + up l page % 512 ≡ up l page = omega arith in
    let zero_word = made-empty top s l (up (suc l) page) k (up l page % 512) leaves nodes words store.image (omega arith) spot (omega arith) in
    let none = word-none s l (up l page) leaves (made_nodes s l (up (suc l) page) k nodes) (subst (λ (v : ℕ). word_at leaves (made_nodes s l (up (suc l) page) k nodes) s l v ≡ 0) below zero_word) in
    record {
      store = record {
        high = store.high;
        low = store.low;
        mapping = store.mapping;
        image = image;
        counted = recounted nodes (made_nodes s l (up (suc l) page) k nodes) _ _ len counted;
        rooted = made-rooted top spaces s l (up (suc l) page) k leaves nodes store.rooted spot;
      };
      back = reads-back top spaces leaves (made_nodes s l (up (suc l) page) k nodes) (made_words n (up (suc l) page % 512) k words) store.high store.mapping image small;
      ready = record { at = made-at_node s page l k leaves nodes spot; empty = none.0; absent = none.1 };
      nearly = λ i h g. made-nearly top s page i l k leaves nodes g (omega arith) spot;
    }

-- The same, with what the code has for names, at a level that isn't 0.
pub made-step-at : (top spaces s page j k n i w u : ℕ) (x : Node) (leaves : List Leaf) (nodes : List (Option Node)) (words used : List ℕ) → IsStore top spaces leaves nodes words used → 0 < j → j < top → IsReady s page j n leaves nodes → k < length nodes → slice_index_or nodes k None ≡ None →
    i ≡ up j page % 512 → w ≡ pointer_word k → x ≡ record { space = s; level = j - 1; prefix = up j page } → u ≡ slice_index_or used n u →
    MadeStep top spaces s page j (j - 1) k leaves nodes (slice_set nodes k (Some x)) (slice_set words (n * 512 + i) w) (slice_set used n (u + 1))
made-step-at top spaces s page zero k n i w u x leaves nodes words used store pos low ready within free ei ew ex eu = absurd (omega arith)
made-step-at top spaces s page (suc l) k n i w u x leaves nodes words used store pos low ready within free ei ew ex eu =
    let h : suc l - 1 ≡ l = omega arith in
    let r = at_node-word top s page (suc l) n leaves nodes words store.image ready.at in
    let inside : n < length used = let z = store.counted.places in let y = r.0 in omega arith in
    let f : u ≡ slice_index used n = eu ∙ get_or_default_zero used n u inside in
    rw (ei, ew, ex, f) (rw h (made-step top spaces s page l k n leaves nodes words used store low ready within free))

pub record PutStep (top spaces : ℕ) (x : Leaf) (leaves : List Leaf) (nodes : List (Option Node)) (words used : List ℕ) : Type 0 where
  pub store : IsStore top spaces (with_leaf x leaves) nodes words used
  pub back : read_back nodes words ≡ with_leaf x leaves
  pub exact : IsNearly top x.space x.first (level_of x.order) leaves nodes → IsExact top (with_leaf x leaves) nodes

pub put-step : (top spaces n i w u : ℕ) (x : Leaf) (leaves : List Leaf) (nodes : List (Option Node)) (words used : List ℕ) → IsStore top spaces leaves nodes words used → IsNew top spaces x leaves → IsReady x.space x.first (level_of x.order) n leaves nodes →
    i ≡ up (level_of x.order) x.first % 512 → w ≡ leaf_word x.frame x.perm → u ≡ slice_index_or used n u →
    PutStep top spaces x leaves nodes (slice_set words (n * 512 + i) w) (slice_set used n (u + 1))
put-step top spaces n i w u x leaves nodes words used store new ready ei ew eu =
    let r = at_node-word top x.space x.first (level_of x.order) n leaves nodes words store.image ready.at in
    let inside : n < length used = let z = store.counted.places in let y = r.0 in omega arith in
    let f : u ≡ slice_index used n = eu ∙ get_or_default_zero used n u inside in
    let image = placed top spaces x n leaves nodes words store.high store.mapping store.image new ready in
    let mapping = placed-mapping top spaces x leaves store.mapping new in
    let empty : slice_index words (n * 512 + up (level_of x.order) x.first % 512) ≡ 0 = r.1 ∙ none-word x.space (level_of x.order) (up (level_of x.order) x.first) leaves nodes ready.empty ready.absent in
    let counted = counted-more 512 n (up (level_of x.order) x.first % 512) (leaf_word x.frame x.perm) nodes words used refl store.counted store.image.size r.0 (omega arith) empty (leaf-filled x) in
    rw (ei, ew, f) (record {
      store = record { high = store.high; low = store.low; mapping = mapping; image = image; counted = counted; rooted = store.rooted };
      back = reads-back top spaces (with_leaf x leaves) nodes (placed_words x n words) store.high mapping image store.rooted.small;
      exact = λ nearly. placed-exact top spaces x leaves nodes store.mapping new nearly;
    })

-- Where a walk for a new leaf stops, the slot is empty.
pub end-ready : (top spaces l n : ℕ) (x : Leaf) (leaves : List Leaf) (nodes : List (Option Node)) → IsExact top leaves nodes → IsNew top spaces x leaves → IsEnd top x.space x.first (level_of x.order) l n nodes → IsReady x.space x.first l n leaves nodes
end-ready top spaces l n x leaves nodes exact new end = record {
  at = end.at;
  empty = elim (leaf_in x.space l (up l x.first) leaves) as (λ o. leaf_in x.space l (up l x.first) leaves ≡ o → o ≡ None) [
    | Some y ↦ λ e. absurd (leaf y (leaf-in-some x.space l (up l x.first) leaves y e))
    | None ↦ λ e. refl
  ] refl;
  absent = elim (number_of x.space l (up l x.first) nodes) as (λ o. number_of x.space l (up l x.first) nodes ≡ o → o ≡ None) [
    | Some k ↦ λ e. absurd (node k e end.ends)
    | None ↦ λ e. refl
  ] refl;
}
  where
    leaf : (y : Leaf) → In y leaves × At x.space l (up l x.first) y → ⊥
    leaf y r =
        let h : level_of x.order ≤ level_of y.order = let z = end.least_in in omega (arith, r.1.level_is) in
        new.under y r.0 r.1.space_is h (subst (λ (v : ℕ). up v y.first ≡ up v x.first) (sym r.1.level_is) r.1.block_is)

    under : l ≡ level_of x.order → (z : Leaf) × In z leaves × Under x.space l (up l x.first) z → ⊥
    under e r =
        let h : level_of r.0.order ≤ level_of x.order = omega (arith, e, r.2.level_in) in
        new.over r.0 r.1 r.2.space_is h (subst (λ (v : ℕ). up v r.0.first ≡ up v x.first) e r.2.block_is)

    node : (k : ℕ) → number_of x.space l (up l x.first) nodes ≡ Some k → (l ≡ level_of x.order) ⊎ (number_of x.space l (up l x.first) nodes ≡ None) → ⊥
    node k e (inr f) = cc
    node k e (inl f) = elim (exact.needed x.space l (up l x.first) k (number-some x.space l (up l x.first) k nodes e).1) [
      | inl g ↦ omega (arith, g, end.level_in)
      | inr g ↦ under f (in-nodes-leaf x.space l (up l x.first) leaves g)
    ]

-- A node's count fits.
pub count-fits : (top spaces n u : ℕ) (leaves : List Leaf) (nodes : List (Option Node)) (words used : List ℕ) → IsStore top spaces leaves nodes words used → n < length nodes → u ≡ slice_index_or used n u → u ≤ 512
count-fits top spaces n u leaves nodes words used store h e =
    let inside : n < length used = let z = store.counted.places in omega arith in
    let f : u ≡ slice_index used n = e ∙ get_or_default_zero used n u inside in
    let g = store.counted.each n h in
    bounded 512 (f ∙ g)
  where
    bounded : (size : ℕ) → u ≡ filled words (n * 512) size → u ≤ size
    bounded size e = let k = filled-le words (n * 512) size in omega arith

pub at_node-in : (s page l n : ℕ) (nodes : List (Option Node)) → IsAtNode s page l n nodes → n < length nodes
at_node-in s page l n nodes at = let b = below-some s (suc l) (up (suc l) page) _ at.at_node in node-in n nodes b.0 b.1
