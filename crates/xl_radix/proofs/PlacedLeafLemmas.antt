-- A leaf is put into its slot.
use Rattle.xl_radix.proofs.Common.{◌%◌, ◌*◌, ◌+◌, ◌<◌, ◌^◌, ◌∙◌, ◌≡◌, ◌≢◌, ◌≤◌, ◌⊎◌, ap, arith, cases_lt, false, In, In-with, in_nodes, inl, inr, is_below, is_slot, IsAtNode, IsExact, IsImage, IsNearly, IsNew, IsRadixLeaf, IsRadixMapping, IsReady, Leaf, leaf_in, leaf_key, leaf_word, length, length-set, level_of, List, Node, None, number_of, Option, refl, slice_index, slice_index_or, slice_set, Some, sorted-with, stays-with, subst, suc, sym, true, up, with-In, with_leaf, word_at, word_of, zero, ℕ}
use Rattle.xl_radix.proofs.CaseLemmas.{split-less}
use Rattle.xl_radix.proofs.ListLemmas.{find-with, find-with-other}
use Rattle.xl_radix.proofs.MadeNodeLemmas.{IsSame, stored-same}
use Rattle.xl_radix.proofs.SlotLemmas.{At, at-slot, in-nodes, in-nodes-leaf, leaf-in-none, number-some, number-there, slot-at, Under}

pub no-key : (top spaces : ℕ) (x : Leaf) (leaves : List Leaf) → IsRadixMapping top spaces leaves → IsNew top spaces x leaves → (y : Leaf) → In y leaves → leaf_key x ≡ leaf_key y → ⊥
no-key top spaces x leaves m new y i e =
    let a : x.first < 2 ^ 52 = new.proper.key_in in
    let b : y.first < 2 ^ 52 = (m.proper y i).key_in in
    let s : y.space ≡ x.space = omega (arith, a, b, e) in
    let f : y.first ≡ x.first = omega (arith, a, b, e) in
    elim (cases_lt (level_of x.order) (level_of y.order)) [
      | inl lt ↦ new.under y i s (omega arith) (ap (up (level_of y.order)) f)
      | inr ge ↦ new.over y i s ge (ap (up (level_of x.order)) f)
    ]

pub placed-leaf-same : (top spaces s l q : ℕ) (x : Leaf) (n : ℕ) (leaves : List Leaf) (nodes : List (Option Node)) → IsReady x.space x.first (level_of x.order) n leaves nodes → At s l q x → leaf_in s l q (with_leaf x leaves) ≡ Some x
unfolding leaf_in
placed-leaf-same top spaces s l q x n leaves nodes hole at =
    find-with (is_slot s l q) x leaves (at-slot s l q x at) (λ y i t. leaf-in-none x.space (level_of x.order) (up (level_of x.order) x.first) leaves y hole.empty i (there y (slot-at s l q y t)))
  where
    there : (y : Leaf) → At s l q y → At x.space (level_of x.order) (up (level_of x.order) x.first) y
    there y a = record {
      space_is = a.space_is ∙ sym at.space_is;
      level_is = a.level_is ∙ sym at.level_is;
      block_is = let e = at.level_is in rw e (a.block_is ∙ sym at.block_is);
    }

pub placed-leaf-other : (top spaces s l q : ℕ) (x : Leaf) (leaves : List Leaf) → IsRadixMapping top spaces leaves → IsNew top spaces x leaves → is_slot s l q x ≡ false → leaf_in s l q (with_leaf x leaves) ≡ leaf_in s l q leaves
unfolding leaf_in
placed-leaf-other top spaces s l q x leaves m new f = find-with-other (is_slot s l q) x leaves f (no-key top spaces x leaves m new)

placed-word : (s l q : ℕ) (x : Leaf) (leaves : List Leaf) (nodes : List (Option Node)) → leaf_in s l q leaves ≡ Some x → word_at leaves nodes s l q ≡ leaf_word x.frame x.perm
unfolding word_at
placed-word s l q x leaves nodes e = rw e refl

pub same-word : (s l q : ℕ) (new leaves : List Leaf) (nodes : List (Option Node)) → leaf_in s l q new ≡ leaf_in s l q leaves → word_at new nodes s l q ≡ word_at leaves nodes s l q
unfolding word_at
same-word s l q new leaves nodes e = rw e refl

-- Above a node that is at a page, the page's nodes are there.
pub above : (top s page l n b : ℕ) (leaves : List Leaf) (nodes : List (Option Node)) (words : List ℕ) → IsImage top leaves nodes words → IsAtNode s page l n nodes → l < b → b ≤ top → number_of s b (up b page) nodes ≡ None → ⊥
above top s page l n zero leaves nodes words image at h g e = omega arith
above top s page l n (suc b) leaves nodes words image at h g e =
    next (split-less l b h) (λ k. above top s page l n b leaves nodes words image at k (omega arith))
  where
    up-from : (number_of s b (up b page) nodes ≡ None → ⊥) → ⊥
    up-from there = elim (number_of s b (up b page) nodes) as (λ o. number_of s b (up b page) nodes ≡ o → ⊥) [
      | None ↦ λ f. there f
      | Some m ↦ λ f. elim (image.closed s b (up b page) m (number-some s b (up b page) m nodes f).1) [
        | inl t ↦ omega (arith, t)
        | inr t ↦ t.0 e
      ]
    ] refl

    next : (l ≡ b) ⊎ (l < b) → (l < b → number_of s b (up b page) nodes ≡ None → ⊥) → ⊥
    next (inl f) there = number-there s (suc b) (up (suc b) page) n nodes (subst (λ (v : ℕ). is_below s (suc v) (up (suc v) page) (slice_index_or nodes n None) ≡ true) f at.at_node) e
    next (inr f) there = up-from (there f)

abbrev pub placed_words : Leaf → ℕ → List ℕ → List ℕ
placed_words x n words = slice_set words (n * 512 + up (level_of x.order) x.first % 512) (leaf_word x.frame x.perm)

-- a leaf stands at its own slot, and at no other
pub own-at : (x : Leaf) → At x.space (level_of x.order) (up (level_of x.order) x.first) x
own-at x = record { space_is = refl; level_is = refl; block_is = refl }

pub not-slot : (x : Leaf) (a b c : ℕ) → (IsSame x.space (level_of x.order) (up (level_of x.order) x.first) a b c → ⊥) → is_slot a b c x ≡ false
not-slot x a b c other = elim (is_slot a b c x) as (λ t. is_slot a b c x ≡ t → t ≡ false) [
  | true ↦ λ e. let i = slot-at a b c x e in absurd (other (sym i.space_is, sym i.level_is, subst (λ (v : ℕ). c ≡ up v x.first) (sym i.level_is) (sym i.block_is)))
  | false ↦ λ e. refl
] refl

pub placed-same : (top spaces : ℕ) (x : Leaf) (n m i : ℕ) (leaves : List Leaf) (nodes : List (Option Node)) (words : List ℕ) → IsRadixMapping top spaces leaves → IsImage top leaves nodes words → IsNew top spaces x leaves → IsReady x.space x.first (level_of x.order) n leaves nodes → m < length nodes → i < 512 →
    slice_index (placed_words x n words) (m * 512 + i) ≡ word_of (with_leaf x leaves) nodes (slice_index_or nodes m None) i
placed-same top spaces x n m i leaves nodes words mapping image new hole h g =
    stored-same top x.space x.first (level_of x.order) n (leaf_word x.frame x.perm) m i leaves (with_leaf x leaves) nodes nodes words image hole.at h g
    (placed-word x.space (level_of x.order) (up (level_of x.order) x.first) x (with_leaf x leaves) nodes (placed-leaf-same top spaces x.space (level_of x.order) (up (level_of x.order) x.first) x n leaves nodes hole (own-at x)))
    (λ a b c other. same-word a b c (with_leaf x leaves) leaves nodes (placed-leaf-other top spaces a b c x leaves mapping new (not-slot x a b c other)))

pub placed : (top spaces : ℕ) (x : Leaf) (n : ℕ) (leaves : List Leaf) (nodes : List (Option Node)) (words : List ℕ) → 3 ≤ top → IsRadixMapping top spaces leaves → IsImage top leaves nodes words → IsNew top spaces x leaves → IsReady x.space x.first (level_of x.order) n leaves nodes → IsImage top (with_leaf x leaves) nodes (placed_words x n words)
placed top spaces x n leaves nodes words high mapping image new hole = record {
  size = length-set words (n * 512 + up (level_of x.order) x.first % 512) (leaf_word x.frame x.perm) ∙ image.size;
  same = λ m i h g. placed-same top spaces x n m i leaves nodes words mapping image new hole h g;
  apart = image.apart;
  closed = image.closed;
  full = λ a b c h g. full a b c (in-nodes-leaf a b c (with_leaf x leaves) h) g;
}
  where
    own : (a b c : ℕ) → Under a b c x → b ≤ top → number_of a b c nodes ≡ None → ⊥
    own a b c u g e = above top x.space x.first (level_of x.order) n b leaves nodes words image hole.at u.level_in g (rw (u.space_is, u.block_is) e)

    full : (a b c : ℕ) → (z : Leaf) × In z (with_leaf x leaves) × Under a b c z → b ≤ top → number_of a b c nodes ≡ None → ⊥
    full a b c r g = elim (with-In r.0 x leaves r.1) [
      | inl e ↦ own a b c (subst (λ (v : Leaf). Under a b c v) e r.2) g
      | inr i ↦ image.full a b c (in-nodes a b c leaves r.0 i r.2) g
    ]

pub placed-mapping : (top spaces : ℕ) (x : Leaf) (leaves : List Leaf) → IsRadixMapping top spaces leaves → IsNew top spaces x leaves → IsRadixMapping top spaces (with_leaf x leaves)
placed-mapping top spaces x leaves m new = record {
  proper = λ y i. elim (with-In y x leaves i) [ inl e ↦ subst (λ (v : Leaf). IsRadixLeaf top spaces v) (sym e) new.proper | inr j ↦ m.proper y j ];
  sorted = sorted-with x leaves m.sorted;
  apart = λ y z i j s h e. apart y z (with-In y x leaves i) (with-In z x leaves j) s h e;
}
  where
    first : (z : Leaf) → In z leaves → x.space ≡ z.space → level_of x.order ≤ level_of z.order → up (level_of z.order) x.first ≡ up (level_of z.order) z.first → ⊥
    first z j s h e = new.under z j (sym s) h (sym e)

    last : (y : Leaf) → In y leaves → y.space ≡ x.space → level_of y.order ≤ level_of x.order → up (level_of x.order) y.first ≡ up (level_of x.order) x.first → ⊥
    last y i s h e = new.over y i s h e

    apart : (y z : Leaf) → (y ≡ x) ⊎ In y leaves → (z ≡ x) ⊎ In z leaves → y.space ≡ z.space → level_of y.order ≤ level_of z.order → up (level_of z.order) y.first ≡ up (level_of z.order) z.first → y ≡ z
    apart y z (inl a) (inl b) s h e = a ∙ sym b
    apart y z (inl a) (inr j) s h e = absurd (subst (λ (v : Leaf). v.space ≡ z.space → level_of v.order ≤ level_of z.order → up (level_of z.order) v.first ≡ up (level_of z.order) z.first → ⊥) (sym a) (first z j) s h e)
    apart y z (inr i) (inl b) s h e = absurd (subst (λ (v : Leaf). y.space ≡ v.space → level_of y.order ≤ level_of v.order → up (level_of v.order) y.first ≡ up (level_of v.order) v.first → ⊥) (sym b) (last y i) s h e)
    apart y z (inr i) (inr j) s h e = m.apart y z i j s h e

pub placed-exact : (top spaces : ℕ) (x : Leaf) (leaves : List Leaf) (nodes : List (Option Node)) → IsRadixMapping top spaces leaves → IsNew top spaces x leaves → IsNearly top x.space x.first (level_of x.order) leaves nodes → IsExact top (with_leaf x leaves) nodes
placed-exact top spaces x leaves nodes m new nearly = record {
  needed = λ a b c n h. needed a b c (nearly.nearly a b c n h);
}
  where
    kept : (a b c : ℕ) → (z : Leaf) × In z leaves × Under a b c z → in_nodes a b c (with_leaf x leaves) ≡ true
    kept a b c r = in-nodes a b c (with_leaf x leaves) r.0 (stays-with r.0 x leaves r.1 (λ e. no-key top spaces x leaves m new r.0 r.1 (sym e))) r.2

    needed : (a b c : ℕ) → (b ≡ top) ⊎ ((in_nodes a b c leaves ≡ true) ⊎ ((a ≡ x.space) × (level_of x.order < b) × (c ≡ up b x.first))) → (b ≡ top) ⊎ (in_nodes a b c (with_leaf x leaves) ≡ true)
    needed a b c (inl e) = inl e
    needed a b c (inr (inl e)) = inr (kept a b c (in-nodes-leaf a b c leaves e))
    needed a b c (inr (inr e)) = inr (in-nodes a b c (with_leaf x leaves) x (In-with x leaves) (record { space_is = sym e.0; level_in = e.1; block_is = sym e.2 }))

pub nearly-start : (top s page l : ℕ) (leaves : List Leaf) (nodes : List (Option Node)) → IsExact top leaves nodes → IsNearly top s page l leaves nodes
nearly-start top s page l leaves nodes exact = record {
  nearly = λ a b c n h. elim (exact.needed a b c n h) [ inl e ↦ inl e | inr e ↦ inr (inl e) ];
}
