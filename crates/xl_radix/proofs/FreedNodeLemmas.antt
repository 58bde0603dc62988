-- An empty node is given back.
use Rattle.xl_radix.proofs.Common.{◌%◌, ◌*◌, ◌+◌, ◌-◌, ◌/◌, ◌<◌, ◌==◌, ◌∙◌, ◌≡◌, ◌≢◌, ◌≤◌, ◌⊎◌, ap, arith, entry, false, false≢true, get_or-set_other, get_or-set_same, In, in_nodes, inl, inr, is_below, IsAtNode, IsImage, IsNearly, IsRooted, Leaf, leaf_in, length, length-set, level_of, List, nat_tests, Node, None, number_of, Option, refl, same_Some, slice_index, slice_index_or, slice_set, Some, subst, suc, sym, true, up, word_at, word_of, ℕ}
use Rattle.xl_radix.proofs.CaseLemmas.{split-le}
use Rattle.xl_radix.proofs.EndLemmas.{none-word, word-none}
use Rattle.xl_radix.proofs.MadeNodeLemmas.{at_node-is, new-below, new_node, not-below, places, stored-same}
use Rattle.xl_radix.proofs.SlotLemmas.{At, below-is, in-nodes, in-nodes-leaf, Is, leaf-in-none, leaf-in-some, node-in, number-set-any, number-some, number-there, Under}

-- Node k is below slot (s, l + 1, q), and its words are 0.
pub record IsEmpty (s l q k : ℕ) (nodes : List (Option Node)) (words : List ℕ) : Type 0 where
  pub below : slice_index_or nodes k None ≡ Some (new_node s l q)
  pub zeros : (i : ℕ) → i < 512 → slice_index words (k * 512 + i) ≡ 0

pub node-is : (s l q : ℕ) (node : Node) → Is s (suc l) q node → node ≡ new_node s l q
node-is s l q node is =
    let a = is.space_is in
    let b : node.level ≡ l = let e = is.level_is in omega arith in
    let c = is.prefix_is in
    rw (← a, ← b, ← c) refl

-- No leaf and no node is in an empty node.
pub nothing-in : (top s l q k c : ℕ) (leaves : List Leaf) (nodes : List (Option Node)) (words : List ℕ) → IsImage top leaves nodes words → IsEmpty s l q k nodes words → c / 512 ≡ q → (leaf_in s l c leaves ≡ None) × (number_of s l c nodes ≡ None)
nothing-in top s l q k c leaves nodes words image empty h =
    let inside : k < length nodes = node-in k nodes (new_node s l q) empty.below in
    let same = image.same k (c % 512) inside (omega arith) in
    let zero-word = empty.zeros (c % 512) (omega arith) in
    let word : word_of leaves nodes (Some (new_node s l q)) (c % 512) ≡ 0 = ap (λ (o : Option Node). word_of leaves nodes o (c % 512)) (sym empty.below) ∙ sym same ∙ zero-word in
    let at : q * 512 + c % 512 ≡ c = omega arith in
    word-none s l c leaves nodes (subst (λ (v : ℕ). word_at leaves nodes s l v ≡ 0) at word)

-- So the mapping needs it no more.
pub not-needed : (top s l q k : ℕ) (leaves : List Leaf) (nodes : List (Option Node)) (words : List ℕ) → IsImage top leaves nodes words → IsEmpty s l q k nodes words → suc l ≤ top → in_nodes s (suc l) q leaves ≡ true → ⊥
not-needed top s l q k leaves nodes words image empty low h = leaf (in-nodes-leaf s (suc l) q leaves h)
  where
    leaf : (z : Leaf) × In z leaves × Under s (suc l) q z → ⊥
    leaf r =
        let z = r.0 in
        let u = r.2 in
        let lower : level_of z.order < suc l = u.level_in in
        let none = nothing-in top s l q k (up l z.first) leaves nodes words image empty u.block_is in
        elim (split-le (level_of z.order) l (omega arith)) [
          | inl e ↦ leaf-in-none s l (up l z.first) leaves z none.0 r.1 (record { space_is = u.space_is; level_is = e; block_is = refl })
          | inr lt ↦ image.full s l (up l z.first) (in-nodes s l (up l z.first) leaves z r.1 (record { space_is = u.space_is; level_in = lt; block_is = refl })) (omega arith) none.1
        ]

abbrev pub freed_nodes : ℕ → List (Option Node) → List (Option Node)
freed_nodes k nodes = slice_set nodes k None

pub freed-at : (s l q k n : ℕ) (nodes : List (Option Node)) (words : List ℕ) → IsEmpty s l q k nodes words → ((n ≡ k) × (slice_index_or (freed_nodes k nodes) n None ≡ None)) ⊎ ((n ≢ k) × (slice_index_or (freed_nodes k nodes) n None ≡ slice_index_or nodes n None))
freed-at s l q k n nodes words empty =
    elim (n == k) as (λ t. (n == k) ≡ t → ((n ≡ k) × (slice_index_or (freed_nodes k nodes) n None ≡ None)) ⊎ ((n ≢ k) × (slice_index_or (freed_nodes k nodes) n None ≡ slice_index_or nodes n None))) [
      | true ↦ λ e. let g : n ≡ k = grind (arith, nat_tests) in inl (g, rw g (get_or-set_same nodes k None None (node-in k nodes (new_node s l q) empty.below)))
      | false ↦ λ e. let g : n ≢ k = grind (arith, nat_tests) in inr (g, get_or-set_other nodes k n None None g)
    ] refl

pub freed-number-other : (s l q k a b c : ℕ) (nodes : List (Option Node)) (words : List ℕ) → IsEmpty s l q k nodes words → is_below a b c (Some (new_node s l q)) ≡ false → number_of a b c (freed_nodes k nodes) ≡ number_of a b c nodes
freed-number-other s l q k a b c nodes words empty f = number-set-any a b c k None nodes (ap (is_below a b c) empty.below ∙ f) refl

pub freed-number-same : (top s l q k : ℕ) (leaves : List Leaf) (nodes : List (Option Node)) (words : List ℕ) → IsImage top leaves nodes words → IsEmpty s l q k nodes words → number_of s (suc l) q (freed_nodes k nodes) ≡ None
freed-number-same top s l q k leaves nodes words image empty =
    elim (number_of s (suc l) q (freed_nodes k nodes)) as (λ o. number_of s (suc l) q (freed_nodes k nodes) ≡ o → o ≡ None) [
      | None ↦ λ e. refl
      | Some m ↦ λ e. absurd (there m (number-some s (suc l) q m (freed_nodes k nodes) e).1)
    ] refl
  where
    own : is_below s (suc l) q (slice_index_or nodes k None) ≡ true
    own = rw empty.below (new-below s l q)

    there : (m : ℕ) → is_below s (suc l) q (slice_index_or (freed_nodes k nodes) m None) ≡ true → ⊥
    there m h = elim (freed-at s l q k m nodes words empty) [
      | inl e ↦ let g = rw e.1 at h in cc
      | inr e ↦ e.0 (image.apart s (suc l) q m k (rw e.1 at h) own)
    ]

-- A node other than the one given back keeps its number.
pub freed-keeps : (s l q k a b c : ℕ) (nodes : List (Option Node)) (words : List ℕ) → IsEmpty s l q k nodes words → ((a ≡ s) × (b ≡ suc l) × (c ≡ q) → ⊥) → (number_of a b c nodes ≡ None → ⊥) → number_of a b c (freed_nodes k nodes) ≡ None → ⊥
freed-keeps s l q k a b c nodes words empty not there h = there (sym (freed-number-other s l q k a b c nodes words empty (not-below s l q a b c not)) ∙ h)

freed-word : (s l q k a b c : ℕ) (leaves : List Leaf) (nodes : List (Option Node)) (words : List ℕ) → IsEmpty s l q k nodes words → is_below a b c (Some (new_node s l q)) ≡ false → word_at leaves (freed_nodes k nodes) a b c ≡ word_at leaves nodes a b c
unfolding word_at
freed-word s l q k a b c leaves nodes words empty f = ap (entry (leaf_in a b c leaves)) (freed-number-other s l q k a b c nodes words empty f)

abbrev pub freed_words : ℕ → ℕ → List ℕ → List ℕ
freed_words n index words = slice_set words (n * 512 + index) 0

pub freed-same : (top s page l k n m i : ℕ) (leaves : List Leaf) (nodes : List (Option Node)) (words : List ℕ) → IsImage top leaves nodes words → IsAtNode s page (suc l) n nodes → leaf_in s (suc l) (up (suc l) page) leaves ≡ None → IsEmpty s l (up (suc l) page) k nodes words → m < length nodes → i < 512 →
    slice_index (freed_words n (up (suc l) page % 512) words) (m * 512 + i) ≡ word_of leaves (freed_nodes k nodes) (slice_index_or (freed_nodes k nodes) m None) i
freed-same top s page l k n m i leaves nodes words image at no-leaf empty h g =
    elim (freed-at s l (up (suc l) page) k m nodes words empty) [
      | inl e ↦ rw e.1 (own e.0)
      | inr e ↦ rw e.1 (stored-same top s page (suc l) n 0 m i leaves leaves nodes (freed_nodes k nodes) words image at h g
          (none-word s (suc l) (up (suc l) page) leaves (freed_nodes k nodes) no-leaf (freed-number-same top s l (up (suc l) page) k leaves nodes words image empty))
          (λ a b c other. freed-word s l (up (suc l) page) k a b c leaves nodes words empty (not-below s l (up (suc l) page) a b c other)))
    ]
  where
    there : (node : Node) × (slice_index_or nodes n None ≡ Some node) × Is s (suc (suc l)) (up (suc (suc l)) page) node
    there = at_node-is s page (suc l) n nodes at

    levels : (a b : Node) → a ≡ b → a.level + 1 ≡ suc (suc l) → b.level ≡ l → ⊥
    levels a b e f g = let k : a.level ≡ b.level = ap (λ (v : Node). v.level) e in omega arith

    own : m ≡ k → slice_index (freed_words n (up (suc l) page % 512) words) (m * 512 + i) ≡ 0
    own e = get_or-set_other words (n * 512 + up (suc l) page % 512) (m * 512 + i) 0 0 (λ d. let p = places m n i (up (suc l) page % 512) g (omega arith) d in
        let a : slice_index_or nodes n None ≡ Some (new_node s l (up (suc l) page)) = subst (λ (v : ℕ). slice_index_or nodes v None ≡ Some (new_node s l (up (suc l) page))) (sym e ∙ p.0) empty.below in
        let c : there.0 ≡ new_node s l (up (suc l) page) = same_Some _ _ (sym there.1 ∙ a) in
        levels there.0 (new_node s l (up (suc l) page)) c there.2.level_is refl) ∙ ap (λ (v : ℕ). slice_index words (v * 512 + i)) e ∙ empty.zeros i g

pub freed : (top s page l k n : ℕ) (leaves : List Leaf) (nodes : List (Option Node)) (words : List ℕ) → IsImage top leaves nodes words → suc l < top → IsAtNode s page (suc l) n nodes → leaf_in s (suc l) (up (suc l) page) leaves ≡ None → IsEmpty s l (up (suc l) page) k nodes words → IsImage top leaves (freed_nodes k nodes) (freed_words n (up (suc l) page % 512) words)
freed top s page l k n leaves nodes words image low at no-leaf empty = record {
  size = length-set {A = ℕ} words (n * 512 + up (suc l) page % 512) 0 ∙ image.size ∙ ap (λ (v : ℕ). v * 512) (sym (length-set nodes k None));
  same = λ m i h g. freed-same top s page l k n m i leaves nodes words image at no-leaf empty (let e = length-set nodes k None in omega (arith, e, h)) g;
  apart = λ a b c i j h g. image.apart a b c i j (old a b c i h) (old a b c j g);
  closed = λ a b c m h. closed a b c m (old a b c m h) (image.closed a b c m (old a b c m h));
  full = λ a b c h g. freed-keeps s l (up (suc l) page) k a b c nodes words empty (λ e. not-needed top s l (up (suc l) page) k leaves nodes words image empty (omega arith) (rw (e.0, e.1, e.2) at h)) (image.full a b c h g);
}
  where
    old : (a b c m : ℕ) → is_below a b c (slice_index_or (freed_nodes k nodes) m None) ≡ true → is_below a b c (slice_index_or nodes m None) ≡ true
    old a b c m h = elim (freed-at s l (up (suc l) page) k m nodes words empty) [
      | inl e ↦ let g = rw e.1 at h in absurd (false≢true g)
      | inr e ↦ rw e.1 at h
    ]

    closed : (a b c m : ℕ) → is_below a b c (slice_index_or nodes m None) ≡ true → (b ≡ top) ⊎ ((number_of a (suc b) (c / 512) nodes ≡ None → ⊥) × (b < top)) → (b ≡ top) ⊎ ((number_of a (suc b) (c / 512) (freed_nodes k nodes) ≡ None → ⊥) × (b < top))
    closed a b c m h (inl e) = inl e
    closed a b c m h (inr e) = inr (freed-keeps s l (up (suc l) page) k a (suc b) (c / 512) nodes words empty (child a b c m h) e.0, e.1)
      where
        child : (a b c m : ℕ) → is_below a b c (slice_index_or nodes m None) ≡ true → (a ≡ s) × (suc b ≡ suc l) × (c / 512 ≡ up (suc l) page) → ⊥
        child a b c m h e =
            let b1 : b ≡ l = let f = e.1 in omega arith in
            let none = nothing-in top s l (up (suc l) page) k c leaves nodes words image empty e.2 in
            number-there s l c m nodes (rw (e.0, b1) at h) none.1

pub freed-rooted : (top spaces s l q k : ℕ) (nodes : List (Option Node)) (words : List ℕ) → IsRooted top spaces nodes → suc l < top → IsEmpty s l q k nodes words → IsRooted top spaces (freed_nodes k nodes)
freed-rooted top spaces s l q k nodes words rooted low empty =
    let e = length-set nodes k None in
    record {
      root = λ a h. elim (freed-at s l q k a nodes words empty) [
        | inl f ↦ absurd (other a f.0 (rooted.root a h))
        | inr f ↦ rw f.1 (rooted.root a h)
      ];
      spaces_in = omega (arith, e, rooted.spaces_in);
      small = omega (arith, e, rooted.small);
    }
  where
    other : (a : ℕ) → a ≡ k → is_below a top 0 (slice_index_or nodes a None) ≡ true → ⊥
    other a e h =
        let f : slice_index_or nodes a None ≡ Some (new_node s l q) = subst (λ (v : ℕ). slice_index_or nodes v None ≡ Some (new_node s l q)) (sym e) empty.below in
        let i = below-is a top 0 (new_node s l q) (rw f at h) in
        let g : l + 1 ≡ top = i.level_is in omega arith

-- The nodes of the path above the one given back may be needed no more.
pub freed-nearly : (top s page l k : ℕ) (leaves : List Leaf) (nodes : List (Option Node)) (words : List ℕ) → IsImage top leaves nodes words → IsEmpty s l (up (suc l) page) k nodes words → IsNearly top s page l leaves nodes → IsNearly top s page (suc l) leaves (freed_nodes k nodes)
freed-nearly top s page l k leaves nodes words image empty nearly = record {
  nearly = λ a b c n h. elim (freed-at s l (up (suc l) page) k n nodes words empty) [
    | inl e ↦ let g = rw e.1 at h in absurd (false≢true g)
    | inr e ↦ higher a b c n h (nearly.nearly a b c n (rw e.1 at h))
  ];
}
  where
    gone : (a b c n : ℕ) → is_below a b c (slice_index_or (freed_nodes k nodes) n None) ≡ true → a ≡ s → b ≡ suc l → c ≡ up b page → ⊥
    gone a b c n h e f g =
        let c1 : c ≡ up (suc l) page = g ∙ ap (λ (v : ℕ). up v page) f in
        number-there s (suc l) (up (suc l) page) n (freed_nodes k nodes) (rw (e, f, c1) at h) (freed-number-same top s l (up (suc l) page) k leaves nodes words image empty)

    higher : (a b c n : ℕ) → is_below a b c (slice_index_or (freed_nodes k nodes) n None) ≡ true → (b ≡ top) ⊎ ((in_nodes a b c leaves ≡ true) ⊎ ((a ≡ s) × (l < b) × (c ≡ up b page))) → (b ≡ top) ⊎ ((in_nodes a b c leaves ≡ true) ⊎ ((a ≡ s) × (suc l < b) × (c ≡ up b page)))
    higher a b c n h (inl e) = inl e
    higher a b c n h (inr (inl e)) = inr (inl e)
    higher a b c n h (inr (inr e)) = elim (split-le (suc l) b (let f = e.1 in omega arith)) [
      | inl f ↦ absurd (gone a b c n h e.0 (sym f) e.2)
      | inr f ↦ inr (inr (e.0, f, e.2))
    ]

-- A node with a word that isn't 0 is needed.
pub filled-needed : (top s page l k i : ℕ) (leaves : List Leaf) (nodes : List (Option Node)) (words : List ℕ) → IsImage top leaves nodes words → l < top → IsNearly top s page l leaves nodes → slice_index_or nodes k None ≡ Some (new_node s l (up (suc l) page)) → i < 512 → (slice_index words (k * 512 + i) ≡ 0 → ⊥) → in_nodes s (suc l) (up (suc l) page) leaves ≡ true
filled-needed top s page l k i leaves nodes words image low nearly below h filled =
    elim (leaf_in s l (up (suc l) page * 512 + i) leaves) as (λ o. leaf_in s l (up (suc l) page * 512 + i) leaves ≡ o → in_nodes s (suc l) (up (suc l) page) leaves ≡ true) [
      | Some x ↦ λ e. leaf x (leaf-in-some s l (up (suc l) page * 512 + i) leaves x e)
      | None ↦ λ e. elim (number_of s l (up (suc l) page * 512 + i) nodes) as (λ o. number_of s l (up (suc l) page * 512 + i) nodes ≡ o → in_nodes s (suc l) (up (suc l) page) leaves ≡ true) [
        | Some m ↦ λ f. node (nearly.nearly s l (up (suc l) page * 512 + i) m (number-some s l (up (suc l) page * 512 + i) m nodes f).1)
        | None ↦ λ f. absurd (filled (image.same k i (node-in k nodes (new_node s l (up (suc l) page)) below) h ∙ ap (λ (o : Option Node). word_of leaves nodes o i) below ∙ none-word s l (up (suc l) page * 512 + i) leaves nodes e f))
      ] refl
    ] refl
  where
    leaf : (x : Leaf) → In x leaves × At s l (up (suc l) page * 512 + i) x → in_nodes s (suc l) (up (suc l) page) leaves ≡ true
    leaf x r =
        let b : up l x.first ≡ up (suc l) page * 512 + i = r.1.block_is in
        in-nodes s (suc l) (up (suc l) page) leaves x r.0 (record { space_is = r.1.space_is; level_in = omega (arith, r.1.level_is); block_is = omega arith })

    under : (z : Leaf) × In z leaves × Under s l (up (suc l) page * 512 + i) z → in_nodes s (suc l) (up (suc l) page) leaves ≡ true
    under r =
        let b : up l r.0.first ≡ up (suc l) page * 512 + i = r.2.block_is in
        let lower : level_of r.0.order < l = r.2.level_in in
        in-nodes s (suc l) (up (suc l) page) leaves r.0 r.1 (record { space_is = r.2.space_is; level_in = omega arith; block_is = omega arith })

    node : (l ≡ top) ⊎ ((in_nodes s l (up (suc l) page * 512 + i) leaves ≡ true) ⊎ ((s ≡ s) × (l < l) × (up (suc l) page * 512 + i ≡ up l page))) → in_nodes s (suc l) (up (suc l) page) leaves ≡ true
    node (inl e) = absurd (omega arith)
    node (inr (inl e)) = under (in-nodes-leaf s l (up (suc l) page * 512 + i) leaves e)
    node (inr (inr e)) = let f = e.1 in absurd (omega arith)

pub kept-nearly : (top s page l k : ℕ) (leaves : List Leaf) (nodes : List (Option Node)) → IsNearly top s page l leaves nodes → in_nodes s (suc l) (up (suc l) page) leaves ≡ true → IsNearly top s page (suc l) leaves nodes
kept-nearly top s page l k leaves nodes nearly needed = record {
  nearly = λ a b c n h. higher a b c (nearly.nearly a b c n h);
}
  where
    higher : (a b c : ℕ) → (b ≡ top) ⊎ ((in_nodes a b c leaves ≡ true) ⊎ ((a ≡ s) × (l < b) × (c ≡ up b page))) → (b ≡ top) ⊎ ((in_nodes a b c leaves ≡ true) ⊎ ((a ≡ s) × (suc l < b) × (c ≡ up b page)))
    higher a b c (inl e) = inl e
    higher a b c (inr (inl e)) = inr (inl e)
    higher a b c (inr (inr e)) = elim (split-le (suc l) b (let f = e.1 in omega arith)) [
      | inl f ↦ let c1 : c ≡ up (suc l) page = e.2 ∙ ap (λ (v : ℕ). up v page) (sym f) in inr (inl (rw (e.0, ← f, c1) needed))
      | inr f ↦ inr (inr (e.0, f, e.2))
    ]
