-- A node is made below an empty slot.
use Rattle.xl_radix.proofs.Common.{◌%◌, ◌*◌, ◌+◌, ◌-◌, ◌/◌, ◌<◌, ◌==◌, ◌∙◌, ◌≡◌, ◌≢◌, ◌≤◌, ◌⊎◌, ap, arith, cases_eq, entry, false, get_or-set_other, get_or-set_same, In, in_nodes, inl, inr, is_below, IsAtNode, IsImage, IsNearly, IsRooted, Leaf, leaf_in, length, length-set, level_of, List, nat_tests, Node, None, number_of, Option, pointer_word, refl, same_Some, slice_index, slice_index_or, slice_set, Some, subst, suc, sym, true, up, word_at, word_of, ℕ}
use Rattle.xl_radix.proofs.SlotLemmas.{At, below-is, below-some, in-nodes, Is, is-below, leaf-in-some, number-none, number-only, number-set-other, number-some, number-there}

-- The node below slot (s, l + 1, q).
abbrev pub new_node : ℕ → ℕ → ℕ → Node
new_node s l q = record { space = s; level = l; prefix = q }

pub new-below : (s l q : ℕ) → is_below s (suc l) q (Some (new_node s l q)) ≡ true
new-below s l q = is-below s (suc l) q (new_node s l q) (record { space_is = refl; level_is = omega arith; prefix_is = refl })

-- A slot is the one that is named.
abbrev pub IsSame : ℕ → ℕ → ℕ → ℕ → ℕ → ℕ → Type 0
IsSame s l q a b c = (a ≡ s) × (b ≡ l) × (c ≡ q)

pub which : (s l q a b c : ℕ) → IsSame s l q a b c ⊎ (IsSame s l q a b c → ⊥)
which s l q a b c = elim (cases_eq a s) [
  | inl e ↦ elim (cases_eq b l) [
    | inl f ↦ elim (cases_eq c q) [ inl g ↦ inl (e, f, g) | inr g ↦ inr (λ t. g t.2) ]
    | inr f ↦ inr (λ t. f t.1)
  ]
  | inr e ↦ inr (λ t. e t.0)
]

-- no other slot has the new node below it
pub not-below : (s l q a b c : ℕ) → (IsSame s (suc l) q a b c → ⊥) → is_below a b c (Some (new_node s l q)) ≡ false
not-below s l q a b c other = elim (is_below a b c (Some (new_node s l q))) as (λ t. is_below a b c (Some (new_node s l q)) ≡ t → t ≡ false) [
  | true ↦ λ e. let i = below-is a b c (new_node s l q) e in absurd (other (sym i.space_is, omega (arith, i.level_is), sym i.prefix_is))
  | false ↦ λ e. refl
] refl

pub record IsSpot (s l q k : ℕ) (leaves : List Leaf) (nodes : List (Option Node)) : Type 0 where
  pub within : k < length nodes
  pub free : slice_index_or nodes k None ≡ None
  pub empty : leaf_in s (suc l) q leaves ≡ None
  pub absent : number_of s (suc l) q nodes ≡ None

abbrev pub made_nodes : ℕ → ℕ → ℕ → ℕ → List (Option Node) → List (Option Node)
made_nodes s l q k nodes = slice_set nodes k (Some (new_node s l q))

pub made-at : (s l q k n : ℕ) (leaves : List Leaf) (nodes : List (Option Node)) → IsSpot s l q k leaves nodes → ((n ≡ k) × (slice_index_or (made_nodes s l q k nodes) n None ≡ Some (new_node s l q))) ⊎ ((n ≢ k) × (slice_index_or (made_nodes s l q k nodes) n None ≡ slice_index_or nodes n None))
made-at s l q k n leaves nodes spot =
    elim (n == k) as (λ t. (n == k) ≡ t → ((n ≡ k) × (slice_index_or (made_nodes s l q k nodes) n None ≡ Some (new_node s l q))) ⊎ ((n ≢ k) × (slice_index_or (made_nodes s l q k nodes) n None ≡ slice_index_or nodes n None))) [
      | true ↦ λ e. let g : n ≡ k = grind (arith, nat_tests) in inl (g, rw g (get_or-set_same nodes k (Some (new_node s l q)) None spot.within))
      | false ↦ λ e. let g : n ≢ k = grind (arith, nat_tests) in inr (g, get_or-set_other nodes k n (Some (new_node s l q)) None g)
    ] refl

pub made-number-other : (s l q k a b c : ℕ) (leaves : List Leaf) (nodes : List (Option Node)) → IsSpot s l q k leaves nodes → is_below a b c (Some (new_node s l q)) ≡ false → number_of a b c (made_nodes s l q k nodes) ≡ number_of a b c nodes
made-number-other s l q k a b c leaves nodes spot f = number-set-other a b c k (Some (new_node s l q)) nodes spot.free f

-- the new node is the only one of its name
pub made-number-same : (s l q k : ℕ) (leaves : List Leaf) (nodes : List (Option Node)) → IsSpot s l q k leaves nodes → number_of s (suc l) q (made_nodes s l q k nodes) ≡ Some k
made-number-same s l q k leaves nodes spot =
    number-only s (suc l) q k (made_nodes s l q k nodes) there only
  where
    there : is_below s (suc l) q (slice_index_or (made_nodes s l q k nodes) k None) ≡ true
    there = rw (get_or-set_same nodes k (Some (new_node s l q)) None spot.within) (new-below s l q)

    only : (m : ℕ) → is_below s (suc l) q (slice_index_or (made_nodes s l q k nodes) m None) ≡ true → m ≡ k
    only m h = elim (made-at s l q k m leaves nodes spot) [
      | inl e ↦ e.0
      | inr e ↦ let g = number-none s (suc l) q m nodes spot.absent in absurd (let h2 = rw e.1 at h in cc)
    ]

-- A node that was there stays there.
pub made-keeps : (s l q k a b c : ℕ) (leaves : List Leaf) (nodes : List (Option Node)) → IsSpot s l q k leaves nodes → (number_of a b c nodes ≡ None → ⊥) → number_of a b c (made_nodes s l q k nodes) ≡ None → ⊥
made-keeps s l q k a b c leaves nodes spot there h =
    elim (which s (suc l) q a b c) [
      | inl e ↦ let t = made-number-same s l q k leaves nodes spot in let u : number_of a b c (made_nodes s l q k nodes) ≡ number_of s (suc l) q (made_nodes s l q k nodes) = rw (e.0, e.1, e.2) refl in absurd (cc)
      | inr e ↦ there (sym (made-number-other s l q k a b c leaves nodes spot (not-below s l q a b c e)) ∙ h)
    ]

-- the words of the new node are 0
pub made-empty : (top s l q k i : ℕ) (leaves : List Leaf) (nodes : List (Option Node)) (words : List ℕ) → IsImage top leaves nodes words → suc l ≤ top → IsSpot s l q k leaves nodes → i < 512 → word_at leaves (made_nodes s l q k nodes) s l (q * 512 + i) ≡ 0
unfolding word_at
made-empty top s l q k i leaves nodes words image low spot h =
    rw (no-leaf, no-node) refl
  where
    leaf : (x : Leaf) → In x leaves × At s l (q * 512 + i) x → ⊥
    leaf x r =
        let b : up l x.first ≡ q * 512 + i = r.1.block_is in
        let block : up l x.first / 512 ≡ q = omega arith in
        let lower : level_of x.order < suc l = omega (arith, r.1.level_is) in
        image.full s (suc l) q (in-nodes s (suc l) q leaves x r.0 (record { space_is = r.1.space_is; level_in = lower; block_is = block })) low spot.absent

    no-leaf : leaf_in s l (q * 512 + i) leaves ≡ None
    no-leaf = elim (leaf_in s l (q * 512 + i) leaves) as (λ o. leaf_in s l (q * 512 + i) leaves ≡ o → o ≡ None) [
      | Some x ↦ λ e. absurd (leaf x (leaf-in-some s l (q * 512 + i) leaves x e))
      | None ↦ λ e. refl
    ] refl

    node : (n : ℕ) → is_below s l (q * 512 + i) (slice_index_or nodes n None) ≡ true → ⊥
    node n e =
        let g : (q * 512 + i) / 512 ≡ q = omega arith in
        elim (image.closed s l (q * 512 + i) n e) [
          | inl t ↦ omega (arith, t)
          | inr t ↦ t.0 (rw g spot.absent)
        ]

    another : (l : ℕ) → is_below s l (q * 512 + i) (Some (new_node s l q)) ≡ false
    another l = grind (arith, nat_tests)

    no-node : number_of s l (q * 512 + i) (made_nodes s l q k nodes) ≡ None
    no-node = elim (number_of s l (q * 512 + i) nodes) as (λ o. number_of s l (q * 512 + i) nodes ≡ o → number_of s l (q * 512 + i) (made_nodes s l q k nodes) ≡ None) [
      | Some n ↦ λ e. absurd (node n (number-some s l (q * 512 + i) n nodes e).1)
      | None ↦ λ e. made-number-other s l q k s l (q * 512 + i) leaves nodes spot (another l) ∙ e
    ] refl

-- The word of a slot other than that of the new node stays.
pub made-word : (s l q k a b c : ℕ) (leaves : List Leaf) (nodes : List (Option Node)) → IsSpot s l q k leaves nodes → is_below a b c (Some (new_node s l q)) ≡ false → word_at leaves (made_nodes s l q k nodes) a b c ≡ word_at leaves nodes a b c
unfolding word_at
made-word s l q k a b c leaves nodes spot f = ap (entry (leaf_in a b c leaves)) (made-number-other s l q k a b c leaves nodes spot f)

pub made-pointer : (s l q k : ℕ) (leaves : List Leaf) (nodes : List (Option Node)) → IsSpot s l q k leaves nodes → word_at leaves (made_nodes s l q k nodes) s (suc l) q ≡ pointer_word k
unfolding word_at
made-pointer s l q k leaves nodes spot = rw (spot.empty, made-number-same s l q k leaves nodes spot) refl

abbrev pub made_words : ℕ → ℕ → ℕ → List ℕ → List ℕ
made_words n index k words = slice_set words (n * 512 + index) (pointer_word k)

-- what a node that is at a page is
pub at_node-is : (s page l n : ℕ) (nodes : List (Option Node)) → IsAtNode s page l n nodes → (node : Node) × (slice_index_or nodes n None ≡ Some node) × Is s (suc l) (up (suc l) page) node
at_node-is s page l n nodes at = below-some s (suc l) (up (suc l) page) _ at.at_node

-- a slot's place is its own
pub places : (n m i j : ℕ) → i < 512 → j < 512 → n * 512 + i ≡ m * 512 + j → (n ≡ m) × (i ≡ j)
places n m i j h g e = (omega arith, omega arith)

-- The place of a page's word in the node that is there is no other slot's, and no place of a free
-- number.
pub other-slot : (s page l n m i : ℕ) (nodes : List (Option Node)) (node : Node) → IsAtNode s page l n nodes → i < 512 → slice_index_or nodes m None ≡ Some node → ((node.space ≡ s) × (node.level ≡ l) × (node.prefix * 512 + i ≡ up l page) → ⊥) → m * 512 + i ≢ n * 512 + up l page % 512
other-slot s page l n m i nodes node at g f not d =
    let there = at_node-is s page l n nodes at in
    let p = places m n i (up l page % 512) g (omega arith) d in
    let a : slice_index_or nodes n None ≡ Some node = subst (λ (v : ℕ). slice_index_or nodes v None ≡ Some node) p.0 f in
    let c : there.0 ≡ node = same_Some _ _ (sym there.1 ∙ a) in
    let i1 : node.space ≡ s = sym (ap (λ (v : Node). v.space) c) ∙ there.2.space_is in
    let i2 : node.level + 1 ≡ suc l = sym (ap (λ (v : Node). v.level + 1) c) ∙ there.2.level_is in
    let i3 : node.prefix ≡ up l page / 512 = sym (ap (λ (v : Node). v.prefix) c) ∙ there.2.prefix_is in
    not (i1, omega (arith, i2), omega (arith, i3, p.1))

pub no-slot : (s page l n m i : ℕ) (nodes : List (Option Node)) → IsAtNode s page l n nodes → i < 512 → slice_index_or nodes m None ≡ None → m * 512 + i ≢ n * 512 + up l page % 512
no-slot s page l n m i nodes at g f d =
    let there = at_node-is s page l n nodes at in
    let p = places m n i (up l page % 512) g (omega arith) d in
    let a : slice_index_or nodes n None ≡ None = subst (λ (v : ℕ). slice_index_or nodes v None ≡ None) p.0 f in
    let b = there.1 in cc

-- A word is written at a page's slot, in the node that stands there. Where that slot has this word afterwards, and each
-- other slot has the word that it had, the words say what the slots have.
pub stored-same : (top s page l n value m i : ℕ) (old new : List Leaf) (nodes after : List (Option Node)) (words : List ℕ) → IsImage top old nodes words → IsAtNode s page l n nodes → m < length nodes → i < 512 → word_at new after s l (up l page) ≡ value
    → ((a b c : ℕ) → (IsSame s l (up l page) a b c → ⊥) → word_at new after a b c ≡ word_at old nodes a b c)
    → slice_index (slice_set words (n * 512 + up l page % 512) value) (m * 512 + i) ≡ word_of new after (slice_index_or nodes m None) i
stored-same top s page l n value m i old new nodes after words image at h g own others =
    elim (slice_index_or nodes m None) as (λ o. slice_index_or nodes m None ≡ o → slice_index (slice_set words (n * 512 + up l page % 512) value) (m * 512 + i) ≡ word_of new after o i) [
      | None ↦ λ f. was None f (no-slot s page l n m i nodes at g f)
      | Some node ↦ λ f. elim (which s l (up l page) node.space node.level (node.prefix * 512 + i)) [
        | inl e ↦ here node f e ∙ sym (rw (e.0, e.1, e.2) own)
        | inr e ↦ was (Some node) f (other-slot s page l n m i nodes node at g f e) ∙ sym (others node.space node.level (node.prefix * 512 + i) e)
      ]
    ] refl
  where
    was : (o : Option Node) → slice_index_or nodes m None ≡ o → (m * 512 + i ≢ n * 512 + up l page % 512) → slice_index (slice_set words (n * 512 + up l page % 512) value) (m * 512 + i) ≡ word_of old nodes o i
    was o f d = get_or-set_other words (n * 512 + up l page % 512) (m * 512 + i) value 0 d ∙ image.same m i h g ∙ ap (λ (o : Option Node). word_of old nodes o i) f

    here : (node : Node) → slice_index_or nodes m None ≡ Some node → IsSame s l (up l page) node.space node.level (node.prefix * 512 + i) → slice_index (slice_set words (n * 512 + up l page % 512) value) (m * 512 + i) ≡ value
    here node f e =
        let c : node.prefix * 512 + i ≡ up l page = e.2 in
        let pre : node.prefix ≡ up (suc l) page = omega (arith, c) in
        let idx : i ≡ up l page % 512 = omega (arith, c) in
        let below : is_below s (suc l) (up (suc l) page) (slice_index_or nodes m None) ≡ true = rw f (is-below s (suc l) (up (suc l) page) node (record { space_is = e.0; level_is = omega (arith, e.1); prefix_is = pre })) in
        let same : m ≡ n = image.apart s (suc l) (up (suc l) page) m n below at.at_node in
        let inside : n * 512 + up l page % 512 < length words = omega (arith, image.size, same) in
        rw (same, idx) (get_or-set_same words (n * 512 + up l page % 512) value 0 inside)

pub made-same : (top s page l k n m i : ℕ) (leaves : List Leaf) (nodes : List (Option Node)) (words : List ℕ) → IsImage top leaves nodes words → suc l < top → IsAtNode s page (suc l) n nodes → IsSpot s l (up (suc l) page) k leaves nodes → m < length nodes → i < 512 →
    slice_index (made_words n (up (suc l) page % 512) k words) (m * 512 + i) ≡ word_of leaves (made_nodes s l (up (suc l) page) k nodes) (slice_index_or (made_nodes s l (up (suc l) page) k nodes) m None) i
made-same top s page l k n m i leaves nodes words image low at spot h g =
    elim (made-at s l q k m leaves nodes spot) [
      | inl e ↦ rw e.1 (get_or-set_other words (n * 512 + q % 512) (m * 512 + i) (pointer_word k) 0 (no-slot s page (suc l) n m i nodes at g (was-free e.0)) ∙ image.same m i h g ∙ ap (λ (o : Option Node). word_of leaves nodes o i) (was-free e.0) ∙ sym (made-empty top s l q k i leaves nodes words image (omega arith) spot g))
      | inr e ↦ rw e.1 (stored-same top s page (suc l) n (pointer_word k) m i leaves leaves nodes (made_nodes s l q k nodes) words image at h g (made-pointer s l q k leaves nodes spot) (λ a b c other. made-word s l q k a b c leaves nodes spot (not-below s l q a b c other)))
    ]
  where
    q : ℕ
    q = up (suc l) page

    was-free : m ≡ k → slice_index_or nodes m None ≡ None
    was-free e = subst (λ (v : ℕ). slice_index_or nodes v None ≡ None) (sym e) spot.free

pub made : (top s page l k n : ℕ) (leaves : List Leaf) (nodes : List (Option Node)) (words : List ℕ) → IsImage top leaves nodes words → suc l < top → IsAtNode s page (suc l) n nodes → IsSpot s l (up (suc l) page) k leaves nodes → IsImage top leaves (made_nodes s l (up (suc l) page) k nodes) (made_words n (up (suc l) page % 512) k words)
made top s page l k n leaves nodes words image low at spot = record {
  size = length-set words (n * 512 + up (suc l) page % 512) (pointer_word k) ∙ image.size ∙ ap (λ (v : ℕ). v * 512) (sym (length-set nodes k (Some (new_node s l q))));
  same = λ m i h g. made-same top s page l k n m i leaves nodes words image low at spot (let e = length-set nodes k (Some (new_node s l q)) in omega (arith, e, h)) g;
  apart = apart;
  closed = closed;
  full = λ a b c h g. made-keeps s l q k a b c leaves nodes spot (image.full a b c h g);
}
  where
    q : ℕ
    q = up (suc l) page

    taken : (a b c m : ℕ) → is_below a b c (Some (new_node s l (up (suc l) page))) ≡ true → is_below a b c (slice_index_or nodes m None) ≡ true → ⊥
    taken a b c m e f =
        let i = below-is a b c (new_node s l (up (suc l) page)) e in
        let b1 : suc l ≡ b = omega (arith, i.level_is) in
        let f2 : is_below s (suc l) (up (suc l) page) (slice_index_or nodes m None) ≡ true = rw (i.space_is, b1, i.prefix_is) f in
        number-there s (suc l) (up (suc l) page) m nodes f2 spot.absent

    apart : (a b c n m : ℕ) → is_below a b c (slice_index_or (made_nodes s l (up (suc l) page) k nodes) n None) ≡ true → is_below a b c (slice_index_or (made_nodes s l (up (suc l) page) k nodes) m None) ≡ true → n ≡ m
    apart a b c n m h g =
        elim (made-at s l (up (suc l) page) k n leaves nodes spot) [
          | inl e ↦ elim (made-at s l (up (suc l) page) k m leaves nodes spot) [
            | inl f ↦ e.0 ∙ sym f.0
            | inr f ↦ absurd (taken a b c m (rw e.1 at h) (rw f.1 at g))
          ]
          | inr e ↦ elim (made-at s l (up (suc l) page) k m leaves nodes spot) [
            | inl f ↦ absurd (taken a b c n (rw f.1 at g) (rw e.1 at h))
            | inr f ↦ image.apart a b c n m (rw e.1 at h) (rw f.1 at g)
          ]
        ]

    old : (a b c : ℕ) → (b ≡ top) ⊎ ((number_of a (suc b) (c / 512) nodes ≡ None → ⊥) × (b < top)) → (b ≡ top) ⊎ ((number_of a (suc b) (c / 512) (made_nodes s l (up (suc l) page) k nodes) ≡ None → ⊥) × (b < top))
    old a b c (inl e) = inl e
    old a b c (inr e) = inr (made-keeps s l (up (suc l) page) k a (suc b) (c / 512) leaves nodes spot e.0, e.1)

    newly : (a b c : ℕ) → is_below a b c (Some (new_node s l (up (suc l) page))) ≡ true → (b ≡ top) ⊎ ((number_of a (suc b) (c / 512) (made_nodes s l (up (suc l) page) k nodes) ≡ None → ⊥) × (b < top))
    newly a b c e =
        let i = below-is a b c (new_node s l (up (suc l) page)) e in
        let b1 : suc l ≡ b = omega (arith, i.level_is) in
        let parent : number_of s (suc (suc l)) (up (suc l) page / 512) nodes ≡ None → ⊥ = number-there s (suc (suc l)) (up (suc (suc l)) page) n nodes at.at_node in
        let keeps = made-keeps s l (up (suc l) page) k s (suc (suc l)) (up (suc l) page / 512) leaves nodes spot parent in
        inr (rw (← i.space_is, ← b1, ← i.prefix_is) keeps, omega (arith, b1))

    closed : (a b c m : ℕ) → is_below a b c (slice_index_or (made_nodes s l (up (suc l) page) k nodes) m None) ≡ true → (b ≡ top) ⊎ ((number_of a (suc b) (c / 512) (made_nodes s l (up (suc l) page) k nodes) ≡ None → ⊥) × (b < top))
    closed a b c m h =
        elim (made-at s l (up (suc l) page) k m leaves nodes spot) [
          | inl e ↦ newly a b c (rw e.1 at h)
          | inr e ↦ old a b c (image.closed a b c m (rw e.1 at h))
        ]

-- The new node is at its page.
pub made-at_node : (s page l k : ℕ) (leaves : List Leaf) (nodes : List (Option Node)) → IsSpot s l (up (suc l) page) k leaves nodes → IsAtNode s page l k (made_nodes s l (up (suc l) page) k nodes)
made-at_node s page l k leaves nodes spot = record {
  at_node = rw (get_or-set_same nodes k (Some (new_node s l (up (suc l) page))) None spot.within) (new-below s l (up (suc l) page));
}

-- The roots stay, and all but the path's nodes are needed as before.
pub made-rooted : (top spaces s l q k : ℕ) (leaves : List Leaf) (nodes : List (Option Node)) → IsRooted top spaces nodes → IsSpot s l q k leaves nodes → IsRooted top spaces (made_nodes s l q k nodes)
made-rooted top spaces s l q k leaves nodes rooted spot =
    let e = length-set nodes k (Some (new_node s l q)) in
    record {
      root = λ a h. elim (made-at s l q k a leaves nodes spot) [
        | inl f ↦ absurd (free a f.0 (rooted.root a h))
        | inr f ↦ rw f.1 (rooted.root a h)
      ];
      spaces_in = omega (arith, e, rooted.spaces_in);
      small = omega (arith, e, rooted.small);
    }
  where
    free : (a : ℕ) → a ≡ k → is_below a top 0 (slice_index_or nodes a None) ≡ true → ⊥
    free a e h =
        let f : slice_index_or nodes a None ≡ None = subst (λ (v : ℕ). slice_index_or nodes v None ≡ None) (sym e) spot.free in
        let g : is_below a top 0 (slice_index_or nodes a None) ≡ false = ap (is_below a top 0) f in cc

pub made-nearly : (top s page l j k : ℕ) (leaves : List Leaf) (nodes : List (Option Node)) → IsNearly top s page l leaves nodes → l ≤ j → IsSpot s j (up (suc j) page) k leaves nodes → IsNearly top s page l leaves (made_nodes s j (up (suc j) page) k nodes)
made-nearly top s page l j k leaves nodes nearly h spot = record {
  nearly = λ a b c n g. elim (made-at s j (up (suc j) page) k n leaves nodes spot) [
    | inl e ↦ on-path a b c (below-is a b c (new_node s j (up (suc j) page)) (rw e.1 at g))
    | inr e ↦ nearly.nearly a b c n (rw e.1 at g)
  ];
}
  where
    on-path : (a b c : ℕ) → Is a b c (new_node s j (up (suc j) page)) → (b ≡ top) ⊎ ((in_nodes a b c leaves ≡ true) ⊎ ((a ≡ s) × (l < b) × (c ≡ up b page)))
    on-path a b c i =
        let b1 : suc j ≡ b = omega (arith, i.level_is) in
        inr (inr (sym i.space_is, omega (arith, b1), subst (λ (v : ℕ). c ≡ up v page) b1 (sym i.prefix_is)))
