-- Where a walk stops, and what it says of the mapping.
use Rattle.xl_radix.proofs.Common.{◌*◌, ◌+◌, ◌-◌, ◌<◌, ◌∙◌, ◌≡◌, ◌≤◌, ◌⊎◌, ap, arith, cases_lt, cond, covers, end_level, entry, false, find-only, In, In-any, in_nodes, inl, inr, IsAtNode, IsEnd, IsExact, IsImage, IsRadixMapping, IsStore, Leaf, leaf_at_page, leaf_in, leaf_word, level-low, level_of, List, list_any, meets_any, meets_block, nat_lt, nat_tests, Node, None, number_of, Option, Order, pages_of, pointer_word, refl, Some, subst, suc, sym, true, up, up-from, word_at, zero, ℕ}
use Rattle.xl_radix.proofs.CaseLemmas.{split-le}
use Rattle.xl_radix.proofs.ListLemmas.{any-nothing, find-nothing}
use Rattle.xl_radix.proofs.MeetLemmas.{covered, covering, meets, Met, met, Overlap}
use Rattle.xl_radix.proofs.SlotLemmas.{At, in-nodes, in-nodes-leaf, leaf-in-none, leaf-in-some, number-some, Under}

-- the nodes of a page end at the first level, from this one on, whose node is needed
pub end-is : (n a l space page : ℕ) (leaves : List Leaf) → a ≤ l → l ≤ a + n
    → ((h : ℕ) → h < l → in_nodes space (suc h) (up (suc h) page) leaves ≡ false)
    → (l ≡ a + n) ⊎ (in_nodes space (suc l) (up (suc l) page) leaves ≡ true) → end_level n a space page leaves ≡ l
end-is zero a l space page leaves low high none last = omega arith
end-is (suc n) a l space page leaves low high none last =
    elim (nat_lt a l) as (λ b. nat_lt a l ≡ b → cond (in_nodes space (suc a) (up (suc a) page) leaves) a (end_level n (a + 1) space page leaves) ≡ l) [
      | true ↦ λ t.
          let less : a < l = grind (arith, nat_tests) in
          rw (none a less) (end-is n (a + 1) l space page leaves (omega arith) (omega arith) none
          (elim last [ inl e ↦ inl (omega arith) | inr k ↦ inr k ]))
      | false ↦ λ t.
          let same : a ≡ l = grind (arith, nat_tests) in
          elim last [
            | inl e ↦ absurd (omega arith)
            | inr k ↦
                let here : in_nodes space (suc a) (up (suc a) page) leaves ≡ true = subst (λ (m : ℕ). in_nodes space (suc m) (up (suc m) page) leaves ≡ true) (sym same) k in
                rw here same
          ]
    ] refl

-- What holds between calls.
pub record IsTable (top spaces : ℕ) (leaves : List Leaf) (nodes : List (Option Node)) (words : List ℕ) (used : List ℕ) : Type 0 where
  pub store : IsStore top spaces leaves nodes words used
  pub exact : IsExact top leaves nodes

-- A leaf that lies at the block of a slot, at its level or below, is seen at the slot.
pub seen-low : (top s l q : ℕ) (leaves : List Leaf) (nodes : List (Option Node)) (words : List ℕ) (y : Leaf) → IsImage top leaves nodes words → l < top → leaf_in s l q leaves ≡ None → number_of s l q nodes ≡ None → In y leaves → y.space ≡ s → level_of y.order ≤ l → up l y.first ≡ q → ⊥
seen-low top s l q leaves nodes words y image low e f i same h block =
    elim (split-le (level_of y.order) l h) [
      | inl g ↦ leaf-in-none s l q leaves y e i (record { space_is = same; level_is = g; block_is = block })
      | inr g ↦ image.full s l q (in-nodes s l q leaves y i (record { space_is = same; level_in = g; block_is = block })) (omega arith) f
    ]

-- A leaf above the level of a node of the table doesn't hold the node's pages.
pub none-high : (top spaces s page l n : ℕ) (leaves : List Leaf) (nodes : List (Option Node)) (y : Leaf) → 3 ≤ top → IsRadixMapping top spaces leaves → IsExact top leaves nodes → IsAtNode s page l n nodes → In y leaves → y.space ≡ s → l < level_of y.order → up (level_of y.order) y.first ≡ up (level_of y.order) page → ⊥
none-high top spaces s page l n leaves nodes y high m exact at i same h block =
    elim (exact.needed s (suc l) (up (suc l) page) n at.at_node) [
      | inl e ↦ let low = level-low y.order in absurd (omega (arith, e, low))
      | inr e ↦ other (in-nodes-leaf s (suc l) (up (suc l) page) leaves e)
    ]
  where
    other : (z : Leaf) × In z leaves × Under s (suc l) (up (suc l) page) z → ⊥
    other r =
        let z = r.0 in
        let u = r.2 in
        let lower : level_of z.order < suc l = u.level_in in
        let k : level_of z.order ≤ level_of y.order = omega arith in
        let up-z : up (level_of y.order) z.first ≡ up (level_of y.order) page = up-from (suc l) (level_of y.order) z.first page u.block_is (omega arith) in
        let e : z ≡ y = m.apart z y r.1 i (u.space_is ∙ sym same) k (up-z ∙ sym block) in
        let g : level_of z.order ≡ level_of y.order = ap (λ (w : Leaf). level_of w.order) e in
        omega (arith, g, lower, h)

-- Where a slot has neither leaf nor node, no leaf overlaps its block or a block in it.
pub none-overlaps : (top spaces s page l n m : ℕ) (leaves : List Leaf) (nodes : List (Option Node)) (words : List ℕ) (used : List ℕ) (y : Leaf) → IsTable top spaces leaves nodes words used → l < top → IsAtNode s page l n nodes → leaf_in s l (up l page) leaves ≡ None → number_of s l (up l page) nodes ≡ None → m ≤ l → In y leaves → Met s page m y → ⊥
none-overlaps top spaces s page l n m leaves nodes words used y t low at e f h i g =
    elim (cases_lt l (level_of y.order)) [
      | inl above ↦ none-high top spaces s page l n leaves nodes y t.store.high t.store.mapping t.exact at i g.space_is above (high above g.overlap)
      | inr below ↦ seen-low top s l (up l page) leaves nodes words y t.store.image low e f i g.space_is below (lower below g.overlap)
    ]
  where
    high : l < level_of y.order → Overlap (level_of y.order) y.first m page → up (level_of y.order) y.first ≡ up (level_of y.order) page
    high k (inl o) = absurd (omega (arith, o.0))
    high k (inr o) = o.1

    lower : level_of y.order ≤ l → Overlap (level_of y.order) y.first m page → up l y.first ≡ up l page
    lower k (inl o) = up-from m l y.first page o.1 h
    lower k (inr o) = up-from (level_of y.order) l y.first page o.1 k

-- A slot has not both a leaf and a node below it.
pub not-both : (top spaces s l q k : ℕ) (leaves : List Leaf) (nodes : List (Option Node)) (x : Leaf) → l < top → IsRadixMapping top spaces leaves → IsExact top leaves nodes → leaf_in s l q leaves ≡ Some x → number_of s l q nodes ≡ Some k → ⊥
not-both top spaces s l q k leaves nodes x low m exact e f =
    elim (exact.needed s l q k (number-some s l q k nodes f).1) [
      | inl g ↦ omega arith
      | inr g ↦ other (leaf-in-some s l q leaves x e) (in-nodes-leaf s l q leaves g)
    ]
  where
    other : In x leaves × At s l q x → (z : Leaf) × In z leaves × Under s l q z → ⊥
    other a r =
        let z = r.0 in
        let u = r.2 in
        let lower : level_of z.order < l = u.level_in in
        let is : level_of x.order ≡ l = a.1.level_is in
        let block : up (level_of x.order) z.first ≡ up (level_of x.order) x.first = let P : ℕ → Type 0 = λ k. up k z.first ≡ up k x.first in subst P (sym is) (u.block_is ∙ sym a.1.block_is) in
        let e : z ≡ x = m.apart z x r.1 a.0 (u.space_is ∙ sym a.1.space_is) (omega arith) block in
        let g : level_of z.order ≡ level_of x.order = ap (λ (w : Leaf). level_of w.order) e in
        omega (arith, g, lower, is)

-- The leaf at a page's slot covers the page, and no other does.
pub found-at : (top spaces s page l : ℕ) (leaves : List Leaf) (x : Leaf) → IsRadixMapping top spaces leaves → leaf_in s l (up l page) leaves ≡ Some x → leaf_at_page s page leaves ≡ Some x
unfolding leaf_at_page
found-at top spaces s page l leaves x m e =
    let r = leaf-in-some s l (up l page) leaves x e in
    let block : up (level_of x.order) x.first ≡ up (level_of x.order) page = let P : ℕ → Type 0 = λ k. up k x.first ≡ up k page in subst P (sym r.1.level_is) r.1.block_is in
    find-only (covers s page) x leaves r.0 (covering s page x (m.proper x r.0).aligned r.1.space_is block) (only r.0 r.1.space_is block)
  where
    only : In x leaves → x.space ≡ s → up (level_of x.order) x.first ≡ up (level_of x.order) page → (y : Leaf) → In y leaves → covers s page y ≡ true → y ≡ x
    only i same block y j t =
        let c = covered s page y (m.proper y j).aligned t in
        elim (cases_lt (level_of x.order) (level_of y.order)) [
          | inl lt ↦ sym (m.apart x y i j (same ∙ sym c.0) (omega arith) (up-from (level_of x.order) (level_of y.order) x.first page block (omega arith) ∙ sym c.1))
          | inr ge ↦ m.apart y x j i (c.0 ∙ sym same) ge (up-from (level_of y.order) (level_of x.order) y.first page c.1 ge ∙ sym block)
        ]

pub found-none : (top spaces s page l n : ℕ) (leaves : List Leaf) (nodes : List (Option Node)) (words : List ℕ) (used : List ℕ) → IsTable top spaces leaves nodes words used → l < top → IsAtNode s page l n nodes → leaf_in s l (up l page) leaves ≡ None → number_of s l (up l page) nodes ≡ None → leaf_at_page s page leaves ≡ None
unfolding leaf_at_page
found-none top spaces s page l n leaves nodes words used t low at e f =
    find-nothing (covers s page) leaves (λ y i g. none y i (covered s page y (t.store.mapping.proper y i).aligned g))
  where
    none : (y : Leaf) → In y leaves → (y.space ≡ s) × (up (level_of y.order) y.first ≡ up (level_of y.order) page) → ⊥
    none y i c = none-overlaps top spaces s page l n 0 leaves nodes words used y t low at e f (omega arith) i (record { space_is = c.0; overlap = inr (omega arith, c.1) })

leaf-word-filled : (x : Leaf) → leaf_word x.frame x.perm ≡ 0 → ⊥
unfolding leaf_word
leaf-word-filled x h = omega (arith, h)

pointer-word-filled : (n : ℕ) → pointer_word n ≡ 0 → ⊥
unfolding pointer_word
pointer-word-filled n h = omega arith

-- A slot's word is 0 exactly where it has neither leaf nor node.
pub word-none : (s l q : ℕ) (leaves : List Leaf) (nodes : List (Option Node)) → word_at leaves nodes s l q ≡ 0 → (leaf_in s l q leaves ≡ None) × (number_of s l q nodes ≡ None)
unfolding word_at
word-none s l q leaves nodes h =
    elim (leaf_in s l q leaves) as (λ o. leaf_in s l q leaves ≡ o → entry o (number_of s l q nodes) ≡ 0 → (leaf_in s l q leaves ≡ None) × (number_of s l q nodes ≡ None)) [
      | Some x ↦ λ e g. absurd (leaf-word-filled x g)
      | None ↦ λ e g. elim (number_of s l q nodes) as (λ o. number_of s l q nodes ≡ o → entry None o ≡ 0 → (leaf_in s l q leaves ≡ None) × (number_of s l q nodes ≡ None)) [
        | Some n ↦ λ f k. absurd (pointer-word-filled n k)
        | None ↦ λ f k. (e, f)
      ] refl g
    ] refl h

pub none-word : (s l q : ℕ) (leaves : List Leaf) (nodes : List (Option Node)) → leaf_in s l q leaves ≡ None → number_of s l q nodes ≡ None → word_at leaves nodes s l q ≡ 0
unfolding word_at
none-word s l q leaves nodes e f = rw (e, f) refl

-- A walk for a block stops at a word that is 0 exactly where no leaf overlaps the block.
pub no-leaf-meets : (top spaces s first n l : ℕ) (o : Order) (leaves : List Leaf) (nodes : List (Option Node)) (words : List ℕ) (used : List ℕ) → IsTable top spaces leaves nodes words used → up (level_of o) first * pages_of o ≡ first → IsEnd top s first (level_of o) l n nodes → word_at leaves nodes s l (up l first) ≡ 0 → meets_any s first o leaves ≡ false
unfolding meets_any
no-leaf-meets top spaces s first n l o leaves nodes words used t aligned end empty =
    let r = word-none s l (up l first) leaves nodes empty in
    any-nothing (meets_block s first o) leaves (λ y i g. none-overlaps top spaces s first l n (level_of o) leaves nodes words used y t end.level_in end.at r.0 r.1 end.least_in i (met s first o y (t.store.mapping.proper y i).aligned aligned g))

pub a-leaf-meets : (top spaces s first n l : ℕ) (o : Order) (leaves : List Leaf) (nodes : List (Option Node)) (words : List ℕ) (used : List ℕ) → IsTable top spaces leaves nodes words used → up (level_of o) first * pages_of o ≡ first → IsEnd top s first (level_of o) l n nodes → (word_at leaves nodes s l (up l first) ≡ 0 → ⊥) → meets_any s first o leaves ≡ true
unfolding meets_any
a-leaf-meets top spaces s first n l o leaves nodes words used t aligned end filled =
    elim (leaf_in s l (up l first) leaves) as (λ x. leaf_in s l (up l first) leaves ≡ x → list_any (meets_block s first o) leaves ≡ true) [
      | Some x ↦ λ e. leaf x (leaf-in-some s l (up l first) leaves x e)
      | None ↦ λ e. elim (number_of s l (up l first) nodes) as (λ k. number_of s l (up l first) nodes ≡ k → list_any (meets_block s first o) leaves ≡ true) [
        | Some k ↦ λ f. pointed k f end.ends
        | None ↦ λ f. absurd (filled (none-word s l (up l first) leaves nodes e f))
      ] refl
    ] refl
  where
    leaf : (x : Leaf) → In x leaves × At s l (up l first) x → list_any (meets_block s first o) leaves ≡ true
    leaf x r =
        let block : up (level_of x.order) x.first ≡ up (level_of x.order) first = let P : ℕ → Type 0 = λ k. up k x.first ≡ up k first in subst P (sym r.1.level_is) r.1.block_is in
        let h : level_of o ≤ level_of x.order = omega (arith, end.least_in, r.1.level_is) in
        In-any (meets_block s first o) x leaves r.0 (meets s first o x (t.store.mapping.proper x r.0).aligned aligned (record { space_is = r.1.space_is; overlap = inr (h, block) }))

    under : level_of o ≡ l → (x : Leaf) × In x leaves × Under s l (up l first) x → list_any (meets_block s first o) leaves ≡ true
    under e r =
        let x = r.0 in
        let u = r.2 in
        let h : level_of x.order ≤ level_of o = omega (arith, e, u.level_in) in
        let block : up (level_of o) x.first ≡ up (level_of o) first = let P : ℕ → Type 0 = λ k. up k x.first ≡ up k first in subst P (sym e) u.block_is in
        In-any (meets_block s first o) x leaves r.1 (meets s first o x (t.store.mapping.proper x r.1).aligned aligned (record { space_is = u.space_is; overlap = inl (h, block) }))

    pointed : (k : ℕ) → number_of s l (up l first) nodes ≡ Some k → (l ≡ level_of o) ⊎ (number_of s l (up l first) nodes ≡ None) → list_any (meets_block s first o) leaves ≡ true
    pointed k f (inr g) = cc
    pointed k f (inl g) = elim (t.exact.needed s l (up l first) k (number-some s l (up l first) k nodes f).1) [
      | inl e ↦ absurd (omega (arith, e, end.level_in))
      | inr e ↦ under (sym g) (in-nodes-leaf s l (up l first) leaves e)
    ]
