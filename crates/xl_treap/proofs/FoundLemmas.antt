-- What a search of a tree's words finds.
use Rattle.xl_treap.proofs.Common.{◌*◌, ◌++◌, ◌+◌, ◌-◌, ◌<◌, ◌^◌, ◌∙◌, ◌∷◌, ◌≡◌, ◌≤◌, [], ap, arith, Bin, Bool, cond, end_key, end_of, ended, examined, false, find, found, High, holds_page, In, inl, InOrder, inr, IsAt, IsFit, IsNode, key_at, length, link_at, List, loaded_before, Low, nat_lt, nat_tests, None, Option, pick-no, pick-yes, Range, range_key, ranges, refl, search_from, Searched, Some, subst, suc, sym, Tip, Tree, tree_at, tree_by, true, Visit, visit_of, visited, zero, ℕ}
use Rattle.xl_treap.proofs.OrderLemmas.{order-In, side, sizes}
use Rattle.xl_treap.proofs.SeekLemmas.{from-none, from-visit}
use Rattle.xl_treap.proofs.WordLemmas.{node-said, said-back}
use Rattle.xl_treap.specs.declared.along.Search.TheVariants as search_end
use Rattle.xl_treap.specs.declared.along.Visit.TheVariants as visit

pub none-at : (d : ℕ) (words : List ℕ) → tree_at d words 0 ≡ Tip
none-at zero words = refl
none-at (suc d) words = refl

-- the tree that is in the words is the one that they have
pub tree-is : (low high d : ℕ) (words : List ℕ) (at : ℕ) (t : Tree) → IsAt words at t → InOrder low high t → length (ranges t) ≤ d → tree_at d words at ≡ t
tree-is low high d words at Tip i o h = let P : ℕ → Type 0 = λ a. tree_at d words a ≡ Tip in subst P (sym i) (none-at d words)
tree-is low high zero words at (Bin n x l r) i o h = absurd (omega (arith, sizes n x l r))
tree-is low high (suc d) words at (Bin n x l r) (e, i, a, b) (f, p, q) h =
    let s = sizes n x l r in
    subst (λ (a : ℕ). tree_at (suc d) words a ≡ Bin n x l r) (sym e)
    (ap (λ (o : Option Range). tree_by n o (tree_at d words (link_at Low words n)) (tree_at d words (link_at High words n))) (node-said words n x i f)
    ∙ ap (λ (t : Tree). Bin n x t (tree_at d words (link_at High words n))) (tree-is low (range_key x) d words (link_at Low words n) l a p (omega arith))
    ∙ ap (λ (t : Tree). Bin n x l t) (tree-is (end_key x) high d words (link_at High words n) r b q (omega arith)))

visit-is : (words : List ℕ) (n : ℕ) (x : Range) (k : ℕ) → IsNode words n x → IsFit x
    → visit_of words n k ≡ cond (nat_lt k (range_key x)) (visit.Goes (link_at Low words n)) (cond (nat_lt (k - range_key x) x.pages) (visit.Here (Some x)) (visit.Goes (link_at High words n)))
visit-is words n x k i f = pick-no (length words) (4 * n + 4) _ _ i.there ∙ rw (i.key_is, i.pages_is, i.word_is, said-back x f) refl

one-more : (x : Searched) (n : ℕ) (o : Option Range) → x ≡ ended n (end_of o) → loaded_before 1 x ≡ ended (suc n) (end_of o)
one-more x n o e = let k : 1 + n ≡ suc n = omega arith in ap (loaded_before 1) e ∙ ap (λ (m : ℕ). ended m (end_of o)) k

-- a search of a tree's words examines the tree's nodes on the way, and finds what the tree has
pub seek-tree : (low high left : ℕ) (words : List ℕ) (at : ℕ) (t : Tree) (k : ℕ) → IsAt words at t → InOrder low high t → length (ranges t) ≤ left
    → search_from left words at k ≡ ended (examined t k) (end_of (found t k))
seek-tree low high left words at Tip k i o h =
    let P : ℕ → Type 0 = λ a. search_from left words a k ≡ ended 0 search_end.Absent in subst P (sym i) (from-none left words k)
seek-tree low high zero words at (Bin n x l r) k i o h = absurd (omega (arith, sizes n x l r))
seek-tree low high (suc left) words at (Bin n x l r) k (e, i, a, b) (f, p, q) h =
    let s = sizes n x l r in
    let on : ℕ → Searched = λ next. search_from left words next k in
    let c = seek-tree low (range_key x) left words (link_at Low words n) l k a p (omega arith) in
    let d = seek-tree (end_key x) high left words (link_at High words n) r k b q (omega arith) in
    subst (λ (a : ℕ). search_from (suc left) words a k ≡ ended (examined (Bin n x l r) k) (end_of (found (Bin n x l r) k))) (sym e)
    (from-visit left words n k ∙ ap (λ (v : Visit). visited v on) (visit-is words n x k i f)
    ∙ by (nat_lt k (range_key x)) (nat_lt (k - range_key x) x.pages) (one-more _ _ _ c) (one-more _ _ _ d))
  where
    by : (b c : Bool) → loaded_before 1 (search_from left words (link_at Low words n) k) ≡ ended (suc (examined l k)) (end_of (found l k))
        → loaded_before 1 (search_from left words (link_at High words n) k) ≡ ended (suc (examined r k)) (end_of (found r k))
        → visited (cond b (visit.Goes (link_at Low words n)) (cond c (visit.Here (Some x)) (visit.Goes (link_at High words n)))) (λ next. search_from left words next k)
        ≡ ended (cond b (suc (examined l k)) (cond c 1 (suc (examined r k)))) (end_of (cond b (found l k) (cond c (Some x) (found r k))))
    by true c u v = u
    by false true u v = refl
    by false false u v = v

-- a range holds a page where its keys have the page's
holds-yes : (space page : ℕ) (r : Range) → IsFit r → page < 2 ^ 52 → range_key r ≤ key_at space page → key_at space page < end_key r → holds_page space page r ≡ true
holds-yes space page r f p a b =
    let c : r.start + r.pages ≤ 2 ^ 52 = f.pages_in in
    let d : r.space ≡ space = omega arith in
    let low : r.start ≤ page = omega arith in
    let high : page < r.start + r.pages = omega arith in
    grind (arith, nat_tests)

holds-below : (space page : ℕ) (r : Range) → key_at space page < range_key r → holds_page space page r ≡ false
holds-below space page r a =
    elim (holds_page space page r) as (λ t. holds_page space page r ≡ t → t ≡ false) [
      | true ↦ λ e. let d : r.space ≡ space = grind (arith, nat_tests) in let low : r.start ≤ page = grind (arith, nat_tests) in absurd (omega arith)
      | false ↦ λ e. refl
    ] refl

holds-following : (space page : ℕ) (r : Range) → end_key r ≤ key_at space page → holds_page space page r ≡ false
holds-following space page r a =
    elim (holds_page space page r) as (λ t. holds_page space page r ≡ t → t ≡ false) [
      | true ↦ λ e. let d : r.space ≡ space = grind (arith, nat_tests) in let high : page < r.start + r.pages = grind (arith, nat_tests) in absurd (omega arith)
      | false ↦ λ e. refl
    ] refl

find-following : (p : Range → Bool) (xs ys : List Range) → ((z : Range) → In z xs → p z ≡ false) → find p (xs ++ ys) ≡ find p ys
find-following p [] ys h = refl
find-following p (x ∷ xs) ys h = let e : p x ≡ false = h x (inl refl) in rw e (find-following p xs ys (λ z i. h z (inr i)))

find-none : (p : Range → Bool) (ys : List Range) → ((z : Range) → In z ys → p z ≡ false) → find p ys ≡ None
find-none p [] h = refl
find-none p (y ∷ ys) h = let e : p y ≡ false = h y (inl refl) in rw e (find-none p ys (λ z i. h z (inr i)))

find-before : (p : Range → Bool) (xs ys : List Range) → ((z : Range) → In z ys → p z ≡ false) → find p (xs ++ ys) ≡ find p xs
find-before p [] ys h = find-none p ys h
find-before p (x ∷ xs) ys h = elim (p x) as (λ b. cond b (Some x) (find p (xs ++ ys)) ≡ cond b (Some x) (find p xs)) [
  | true ↦ refl
  | false ↦ find-before p xs ys h
]

-- what a tree has for a page's key is the range that holds the page
pub found-is : (low high : ℕ) (t : Tree) (space page : ℕ) → InOrder low high t → page < 2 ^ 52 → found t (key_at space page) ≡ find (holds_page space page) (ranges t)
found-is low high Tip space page o h = refl
found-is low high (Bin n x l r) space page (f, p, q) h =
    let k : ℕ = key_at space page in
    let some : 0 < x.pages = f.some in
    let following : range_key x ≤ k → find (holds_page space page) (ranges l ++ x ∷ ranges r) ≡ find (holds_page space page) (x ∷ ranges r) =
    (λ ge. find-following (holds_page space page) (ranges l) (x ∷ ranges r) (λ z i. let a = order-In low (range_key x) z l p i in let b = a.to_high in holds-following space page z (omega arith))) in
    elim (side k (range_key x)) [
      | inl lt ↦ pick-yes k (range_key x) _ _ lt ∙ found-is low (range_key x) l space page p h
          ∙ sym (find-before (holds_page space page) (ranges l) (x ∷ ranges r)
          (λ z i. elim i [
            | inl e ↦ let P : Range → Type 0 = λ w. holds_page space page w ≡ false in subst P (sym e) (holds-below space page x lt)
            | inr j ↦ let a = order-In (end_key x) high z r q j in let b = a.from_low in holds-below space page z (omega arith)
          ]))
      | inr ge ↦ pick-no k (range_key x) _ _ ge ∙ elim (side (k - range_key x) x.pages) [
        | inl lt ↦ pick-yes (k - range_key x) x.pages _ _ lt
            ∙ sym (following ge ∙ (let e : holds_page space page x ≡ true = holds-yes space page x f h ge (omega arith) in rw e refl))
        | inr le ↦ pick-no (k - range_key x) x.pages _ _ le ∙ found-is (end_key x) high r space page q h
            ∙ sym (following ge ∙ (let e : holds_page space page x ≡ false = holds-following space page x (omega arith) in rw e refl))
      ]
    ]
