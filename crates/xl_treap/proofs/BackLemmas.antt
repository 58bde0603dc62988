-- The words of a treap say what it holds.
use Rattle.xl_treap.proofs.Common.{◌&&◌, ◌*◌, ◌++◌, ◌+◌, ◌-◌, ◌/◌, ◌<◌, ◌^◌, ◌||◌, ◌∙◌, ◌∷◌, ◌≡◌, ◌≤◌, [], ap, arith, Bin, Bool, end_key, end_of, ended, examined, false, find, found, get_or-replicate, holds_page, In, In-append, In-right, inl, InOrder, inr, is_above, is_between, is_read, IsEmpty, IsHeap, IsKept, IsReached, IsTreap, key_at, length, length-append, length-replicate, List, list_all, nat_tests, not, Once, once-more, Option, pick-no, pick-yes, Range, range_key, range_of_link, range_reads, ranges, reads_among, refl, replicate, search_from, Searched, seen_in, slice_index, subst, suc, sym, Tip, Tree, tree_at, true, upto, WordsReadBack, zero, ℕ}
use Rattle.xl_model.proofs.BoolLemmas.{and-true}
use Rattle.xl_model.specs.Base.{one_if}
use Rattle.xl_treap.proofs.AboveLemmas.{above-not, over-In}
use Rattle.xl_treap.proofs.FoundLemmas.{found-is, seek-tree}
use Rattle.xl_treap.proofs.KeptLemmas.{placed-treap}
use Rattle.xl_treap.proofs.OrderLemmas.{Lies, order-apart, order-In, side}
use Rattle.xl_treap.specs.declared.own_search.Reached.{Reached}

-- The nodes that a search of a tree examines are the ranges that it reads: it needs only the order of the keys and that
-- of the priorities.
all-true : (p : Range → Bool) (xs : List Range) → ((z : Range) → In z xs → p z ≡ true) → list_all p xs ≡ true
all-true p [] h = refl
all-true p (x ∷ xs) h = let a : p x ≡ true = h x (inl refl) in rw a (all-true p xs (λ z i. h z (inr i)))

all-false : (p : Range → Bool) (z : Range) (xs : List Range) → In z xs → p z ≡ false → list_all p xs ≡ false
all-false p z [] i h = absurd i
all-false p z (x ∷ xs) (inl e) h = let P : Range → Type 0 = λ y. p y ≡ false in let a : p x ≡ false = subst P e h in rw a refl
all-false p z (x ∷ xs) (inr i) h = elim (p x) as (λ b. (b && list_all p xs) ≡ false) [
  | true ↦ all-false p z xs i h
  | false ↦ refl
]

all-append : (p : Range → Bool) (xs ys : List Range) → list_all p (xs ++ ys) ≡ (list_all p xs && list_all p ys)
all-append p [] ys = refl
all-append p (x ∷ xs) ys = elim (p x) as (λ b. (b && list_all p (xs ++ ys)) ≡ ((b && list_all p xs) && list_all p ys)) [
  | true ↦ all-append p xs ys
  | false ↦ refl
]

reads-append : (A : List Range) (k : ℕ) (xs ys : List Range) → reads_among A k (xs ++ ys) ≡ reads_among A k xs + reads_among A k ys
reads-append A k [] ys = let e : reads_among A k ys ≡ 0 + reads_among A k ys = omega arith in e
reads-append A k (x ∷ xs) ys = let e = reads-append A k xs ys in omega (arith, e)

reads-same : (A B : List Range) (k : ℕ) (ys : List Range) → ((y : Range) → In y ys → is_read A k y ≡ is_read B k y) → reads_among A k ys ≡ reads_among B k ys
reads-same A B k [] h = refl
reads-same A B k (y ∷ ys) h = ap (λ b. one_if b + reads_among A k ys) (h y (inl refl)) ∙ ap (λ n. one_if (is_read B k y) + n) (reads-same A B k ys (λ z i. h z (inr i)))

reads-none : (A : List Range) (k : ℕ) (ys : List Range) → ((y : Range) → In y ys → is_read A k y ≡ false) → reads_among A k ys ≡ 0
reads-none A k [] h = refl
reads-none A k (y ∷ ys) h = ap (λ b. one_if b + reads_among A k ys) (h y (inl refl)) ∙ (let e = reads-none A k ys (λ z i. h z (inr i)) in omega (arith, e))

-- whether a range at key b, up to e, lets one at key a be read
abbrev lets : ℕ → ℕ → ℕ → ℕ → Bool
lets k a b e = not (is_between k a b e) || is_above a b

pass-high : (k a b e : ℕ) → k < b → a < b → lets k a b e ≡ true
pass-high k a b e h l = grind (arith, nat_tests)

pass-low : (k a b e : ℕ) → b < a → e ≤ k → lets k a b e ≡ true
pass-low k a b e h l = grind (arith, nat_tests)

stop-low : (k a b e : ℕ) → a < b → b ≤ k → is_above a b ≡ false → lets k a b e ≡ false
stop-low k a b e h l o = grind (arith, nat_tests)

stop-high : (k a b e : ℕ) → b ≤ a → k < a → k < e → is_above a b ≡ false → lets k a b e ≡ false
stop-high k a b e h l m o = grind (arith, nat_tests)

lets-above : (k a b e : ℕ) → is_above a b ≡ true → lets k a b e ≡ true
lets-above k a b e h = elim (is_between k a b e) as (λ t. (not t || is_above a b) ≡ true) [ true ↦ h | false ↦ refl ]

own-above : (a : ℕ) → is_above a a ≡ true
own-above a = grind (arith, nat_tests)

-- One node, and the ranges on its left and on its right.
module _ (k low high : ℕ) (n : ℕ) (x : Range) (l r : Tree) (o : InOrder low high (Bin n x l r)) (h : IsHeap (Bin n x l r)) where
  lies-low : (y : Range) → In y (ranges l) → Lies low (range_key x) y
  lies-low y i = order-In low (range_key x) y l o.1 i

  lies-high : (y : Range) → In y (ranges r) → Lies (end_key x) high y
  lies-high y i = order-In (end_key x) high y r o.2 i

  low-under : (y : Range) → In y (ranges l) → is_above (range_key y) (range_key x) ≡ false
  low-under y i = let a = lies-low y i in let b = a.to_high in let c = a.fit.some in
      above-not (range_key x) (range_key y) (over-In (range_key x) y l h.0 i) (λ e. omega arith)

  high-under : (y : Range) → In y (ranges r) → is_above (range_key y) (range_key x) ≡ false
  high-under y i = let a = lies-high y i in let b = a.from_low in let c = o.0.some in
      above-not (range_key x) (range_key y) (over-In (range_key x) y r h.1 i) (λ e. omega arith)

  x-read : is_read (ranges l ++ x ∷ ranges r) k x ≡ true
  x-read = all-true (λ z. lets k (range_key x) (range_key z) (end_key z)) (ranges l ++ x ∷ ranges r)
      (λ z i. lets-above k (range_key x) (range_key z) (end_key z)
      (elim (In-append z (ranges l) (x ∷ ranges r) i) [
        | inl j ↦ over-In (range_key x) z l h.0 j
        | inr j ↦ elim j [
          | inl e ↦ let P : Range → Type 0 = λ w. is_above (range_key x) (range_key w) ≡ true in subst P (sym e) (own-above (range_key x))
          | inr m ↦ over-In (range_key x) z r h.1 m
        ]
      ]))

  x-there : In x (ranges l ++ x ∷ ranges r)
  x-there = In-right x (ranges l) (x ∷ ranges r) (inl refl)

  low-none : (y : Range) → range_key x ≤ k → In y (ranges l) → is_read (ranges l ++ x ∷ ranges r) k y ≡ false
  low-none y le i =
      let a = lies-low y i in let b = a.to_high in let c = a.fit.some in
      all-false (λ z. lets k (range_key y) (range_key z) (end_key z)) x (ranges l ++ x ∷ ranges r) x-there
      (stop-low k (range_key y) (range_key x) (end_key x) (omega arith) le (low-under y i))

  high-none : (y : Range) → k < end_key x → In y (ranges r) → is_read (ranges l ++ x ∷ ranges r) k y ≡ false
  high-none y less i =
      let a = lies-high y i in let b = a.from_low in let c = o.0.some in
      all-false (λ z. lets k (range_key y) (range_key z) (end_key z)) x (ranges l ++ x ∷ ranges r) x-there
      (stop-high k (range_key y) (range_key x) (end_key x) (omega arith) (omega arith) less (high-under y i))

  low-same : (y : Range) → k < range_key x → In y (ranges l) → is_read (ranges l ++ x ∷ ranges r) k y ≡ is_read (ranges l) k y
  low-same y less i =
      let a = lies-low y i in let b = a.to_high in let c = a.fit.some in
      let p : Range → Bool = λ z. lets k (range_key y) (range_key z) (end_key z) in
      all-append p (ranges l) (x ∷ ranges r)
      ∙ ap (λ t. list_all p (ranges l) && t) (all-true p (x ∷ ranges r)
      (λ z j. elim j [
        | inl e ↦ let P : Range → Type 0 = λ w. p w ≡ true in subst P (sym e) (pass-high k (range_key y) (range_key x) (end_key x) less (omega arith))
        | inr m ↦ let d = lies-high z m in let f = d.from_low in let g = o.0.some in pass-high k (range_key y) (range_key z) (end_key z) (omega arith) (omega arith)
      ]))
      ∙ and-true (list_all p (ranges l))

  high-same : (y : Range) → end_key x ≤ k → In y (ranges r) → is_read (ranges l ++ x ∷ ranges r) k y ≡ is_read (ranges r) k y
  high-same y le i =
      let a = lies-high y i in let b = a.from_low in let c = o.0.some in
      let p : Range → Bool = λ z. lets k (range_key y) (range_key z) (end_key z) in
      all-append p (ranges l) (x ∷ ranges r)
      ∙ ap (λ t. t && (p x && list_all p (ranges r))) (all-true p (ranges l)
      (λ z j. let d = lies-low z j in let f = d.to_high in let g = d.fit.some in pass-low k (range_key y) (range_key z) (end_key z) (omega arith) (omega arith)))
      ∙ ap (λ t. t && list_all p (ranges r)) (pass-low k (range_key y) (range_key x) (end_key x) (omega arith) le)

  parts : reads_among (ranges l ++ x ∷ ranges r) k (ranges l ++ x ∷ ranges r)
      ≡ reads_among (ranges l ++ x ∷ ranges r) k (ranges l) + (1 + reads_among (ranges l ++ x ∷ ranges r) k (ranges r))
  parts = reads-append (ranges l ++ x ∷ ranges r) k (ranges l) (x ∷ ranges r)
      ∙ ap (λ t. reads_among (ranges l ++ x ∷ ranges r) k (ranges l) + (one_if t + reads_among (ranges l ++ x ∷ ranges r) k (ranges r))) x-read

  node-low : k < range_key x → reads_among (ranges l ++ x ∷ ranges r) k (ranges l ++ x ∷ ranges r) ≡ suc (reads_among (ranges l) k (ranges l))
  node-low less =
      let a = reads-same (ranges l ++ x ∷ ranges r) (ranges l) k (ranges l) (λ y i. low-same y less i) in
      let f = o.0.some in
      let b = reads-none (ranges l ++ x ∷ ranges r) k (ranges r) (λ y i. high-none y (omega arith) i) in
      omega (arith, parts, a, b)

  node-here : range_key x ≤ k → k < end_key x → reads_among (ranges l ++ x ∷ ranges r) k (ranges l ++ x ∷ ranges r) ≡ 1
  node-here le less =
      let a = reads-none (ranges l ++ x ∷ ranges r) k (ranges l) (λ y i. low-none y le i) in
      let b = reads-none (ranges l ++ x ∷ ranges r) k (ranges r) (λ y i. high-none y less i) in
      omega (arith, parts, a, b)

  node-high : end_key x ≤ k → reads_among (ranges l ++ x ∷ ranges r) k (ranges l ++ x ∷ ranges r) ≡ suc (reads_among (ranges r) k (ranges r))
  node-high le =
      let a = reads-none (ranges l ++ x ∷ ranges r) k (ranges l) (λ y i. low-none y (omega arith) i) in
      let b = reads-same (ranges l ++ x ∷ ranges r) (ranges r) k (ranges r) (λ y i. high-same y le i) in
      omega (arith, parts, a, b)

reads-among : (low high : ℕ) (t : Tree) (k : ℕ) → InOrder low high t → IsHeap t → examined t k ≡ reads_among (ranges t) k (ranges t)
reads-among low high Tip k o h = refl
reads-among low high (Bin n x l r) k o h =
    let f = o.0.some in
    elim (side k (range_key x)) [
      | inl lt ↦ pick-yes k (range_key x) _ _ lt ∙ ap suc (reads-among low (range_key x) l k o.1 h.2) ∙ sym (node-low k low high n x l r o h lt)
      | inr ge ↦ pick-no k (range_key x) _ _ ge ∙ elim (side (k - range_key x) x.pages) [
        | inl lt ↦ pick-yes (k - range_key x) x.pages _ _ lt ∙ sym (node-here k low high n x l r o h ge (omega arith))
        | inr ge ↦ pick-no (k - range_key x) x.pages _ _ ge ∙ ap suc (reads-among (end_key x) high r k o.2 h.3) ∙ sym (node-high k low high n x l r o h (omega arith))
      ]
    ]

-- the nodes that a search examines are as many as the ranges to read
pub examined-reads : (low high : ℕ) (t : Tree) (space page : ℕ) → InOrder low high t → IsHeap t → examined t (key_at space page) ≡ range_reads (ranges t) space page
unfolding range_reads
examined-reads low high t space page o h = reads-among low high t (key_at space page) o h

-- a search of the words finds what is held, by as many loads as there are ranges to read
pub search-kept : (words : List ℕ) (root nodes space page : ℕ) (free : List ℕ) (t : Tree) → IsTreap words root nodes free t → page < 2 ^ 52
    → search_from nodes words root (key_at space page) ≡ ended (range_reads (ranges t) space page) (end_of (find (holds_page space page) (ranges t)))
search-kept words root nodes space page free t k h =
    let o = order-apart t k.placed.apart in
    let c = k.count in
    seek-tree 0 (2 ^ 58) nodes words root t (key_at space page) k.placed.at o (omega arith)
    ∙ ap (λ (n : ℕ). ended n (end_of (found t (key_at space page)))) (examined-reads 0 (2 ^ 58) t space page o k.placed.heap)
    ∙ ap (λ (q : Option Range). ended (range_reads (ranges t) space page) (end_of q)) (found-is 0 (2 ^ 58) t space page o h)

-- what a search of these words reaches is what is held, by as many loads as there are ranges to read
pub reached-kept : (words : List ℕ) (root nodes space page : ℕ) (free : List ℕ) (end : Reached) → IsTreap words root nodes free (tree_at nodes words root) → page < 2 ^ 52
    → IsReached words (tree_at (length words / 4) words root) (key_at space page) end
    → (range_of_link words end.at ≡ find (holds_page space page) (ranges (tree_at nodes words root))) × (end.loads ≡ range_reads (ranges (tree_at nodes words root)) space page)
reached-kept words root nodes space page free end k h r =
    let t : Tree = tree_at nodes words root in
    let size = k.size in
    let e : length words / 4 ≡ nodes = omega arith in
    let q : IsReached words t (key_at space page) end = subst (λ (m : ℕ). IsReached words (tree_at m words root) (key_at space page) end) e r in
    let o = order-apart t k.placed.apart in
    (q.range_is ∙ found-is 0 (2 ^ 58) t space page o h, q.loads_is ∙ examined-reads 0 (2 ^ 58) t space page o k.placed.heap)

pub read-back : (words : List ℕ) (root nodes loads : ℕ) (free : List ℕ) → IsTreap words root nodes free (tree_at nodes words root) → WordsReadBack (seen_in words root nodes loads)
read-back words root nodes loads free k =
    let t : Tree = tree_at nodes words root in
    record {
      size = k.size;
      tree = (t, k.placed.at, k.placed.heap, refl);
      apart = k.placed.apart;
      found = λ space page a b. ap (λ (x : Searched). x.end) (search-kept words root nodes space page free t k b);
      loads = λ space page a b. ap (λ (x : Searched). x.loads) (search-kept words root nodes space page free t k b);
    }

-- a treap that holds nothing
upto-In : (e n : ℕ) → In e (upto n) → e < n
upto-In e zero i = absurd i
upto-In e (suc n) i = elim (In-append e (upto n) (n ∷ []) i) [
  | inl j ↦ omega (arith, upto-In e n j)
  | inr j ↦ elim j [ inl q ↦ omega (arith, q) | inr k ↦ absurd k ]
]

upto-once : (n : ℕ) → Once (upto n)
upto-once zero = tt
upto-once (suc n) = once-more (upto n) n (upto-once n) (λ i. let l = upto-In n n i in omega (arith, l))

upto-length : (n : ℕ) → length (upto n) ≡ n
upto-length zero = refl
upto-length (suc n) = omega (arith, upto-length n, length-append (upto n) (n ∷ []))

pub opened : (words free : List ℕ) (nodes count room : ℕ) → words ≡ replicate (4 * nodes) 0 → free ≡ upto nodes → count ≡ nodes → nodes ≤ 2 ^ 16 + 1 → nodes ≤ room → IsKept words 0 count free room
opened words free nodes count room w f n few room-in =
    let size : length words ≡ 4 * nodes = ap length w ∙ length-replicate (4 * nodes) 0 in
    let len : length free ≡ nodes = ap length f ∙ upto-length nodes in
    let each : (e : ℕ) → In e free → IsEmpty words e = (λ e i.
    let less : e < nodes = upto-In e nodes (subst (λ (fs : List ℕ). In e fs) f i) in
    record { there = omega arith; none = ap (λ (ws : List ℕ). slice_index ws (4 * e + 1)) w ∙ get_or-replicate (4 * nodes) (4 * e + 1) 0 0 (omega arith) }) in
    let h = placed-treap words 0 nodes free Tip (record { at = refl; heap = tt; apart = tt }) size (omega arith) (subst (λ (fs : List ℕ). Once fs) (sym f) (upto-once nodes)) each in
    subst (λ (m : ℕ). IsKept words 0 m free room) (sym n) (h.treap, few, room-in)
