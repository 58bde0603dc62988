-- A range is taken out of a tree, or gets other pages.
use Rattle.xl_treap.proofs.Common.{◌%◌, ◌*◌, ◌++◌, ◌+◌, ◌-◌, ◌/◌, ◌<◌, ◌==◌, ◌^◌, ◌∙◌, ◌∷◌, ◌≡◌, ◌≤◌, ◌⊎◌, [], any-In, ap, arith, Bin, CanMerge, CanTake, child, cond, down, Each, end_key, false, graft, has_key, High, In, In-append, In-left, In-right, inl, InOrder, inr, IsApart, IsAt, IsAttached, IsHeap, IsResized, IsRisen, IsSized, IsTaken, IsWay, Keeps, length, link_at, List, list_any, Low, merge, nat_tests, node_word, Off, on_side, Over, parent_at, Range, range_key, ranges, refl, resized, SameLine, SameOff, Side, side_at, slice_index, subst, suc, sym, Tip, toward, Tree, tree_at, true, without_range, zero, ℕ}
use Rattle.xl_treap.proofs.AttachLemmas.{Attached, attached, IsParent, off-child, off-empty, parent-there}
use Rattle.xl_treap.proofs.FoundLemmas.{tree-is}
use Rattle.xl_treap.proofs.GraftLemmas.{alike, graft-resized, graft-without, Has, heap-graft, lift, resized-before, without-before}
use Rattle.xl_treap.proofs.MergeLemmas.{merge-every, merge-heap, merge-over, merge-ranges}
use Rattle.xl_treap.proofs.OrderLemmas.{apart-within, at-side, fit-end, on-either, order-apart, order-In, order-side, order-wider, side, side-high, side-low, sizes, within-In}
use Rattle.xl_treap.proofs.WayLemmas.{at-keeps, at-there, down-next, each-map, frame, heap-down, linked-three, off-side, order-down}

-- lists without a range
pub without-apart : (low k : ℕ) (xs : List Range) → IsApart low xs → IsApart low (without_range k xs)
without-apart low k [] a = tt
without-apart low k (r ∷ rs) (a, f, b) =
    elim (range_key r == k) as (λ c. IsApart low (cond c rs (r ∷ without_range k rs))) [
      | true ↦ lower rs b
      | false ↦ (a, f, without-apart (end_key r) k rs b)
    ]
  where
    lower : (ys : List Range) → IsApart (end_key r) ys → IsApart low ys
    lower [] h = tt
    lower (y ∷ ys) (h, g, i) = (let some = f.some in omega arith, g, i)

pub without-misses : (low k : ℕ) (y : Range) (xs : List Range) → low ≤ 2 ^ 58 → IsApart low xs → In y (without_range k xs) → range_key y ≡ k → ⊥
without-misses low k y [] h a i e = i
without-misses low k y (r ∷ rs) h (a, f, b) i e =
    elim (range_key r == k) as (λ c. (range_key r == k) ≡ c → In y (cond c rs (r ∷ without_range k rs)) → ⊥) [
      | true ↦ λ t j.
          let w = within-In (end_key r) (2 ^ 58) y rs (apart-within (end_key r) rs (fit-end r f) b) j in
          let p = w.from_low in let some = f.some in let q : range_key r ≡ k = grind (arith, nat_tests) in omega arith
      | false ↦ λ t j. elim j [
        | inl q ↦ let u : (range_key r == k) ≡ true = alike (range_key r) k (sym (ap (λ (w : Range). range_key w) q) ∙ e) in absurd (cc)
        | inr m ↦ without-misses (end_key r) k y rs (fit-end r f) b m e
      ]
    ] refl i

pub without-length : (k : ℕ) (xs : List Range) → Has k xs → suc (length (without_range k xs)) ≡ length xs
without-length k [] h = absurd h.1
without-length k (r ∷ rs) (y, i, e) =
    elim (range_key r == k) as (λ c. (range_key r == k) ≡ c → suc (length (cond c rs (r ∷ without_range k rs))) ≡ suc (length rs)) [
      | true ↦ λ t. refl
      | false ↦ λ t. ap suc (without-length k rs (
        y,
        elim i [
          | inl q ↦ let P : Range → Type 0 = λ w. range_key w ≡ k in let u : (range_key r == k) ≡ true = alike (range_key r) k (subst P q e) in absurd (cc)
          | inr j ↦ j
        ],
        e,
      ))
    ] refl

pub has-held : (k : ℕ) (xs : List Range) → list_any (has_key k) xs ≡ true → Has k xs
has-held k xs h = let a = any-In (has_key k) xs h in (a.0, a.1, grind (arith, nat_tests))

-- a key that is held fits a word
pub held-small : (k : ℕ) (xs : List Range) → IsApart 0 xs → list_any (has_key k) xs ≡ true → k < 2 ^ 64
held-small k xs a h =
    let y = has-held k xs h in
    let w = within-In 0 (2 ^ 58) y.0 xs (apart-within 0 xs (omega arith) a) y.1 in
    let p = w.to_high in let some = w.fit.some in let e = y.2 in omega arith

-- a node with a key that no range of a tree has is none of the tree
off-miss : (words : List ℕ) (n k : ℕ) (t : Tree) → slice_index words (4 * n) ≡ k → Keeps words t → ((y : Range) → In y (ranges t) → range_key y ≡ k → ⊥) → Off n t
off-miss words n k Tip e h f = tt
off-miss words n k (Bin m x l r) e (i, a, b) f = (
  λ q. f x (In-right x (ranges l) (x ∷ ranges r) (inl refl)) (sym i.key_is ∙ ap (λ z. slice_index words (4 * z)) q ∙ e),
  off-miss words n k l e a (λ y j. f y (In-left y (ranges l) (x ∷ ranges r) j)),
  off-miss words n k r e b (λ y j. f y (In-right y (ranges l) (x ∷ ranges r) (inr j))),
)

-- a range that is held is under the end of its key's way
has-child : (words : List ℕ) (at k low high : ℕ) (t : Tree) → IsAt words at t → InOrder low high t → (slice_index words (4 * (at - 1)) ≡ k → ⊥) → Has k (ranges t)
    → Has k (ranges (child (toward k t) t))
has-child words at k low high Tip i o ne h = h
has-child words at k low high (Bin n x l r) i o ne (y, j, e) =
    let m : n ≡ at - 1 = let z = i.0 in omega arith in
    let M : n ≡ at - 1 → slice_index words (4 * n) ≡ k → ⊥ = (λ q. subst (λ (z : ℕ). slice_index words (4 * z) ≡ k → ⊥) (sym q) ne) in
    let other : range_key x ≡ k → ⊥ = (λ q. M m (i.1.key_is ∙ q)) in
    let some = o.0.some in
    let R : Side → Type 0 = λ c. Has k (ranges (on_side c l r)) in
    elim (side (range_key x) k) [
      | inl lt ↦ subst R (sym (side-high (range_key x) k lt)) (elim (In-append y (ranges l) (x ∷ ranges r) j) [
        | inl a ↦ let w = order-In low (range_key x) y l o.1 a in let p = w.to_high in let s = w.fit.some in absurd (omega arith)
        | inr b ↦ elim b [
          | inl q ↦ absurd (other (sym (ap (λ (w : Range). range_key w) q) ∙ e))
          | inr b ↦ (y, b, e)
        ]
      ])
      | inr ge ↦ subst R (sym (side-low (range_key x) k ge)) (elim (In-append y (ranges l) (x ∷ ranges r) j) [
        | inl a ↦ (y, a, e)
        | inr b ↦ elim b [
          | inl q ↦ absurd (other (sym (ap (λ (w : Range). range_key w) q) ∙ e))
          | inr b ↦ let w = order-In (end_key x) high y r o.2 b in let p = w.from_low in absurd (omega arith)
        ]
      ])
    ]

has-down : (words path : List ℕ) (t : Tree) (k depth at low high : ℕ) → IsWay words path t k depth at → InOrder low high t → Has k (ranges t) → (d : ℕ) → d ≤ depth → Has k (ranges (down t k d))
has-down words path t k depth at low high way o h zero le = h
has-down words path t k depth at low high way o h (suc d) le =
    let b = order-down t k d low high o in
    subst (λ (z : Tree). Has k (ranges z)) (sym (down-next t k d))
    (has-child words (slice_index path d) k b.0 b.1 (down t k d) (way.nodes d (omega arith)) b.2 (way.other d (omega arith)) (has-down words path t k depth at low high way o h d (omega arith)))

-- The node of a key, at the end of the key's way.
pub record AtKey (words : List ℕ) (at k : ℕ) (t : Tree) : Type 0 where
  pub node : ℕ
  pub range : Range
  pub low : Tree
  pub high : Tree
  pub is : t ≡ Bin node range low high
  pub link : at ≡ suc node
  pub key : range_key range ≡ k

at-key : (words : List ℕ) (at k : ℕ) (t : Tree) → IsAt words at t → Has k (ranges t) → ((at ≡ 0) ⊎ ((0 < at) × (slice_index words (4 * (at - 1)) ≡ k))) → AtKey words at k t
at-key words at k Tip i h e = absurd h.1
at-key words at k (Bin n x l r) i h e = record {
  node = n;
  range = x;
  low = l;
  high = r;
  is = refl;
  link = i.0;
  key = elim e [
    | inl z ↦ absurd (let q = i.0 in omega arith)
    | inr w ↦ let m : n ≡ at - 1 = let z = i.0 in omega arith in sym i.1.key_is ∙ ap (λ z. slice_index words (4 * z)) m ∙ w.1
  ];
}

attached-three : (old new : List ℕ) (root result p k at : ℕ) → IsAttached old new root result p k at → (m j : ℕ) → j < 3 → slice_index new (4 * m + j) ≡ slice_index old (4 * m + j)
attached-three old new root result zero k at a m j h = ap (λ (w : List ℕ). slice_index w (4 * m + j)) a.0
attached-three old new root result (suc p) k at a m j h = linked-three old new p _ _ a.0 m j h

sized-line : (old new : List ℕ) (n pages m : ℕ) → IsSized old new n pages → (m ≡ n → ⊥) → SameLine old new m
sized-line old new n pages m h ne = λ j l. h.others (4 * m + j) (λ q. ne (omega arith))

module _ (w0 path : List ℕ) (root nodes : ℕ) (t : Tree) (k depth at : ℕ) (can : CanTake w0 root nodes t k) (way : IsWay w0 path t k depth at) where
  order : InOrder 0 (2 ^ 58) t
  order = order-apart t can.placed.apart

  has : Has k (ranges (down t k depth))
  has = has-down w0 path t k depth at 0 (2 ^ 58) way order (has-held k (ranges t) can.held) depth (omega arith)

  pub take-key : AtKey w0 at k (down t k depth)
  take-key = at-key w0 at k (down t k depth) way.here has way.ends

  pub take-some : 0 < at
  take-some = let e = take-key.link in omega arith

  pub take-there : 4 * (at - 1) + 4 ≤ length w0
  take-there = at-there w0 at (down t k depth) way.here take-some

  abbrev node : ℕ
  node = take-key.node

  abbrev range : Range
  range = take-key.range

  abbrev low : Tree
  low = take-key.low

  abbrev high : Tree
  high = take-key.high

  top-at : IsAt w0 at (Bin node range low high)
  top-at = let T : Tree → Type 0 = λ z. IsAt w0 at z in subst T take-key.is way.here

  top-order : (a : ℕ) × (b : ℕ) × InOrder a b (Bin node range low high)
  top-order =
      let o = order-down t k depth 0 (2 ^ 58) order in
      (o.0, o.1, subst (λ (z : Tree). InOrder o.0 o.1 z) take-key.is o.2)

  top-heap : IsHeap (Bin node range low high)
  top-heap = let T : Tree → Type 0 = λ z. IsHeap z in subst T take-key.is (heap-down t k depth can.placed.heap)

  -- a node that is no node of the tree so far down isn't one of the trees under its top
  parent-off : (d : ℕ) → depth ≡ suc d → Off (slice_index path d - 1) (Bin node range low high)
  parent-off d e =
      let o = order-down t k d 0 (2 ^ 58) order in
      let less : d < depth = omega arith in
      let T : Tree → Type 0 = λ z. Off (slice_index path d - 1) z in
      subst T take-key.is (subst (λ (z : ℕ). Off (slice_index path d - 1) (down t k z)) (sym e) (subst T (sym (down-next t k d))
      (off-child w0 (slice_index path d) o.0 o.1 (toward k (down t k d)) (down t k d) (way.nodes d less) (way.some d less) o.2)))

  top-few : length (ranges (Bin node range low high)) ≤ nodes
  top-few =
      subst (λ (z : Tree). length (ranges z) ≤ nodes) take-key.is (fewer depth)
    where
      shorter : (t : Tree) (d : ℕ) → length (ranges (down t k d)) ≤ length (ranges t)
      shorter t zero = omega arith
      shorter Tip (suc d) = omega arith
      shorter (Bin n x l r) (suc d) =
          let c : Side = side_at (range_key x) k in
          let a = shorter (on_side c l r) d in
          let b = on-either (λ z. length (ranges z) ≤ length (ranges (Bin n x l r))) c l r (omega (arith, sizes n x l r)) (omega (arith, sizes n x l r)) in
          omega arith

      fewer : (d : ℕ) → length (ranges (down t k d)) ≤ nodes
      fewer d = let a = shorter t d in let b = can.few in omega arith

  under-is : (s : Side) → tree_at nodes w0 (link_at s w0 (at - 1)) ≡ on_side s low high
  under-is s =
      let m : node ≡ at - 1 = let z = take-key.link in omega arith in
      let N : ℕ → Type 0 = λ z. tree_at nodes w0 (link_at s w0 z) ≡ on_side s low high in
      let o = top-order in
      let b = order-side s o.0 o.1 node range low high o.2 in
      let f = top-few in
      let few = on-either (λ z. length (ranges z) ≤ nodes) s low high (omega (arith, sizes node range low high)) (omega (arith, sizes node range low high)) in
      subst N m (tree-is b.0 b.1 nodes w0 (link_at s w0 node) (on_side s low high) (at-side s w0 at node range low high top-at) b.2 few)

  -- the two trees under the node can be made one
  pub take-pair : CanMerge w0 (link_at Low w0 (at - 1)) (link_at High w0 (at - 1)) nodes (record { low = tree_at nodes w0 (link_at Low w0 (at - 1)); high = tree_at nodes w0 (link_at High w0 (at - 1)); key = k })
  take-pair =
      let m : node ≡ at - 1 = let z = take-key.link in omega arith in
      let o = top-order in
      let some = o.2.0.some in
      let e = take-key.key in
      let C : Tree → Tree → Type 0 = λ a b. CanMerge w0 (link_at Low w0 (at - 1)) (link_at High w0 (at - 1)) nodes (record { low = a; high = b; key = k }) in
      subst (λ (b : Tree). C (tree_at nodes w0 (link_at Low w0 (at - 1))) b) (sym (under-is High)) (subst (λ (a : Tree). C a high) (sym (under-is Low)) (record {
        low_at = subst (λ (z : ℕ). IsAt w0 (link_at Low w0 z) low) m top-at.2;
        high_at = subst (λ (z : ℕ). IsAt w0 (link_at High w0 z) high) m top-at.3;
        low_order = order-wider o.0 (range_key range) 0 k low o.2.1 (omega arith) (omega arith);
        high_order = (o.1, order-wider (end_key range) o.1 (suc k) o.1 high o.2.2 (omega arith) (omega arith));
        few = (let f = top-few in omega (arith, sizes node range low high));
      }))

  module _ (w1 : List ℕ) (top : ℕ) (risen : IsRisen w0 w1 (merge (tree_at nodes w0 (link_at Low w0 (at - 1))) (tree_at nodes w0 (link_at High w0 (at - 1)))) top) where
    both : IsRisen w0 w1 (merge low high) top
    both =
        subst (λ (b : Tree). IsRisen w0 w1 (merge low b) top) (under-is High) (subst (λ (a : Tree). IsRisen w0 w1 (merge a (tree_at nodes w0 (link_at High w0 (at - 1)))) top) (under-is Low) risen)

    under-off : SameOff (down t k depth) w0 w1
    under-off =
        subst (λ (z : Tree). SameOff z w0 w1) (sym take-key.is) (record {
          len = both.but.off.len;
          same = λ m o. both.but.off.same m (merge-every (λ z y. z ≡ m → ⊥) low high o.1 o.2);
        })

    take-parent : IsParent w0 path t k depth (merge low high)
    take-parent = λ d e.
        let less : d < depth = omega arith in
        let o = parent-off d e in
        (way.nodes d less, way.some d less, merge-every (λ z y. z ≡ slice_index path d - 1 → ⊥) low high o.1 o.2)

    pub take-room : 4 * parent_at path depth ≤ length w1
    take-room = parent-there w0 w1 path t (merge low high) k depth take-parent both.but.off.len

    abbrev whole : Tree
    whole = graft t k depth (merge low high)

    merged-is : ranges (merge low high) ≡ without_range k (ranges (down t k depth))
    merged-is =
        let o = top-order in
        let e : (range_key range == k) ≡ true = alike (range_key range) k take-key.key in
        let q = take-key.key in
        merge-ranges low high
        ∙ ap (λ c. ranges low ++ cond c (ranges high) (range ∷ without_range k (ranges high))) (sym e)
        ∙ sym (without-before k (ranges low) (range ∷ ranges high) (λ z i. let a = order-In o.0 (range_key range) z low o.2.1 i in let b = a.to_high in let c = a.fit.some in omega arith))
        ∙ ap (λ z. without_range k (ranges z)) (sym take-key.is)

    whole-ranges : ranges whole ≡ without_range k (ranges t)
    whole-ranges = graft-without k 0 (2 ^ 58) t (merge low high) depth order has merged-is

    whole-heap : IsHeap whole
    whole-heap =
        (heap-graft t (merge low high) k depth can.placed.heap (merge-heap low high top-heap.2 top-heap.3)
        (λ y o. let T : Tree → Type 0 = λ z. Over y z in let p = subst T take-key.is o in merge-over y low high p.1 p.2)).0

    module _ (w2 w3 : List ℕ) (result : ℕ) (put : IsAttached w1 w2 root result (parent_at path depth) k top) (sized : IsSized w2 w3 (at - 1) 0) where
      now : Attached w0 w2 t k depth (merge low high) result
      now = attached w0 w1 w2 path 0 (2 ^ 58) root result k depth top t (merge low high) can.placed.at order take-parent under-off both.here put

      gone : node ≡ at - 1
      gone = let z = take-key.link in omega arith

      key-stays : slice_index w2 (4 * (at - 1)) ≡ k
      key-stays =
          let z : 4 * (at - 1) + 0 ≡ 4 * (at - 1) = omega arith in
          ap (slice_index w2) (sym z) ∙ attached-three w1 w2 root result (parent_at path depth) k top put (at - 1) 0 (omega arith) ∙ both.but.kept (at - 1) 0 (omega arith)
          ∙ ap (slice_index w0) z ∙ subst (λ (n : ℕ). slice_index w0 (4 * n) ≡ range_key range) gone top-at.1.key_is ∙ take-key.key

      gone-off : Off (at - 1) whole
      gone-off = off-miss w2 (at - 1) k whole key-stays (at-keeps w2 result whole now.here)
          (λ y i e. let I : List Range → Type 0 = λ zs. In y zs in without-misses 0 k y (ranges t) (omega arith) can.placed.apart (subst I whole-ranges i) e)

      pub take-made : IsTaken w0 w3 t k result (at - 1)
      take-made =
          let len : length w3 ≡ length w0 = sized.len ∙ now.off.len in
          let N : ℕ → Type 0 = λ n. slice_index w0 (4 * n + 1) ≡ range.pages in
          let pages : slice_index w0 (4 * (at - 1) + 1) ≡ range.pages = subst N gone top-at.1.pages_is in
          let o = top-order in
          let some = o.2.0.some in
          record {
            made = record {
              tree = whole;
              placed = record {
                at = frame w2 w3 result whole sized.len (each-map (λ m. m ≡ at - 1 → ⊥) (SameLine w2 w3) whole (λ m ne. sized-line w2 w3 (at - 1) 0 m sized ne) gone-off) now.here;
                heap = whole-heap;
                apart = subst (λ (zs : List Range). IsApart 0 zs) (sym whole-ranges) (without-apart 0 k (ranges t) can.placed.apart);
              };
              holds = whole-ranges;
              len = len;
              others = λ e ne empty.
                  let off : Off e t = off-empty w0 e 0 (2 ^ 58) t empty (at-keeps w0 root t can.placed.at) order in
                  let there = empty.there in
                  record { there = omega arith; none = sized-line w2 w3 (at - 1) 0 e sized ne 1 (omega arith) ∙ now.off.same e off 1 (omega arith) ∙ empty.none };
            };
            free = record { there = (let a = take-there in omega arith); none = sized.is };
            was = λ empty. let e = empty.none in omega arith;
          }

  -- other pages for the range
  module _ (w1 : List ℕ) (pages : ℕ) (apart : IsApart 0 (resized k pages (ranges t))) (sized : IsSized w0 w1 (at - 1) pages) where
    abbrev other : Range
    other = record range { pages = pages }

    abbrev changed : Tree
    changed = Bin node other low high

    own-node : node ≡ at - 1
    own-node = let z = take-key.link in omega arith

    sized-node : IsSized w0 w1 node pages
    sized-node = let S : ℕ → Type 0 = λ z. IsSized w0 w1 z pages in subst S (sym own-node) sized

    same-word : node_word other ≡ node_word range
    unfolding node_word
    same-word = refl

    stays : (s : Tree) → Off node s → Each (SameLine w0 w1) s
    stays s o = each-map (λ m. m ≡ node → ⊥) (SameLine w0 w1) s (λ m ne. sized-line w0 w1 node pages m sized-node ne) o

    changed-at : IsAt w1 at changed
    changed-at =
        let o = top-order in
        let keep = at-keeps w0 at (Bin node range low high) top-at in
        let some = o.2.0.some in
        let there = top-at.1.there in
        let len = sized-node.len in
        let off = off-side w0 node o.0 o.1 range low high keep o.2 in
        let link : slice_index w1 (4 * node + 3) ≡ slice_index w0 (4 * node + 3) = sized-node.others (4 * node + 3) (λ q. omega arith) in
        let R : ℕ → Type 0 = λ z. IsAt w1 (z / 2 ^ 32) high in (
          top-at.0,
          record {
            there = omega arith;
            key_is = sized-node.others (4 * node) (λ q. omega arith) ∙ top-at.1.key_is;
            pages_is = sized-node.is;
            word_is = sized-node.others (4 * node + 2) (λ q. omega arith) ∙ top-at.1.word_is ∙ sym same-word;
          },
          subst (λ (z : ℕ). IsAt w1 (z % 2 ^ 32) low) (sym link) (frame w0 w1 (link_at Low w0 node) low len (stays low (off Low)) top-at.2),
          subst R (sym link) (frame w0 w1 (link_at High w0 node) high len (stays high (off High)) top-at.3),
        )

    changed-off : SameOff (down t k depth) w0 w1
    changed-off =
        subst (λ (z : Tree). SameOff z w0 w1) (sym take-key.is) (record { len = sized-node.len; same = λ m o. sized-line w0 w1 node pages m sized-node (λ e. o.0 (sym e)) })

    changed-is : ranges changed ≡ resized k pages (ranges (down t k depth))
    changed-is =
        let o = top-order in
        let e : (range_key range == k) ≡ true = alike (range_key range) k take-key.key in
        let q = take-key.key in
        ap (λ c. ranges low ++ cond c (other ∷ ranges high) (range ∷ resized k pages (ranges high))) (sym e)
        ∙ sym (resized-before k pages (ranges low) (range ∷ ranges high) (λ z i. let a = order-In o.0 (range_key range) z low o.2.1 i in let b = a.to_high in let c = a.fit.some in omega arith))
        ∙ ap (λ z. resized k pages (ranges z)) (sym take-key.is)

    resized-is : ranges (graft t k depth changed) ≡ resized k pages (ranges t)
    resized-is = graft-resized k pages 0 (2 ^ 58) t changed depth order has changed-is

    pub resize-made : IsResized w0 w1 t root k pages
    resize-made =
        let o = top-order in
        let some = o.2.0.some in
        let pages-are = top-at.1.pages_is in
        let len = sized-node.len in
        record {
          node = node;
          made = record {
            tree = graft t k depth changed;
            placed = record {
              at = lift w0 w1 0 (2 ^ 58) root at k depth t changed can.placed.at order way.here changed-off changed-at;
              heap = (heap-graft t changed k depth can.placed.heap top-heap (λ y p. let T : Tree → Type 0 = λ z. Over y z in subst T take-key.is p)).0;
              apart = subst (λ (zs : List Range). IsApart 0 zs) (sym resized-is) apart;
            };
            holds = resized-is;
            len = len;
            others = λ e ne empty. let there = empty.there in record { there = omega arith; none = sized-line w0 w1 node pages e sized-node ne 1 (omega arith) ∙ empty.none };
          };
          was = λ empty. let e = empty.none in omega arith;
        }
