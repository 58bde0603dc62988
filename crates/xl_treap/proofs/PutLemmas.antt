-- A range is put into a tree.
use Rattle.xl_treap.proofs.Common.{◌*◌, ◌+◌, ◌-◌, ◌<◌, ◌^◌, ◌∙◌, ◌∷◌, ◌≡◌, ◌≤◌, [], ap, arith, Bin, CanPart, CanPut, child, cond, cut, down, Each, end_key, false, get_or-set_other, get_or-set_same, graft, High, In, In-right, inl, InOrder, inr, is_above, IsApart, IsAt, IsAttached, IsFit, IsHeap, IsLined, IsLinked, IsMade, IsNode, IsParted, IsWay, length, length-set, List, Low, nat_lt, Off, Over, parent_at, Parts, pick-no, pick-yes, Range, range_key, ranges, refl, SameLine, SameOff, Side, side_at, slice_index, slice_set, subst, suc, sym, Tip, TopOver, toward, Tree, true, with_child, with_range, zero, ℕ}
use Rattle.xl_treap.proofs.AboveLemmas.{above-chain}
use Rattle.xl_treap.proofs.AttachLemmas.{Attached, attached, IsParent, lined-line, off-child, off-empty, parent-there, same-or-not, top-each}
use Rattle.xl_treap.proofs.CutLemmas.{every-cut, over-cut}
use Rattle.xl_treap.proofs.GraftLemmas.{cut-with, down-In, graft-next, graft-with, heap-cut, heap-graft, heap-with}
use Rattle.xl_treap.proofs.OrderLemmas.{apart-within, fit-end, order-apart, side, within-In}
use Rattle.xl_treap.proofs.WayLemmas.{at-keeps, down-next, each-map, every-down, frame, heap-down, linked-line, linked-three, node-same, order-down}

with-In : (x : Range) (xs : List Range) → In x (with_range x xs)
with-In x [] = inl refl
with-In x (r ∷ rs) = elim (nat_lt (range_key r) (range_key x)) as (λ b. In x (cond b (r ∷ with_range x rs) (x ∷ r ∷ rs))) [
  | true ↦ inr (with-In x rs)
  | false ↦ inl refl
]

with-fit : (x : Range) (xs : List Range) → IsApart 0 (with_range x xs) → IsFit x
with-fit x xs a = (within-In 0 (2 ^ 58) x (with_range x xs) (apart-within 0 (with_range x xs) (omega arith) a) (with-In x xs)).fit

-- no range has the key of one that lies apart from it
with-misses : (low : ℕ) (x y : Range) (xs : List Range) → low ≤ 2 ^ 58 → IsApart low (with_range x xs) → In y xs → range_key y ≡ range_key x → ⊥
with-misses low x y [] h a i e = i
with-misses low x y (r ∷ rs) h a i e =
    elim (side (range_key r) (range_key x)) [
      | inl lt ↦
          let b : IsApart low (r ∷ with_range x rs) = subst (λ (zs : List Range). IsApart low zs) (pick-yes (range_key r) (range_key x) (r ∷ with_range x rs) (x ∷ r ∷ rs) lt) a in
          elim i [
            | inl q ↦ let z : range_key y ≡ range_key r = ap (λ (w : Range). range_key w) q in omega arith
            | inr j ↦ with-misses (end_key r) x y rs (fit-end r b.1) b.2 j e
          ]
      | inr ge ↦
          let b : IsApart low (x ∷ r ∷ rs) = subst (λ (zs : List Range). IsApart low zs) (pick-no (range_key r) (range_key x) (r ∷ with_range x rs) (x ∷ r ∷ rs) ge) a in
          let w = within-In (end_key x) (2 ^ 58) y (r ∷ rs) (apart-within (end_key x) (r ∷ rs) (fit-end x b.1) b.2) i in
          let p = w.from_low in let s = b.1.some in omega arith
    ]

top-In : (words : List ℕ) (at k : ℕ) (t : Tree) → IsAt words at t → 0 < at → slice_index words (4 * (at - 1)) ≡ k → (y : Range) × In y (ranges t) × (range_key y ≡ k)
top-In words at k Tip i h e = absurd (omega arith)
top-In words at k (Bin n x l r) i h e =
    let m : at - 1 ≡ n = let q = i.0 in omega arith in
    (x, In-right x (ranges l) (x ∷ ranges r) (inl refl), sym i.1.key_is ∙ ap (λ a. slice_index words (4 * a)) (sym m) ∙ e)

module _ (w0 w1 : List ℕ) (root nodes : ℕ) (t : Tree) (n : ℕ) (x : Range) (can : CanPut w0 root nodes t n x) where
  order : InOrder 0 (2 ^ 58) t
  order = order-apart t can.placed.apart

  pub put-fit : IsFit x
  put-fit = with-fit x (ranges t) can.apart

  off : Off n t
  off = off-empty w0 n 0 (2 ^ 58) t can.empty (at-keeps w0 root t can.placed.at) order

  module _ (lined : IsLined w0 w1 n x) where
    pub put-at : IsAt w1 root t
    put-at = frame w0 w1 root t lined.len (each-map (λ m. m ≡ n → ⊥) (SameLine w0 w1) t (λ m ne. lined-line w0 w1 n x m lined ne) off) can.placed.at

    node-one : IsNode w1 n x
    node-one = record { there = (let a = can.empty.there in let b = lined.len in omega arith); key_is = lined.key_is; pages_is = lined.pages_is; word_is = lined.word_is }

    module _ (path : List ℕ) (depth at : ℕ) (way : IsWay w1 path t (range_key x) depth at) where
      put-none : at ≡ 0
      put-none = elim way.ends [
        | inl e ↦ e
        | inr h ↦ let y = top-In w1 at (range_key x) (down t (range_key x) depth) way.here h.0 h.1 in
            absurd (with-misses 0 x y.0 (ranges t) (omega arith) can.apart (down-In y.0 t (range_key x) depth y.1) y.2)
      ]

      pub put-part : CanPart w1 path t (range_key x) depth
      put-part =
          record { way = subst (λ (a : ℕ). IsWay w1 path t (range_key x) depth a) put-none way; order = order; heap = can.placed.heap }

      module _ (w2 : List ℕ) (parts : Parts) (parted : IsParted w1 w2 t (range_key x) depth parts) where
        abbrev under : Tree
        under = down t (range_key x) parts.depth

        off-under : Off n under
        off-under = every-down (λ m y. m ≡ n → ⊥) t (range_key x) parts.depth off

        module _ (w3 : List ℕ) (linked : IsLinked w2 w3 n parts.low parts.high) where
          abbrev made : Tree
          made = Bin n x (cut Low (range_key x) under) (cut High (range_key x) under)

          node-three : IsNode w3 n x
          node-three =
              node-same w2 w3 n x linked.len (λ j l. linked-three w2 w3 n parts.low parts.high linked n j l)
              (node-same w1 w2 n x parted.cut.but.off.len (λ j l. parted.cut.but.kept n j l) node-one)

          stays : (s : Tree) → Off n s → Each (SameLine w2 w3) s
          stays s o = each-map (λ m. m ≡ n → ⊥) (SameLine w2 w3) s (λ m ne. linked-line w2 w3 n parts.low parts.high m linked ne) o

          made-at : IsAt w3 (n + 1) made
          made-at =
              let L : ℕ → Type 0 = λ z. IsAt w3 z (cut Low (range_key x) under) in
              let H : ℕ → Type 0 = λ z. IsAt w3 z (cut High (range_key x) under) in (
                omega arith,
                node-three,
                subst L (sym linked.low_is) (frame w2 w3 parts.low (cut Low (range_key x) under) linked.len (stays (cut Low (range_key x) under) (every-cut (λ m y. m ≡ n → ⊥) Low (range_key x) under off-under)) (parted.cut.parts Low)),
                subst H (sym linked.high_is) (frame w2 w3 parts.high (cut High (range_key x) under) linked.len (stays (cut High (range_key x) under) (every-cut (λ m y. m ≡ n → ⊥) High (range_key x) under off-under)) (parted.cut.parts High)),
              )

          -- the words before the parting, but with the new node's links
          abbrev base : List ℕ
          base = slice_set w1 (4 * n + 3) (slice_index w3 (4 * n + 3))

          base-len : length base ≡ length w1
          base-len = length-set w1 (4 * n + 3) (slice_index w3 (4 * n + 3))

          base-other : (i : ℕ) → (i ≡ 4 * n + 3 → ⊥) → slice_index base i ≡ slice_index w1 i
          base-other i ne = get_or-set_other w1 (4 * n + 3) i (slice_index w3 (4 * n + 3)) 0 ne

          base-line : (m : ℕ) → (m ≡ n → ⊥) → SameLine w1 base m
          base-line m ne = λ j l. base-other (4 * m + j) (λ q. ne (omega arith))

          base-at : (a : ℕ) (s : Tree) → Off n s → IsAt w1 a s → IsAt base a s
          base-at a s o i = frame w1 base a s base-len (each-map (λ m. m ≡ n → ⊥) (SameLine w1 base) s base-line o) i

          three-len : length w3 ≡ length base
          three-len = linked.len ∙ parted.cut.but.off.len ∙ sym base-len

          base-off : SameOff under base w3
          base-off = record {
            len = three-len;
            same = λ m o. elim (same-or-not m n) [
              | inl e ↦ let P : ℕ → Type 0 = λ z. SameLine base w3 z in
                  subst P (sym e) (λ j l. elim (side j 3) [
                    | inl lt ↦
                        linked-three w2 w3 n parts.low parts.high linked n j lt ∙ parted.cut.but.kept n j lt
                        ∙ sym (base-other (4 * n + j) (λ q. omega arith))
                    | inr ge ↦
                        let q : 3 ≡ j = omega arith in
                        let J : ℕ → Type 0 = λ i. slice_index w3 (4 * n + i) ≡ slice_index base (4 * n + i) in
                        subst J q (sym (get_or-set_same w1 (4 * n + 3) (slice_index w3 (4 * n + 3)) 0 (let z = node-one.there in omega arith)))
                  ])
              | inr ne ↦ λ j l.
                  linked-line w2 w3 n parts.low parts.high m linked ne j l ∙ parted.cut.but.off.same m o j l ∙ sym (base-line m ne j l)
            ];
          }

          pub put-parent : IsParent base path t (range_key x) parts.depth made
          put-parent = λ d e.
              let less : d < depth = let a = parted.short in omega arith in
              let a = way.nodes d less in
              let b = way.some d less in
              let off-d : Off n (down t (range_key x) d) = every-down (λ m y. m ≡ n → ⊥) t (range_key x) d off in
              let o = order-down t (range_key x) d 0 (2 ^ 58) order in
              let side : Side = toward (range_key x) (down t (range_key x) d) in
              let c : Off (slice_index path d - 1) (child side (down t (range_key x) d)) = off-child w1 (slice_index path d) o.0 o.1 side (down t (range_key x) d) a b o.2 in
              let P : ℕ → Type 0 = λ z. Off (slice_index path d - 1) (down t (range_key x) z) in
              let f : Off (slice_index path d - 1) under = subst P (sym e) (subst (λ (z : Tree). Off (slice_index path d - 1) z) (sym (down-next t (range_key x) d)) c) in
              let ne : slice_index path d - 1 ≡ n → ⊥ = top-each (λ m. m ≡ n → ⊥) w1 (slice_index path d) (down t (range_key x) d) a b off-d in (
                base-at (slice_index path d) (down t (range_key x) d) off-d a,
                b,
                (λ q. ne (sym q), (every-cut (λ m y. m ≡ slice_index path d - 1 → ⊥) Low (range_key x) under f), (every-cut (λ m y. m ≡ slice_index path d - 1 → ⊥) High (range_key x) under f)),
              )

          pub put-room : 4 * parent_at path parts.depth ≤ length w3
          put-room = parent-there base w3 path t made (range_key x) parts.depth put-parent three-len

          abbrev whole : Tree
          whole = graft t (range_key x) parts.depth made

          whole-ranges : ranges whole ≡ with_range x (ranges t)
          whole-ranges =
              let o = order-down t (range_key x) parts.depth 0 (2 ^ 58) order in
              graft-with x 0 (2 ^ 58) t made parts.depth order (cut-with x o.0 o.1 under o.2)

          made-heap : IsHeap made
          made-heap =
              let h : IsHeap under = heap-down t (range_key x) parts.depth can.placed.heap in (
                over-cut (range_key x) Low (range_key x) under parted.place.over,
                over-cut (range_key x) High (range_key x) under parted.place.over,
                heap-cut Low (range_key x) under h,
                heap-cut High (range_key x) under h,
              )

          made-over : (y : ℕ) → is_above y (range_key x) ≡ true → Over y under → Over y made
          made-over y a o = (a, over-cut y Low (range_key x) under o, over-cut y High (range_key x) under o)

-- under a node that is above a key, a tree with that key at its top
heap-child : (k : ℕ) (q s : Tree) → IsHeap q → IsHeap s → TopOver k q → ((y : ℕ) → is_above y k ≡ true → Over y (child (toward k q) q) → Over y s)
    → IsHeap (with_child (toward k q) q s) × ((y : ℕ) → Over y q → Over y (with_child (toward k q) q s))
heap-child k Tip s h g p f = absurd p
heap-child k (Bin n x l r) s h g above f =
    heap-with (side_at (range_key x) k) n x l r s h g
    (λ y e. f y (elim e [ inl q ↦ let P : ℕ → Type 0 = λ z. is_above z k ≡ true in subst P q above | inr a ↦ above-chain y (range_key x) k a above ]))

heap-place : (t s : Tree) (k depth : ℕ) → IsHeap t → IsHeap s → ((d : ℕ) → depth ≡ suc d → TopOver k (down t k d))
    → ((y : ℕ) → is_above y k ≡ true → Over y (down t k depth) → Over y s) → IsHeap (graft t k depth s)
heap-place t s k zero h g stop f = g
heap-place t s k (suc d) h g stop f =
    let c = heap-child k (down t k d) s (heap-down t k d h) g (stop d refl) (subst (λ (z : Tree). (y : ℕ) → is_above y k ≡ true → Over y z → Over y s) (down-next t k d) f) in
    subst (λ (z : Tree). IsHeap z) (graft-next t s k d) (heap-graft t (with_child (toward k (down t k d)) (down t k d) s) k d h c.0 c.1).0

-- what a range was put into
pub put-made : (w0 w1 w2 w3 w4 path : List ℕ) (root nodes n depth at result : ℕ) (t : Tree) (x : Range) (parts : Parts) → (can : CanPut w0 root nodes t n x)
    → (lined : IsLined w0 w1 n x) → (way : IsWay w1 path t (range_key x) depth at) → (parted : IsParted w1 w2 t (range_key x) depth parts)
    → (linked : IsLinked w2 w3 n parts.low parts.high) → IsAttached w3 w4 root result (parent_at path parts.depth) (range_key x) (n + 1)
    → IsMade w0 w4 result n (with_range x (ranges t))
put-made w0 w1 w2 w3 w4 path root nodes n depth at result t x parts can lined way parted linked a =
    let k : ℕ = range_key x in
    let und : Tree = down t k parts.depth in
    let mad : Tree = Bin n x (cut Low k und) (cut High k und) in
    let bas : List ℕ = slice_set w1 (4 * n + 3) (slice_index w3 (4 * n + 3)) in
    let ord : InOrder 0 (2 ^ 58) t = order-apart t can.placed.apart in
    let done : Attached bas w4 t k parts.depth mad result =
    attached bas w3 w4 path 0 (2 ^ 58) root result k parts.depth (n + 1) t mad
    (base-at w0 w1 root nodes t n x can lined path depth at way w2 parts parted w3 linked root t (off w0 w1 root nodes t n x can) (put-at w0 w1 root nodes t n x can lined))
    ord
    (put-parent w0 w1 root nodes t n x can lined path depth at way w2 parts parted w3 linked)
    (base-off w0 w1 root nodes t n x can lined path depth at way w2 parts parted w3 linked)
    (made-at w0 w1 root nodes t n x can lined path depth at way w2 parts parted w3 linked)
    a in
    let ranges-are : ranges (graft t k parts.depth mad) ≡ with_range x (ranges t) = whole-ranges w0 w1 root nodes t n x can lined path depth at way w2 parts parted w3 linked in
    record {
      tree = graft t k parts.depth mad;
      placed = record {
        at = done.here;
        heap = heap-place t mad k parts.depth can.placed.heap (made-heap w0 w1 root nodes t n x can lined path depth at way w2 parts parted w3 linked) parted.place.stop
            (made-over w0 w1 root nodes t n x can lined path depth at way w2 parts parted w3 linked);
        apart = subst (λ (zs : List Range). IsApart 0 zs) (sym ranges-are) can.apart;
      };
      holds = ranges-are;
      len = done.off.len ∙ base-len w0 w1 root nodes t n x can lined path depth at way w2 parts parted w3 linked ∙ lined.len;
      others = λ e ne empty.
          let o : Off e t = off-empty w0 e 0 (2 ^ 58) t empty (at-keeps w0 root t can.placed.at) ord in
          let there = empty.there in
          let len : length w4 ≡ length w0 = done.off.len ∙ base-len w0 w1 root nodes t n x can lined path depth at way w2 parts parted w3 linked ∙ lined.len in
          record {
            there = omega arith;
            none = done.off.same e o 1 (omega arith) ∙ base-line w0 w1 root nodes t n x can lined path depth at way w2 parts parted w3 linked e ne 1 (omega arith)
                ∙ lined.others e 1 (omega arith) ne ∙ empty.none;
          };
    }
