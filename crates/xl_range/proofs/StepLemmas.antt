-- What the calls of a change require, and their results: the leaves of the ranges that are held
-- then.
use Rattle.xl_range.proofs.Common.{◌*◌, ◌+◌, ◌<◌, ◌==◌, ◌^◌, ◌∙◌, ◌∷◌, ◌≡◌, ◌≤◌, [], ap, arith, before_on, Bool, changed, cond, cut, end_key, false, first_leaf, following_on, glue, grown, HasLeaf, HasRanges, In, inl, inr, Insert, IsAt, IsClear, IsDone, IsHeld, IsLeafFor, IsLeafIn, IsRange, IsTable, join, keeping, Leaf, leaf_in, leaf_key, length, List, meets_any, nat_le, nat_lt, nat_tests, next_leaf, Order, pages-some, pages_before, pages_following, pages_of, part_following, Perm, Range, range_key, range_leaves, range_of_leaf, ranges_of, refl, Remove, run_on, Runs, some_if, spread, subst, suc, sym, touches, TreapView, true, with_leaf, without_leaf, zero, ℕ}
use Rattle.xl_range.proofs.CutCountLemmas.{cut-count}
use Rattle.xl_range.proofs.CutLemmas.{AtHead, cut-spread, head-cut, held-cut, next-cut}
use Rattle.xl_range.proofs.FindLemmas.{leaf-in-is}
use Rattle.xl_range.proofs.HoldLemmas.{fit-range}
use Rattle.xl_range.proofs.LeafChangeLemmas.{insert-changed, insert-room, remove-changed, remove-room}
use Rattle.xl_range.proofs.LeafInLemmas.{Sizes, sizes}
use Rattle.xl_range.proofs.MeetRangeLemmas.{clear-any}
use Rattle.xl_range.proofs.RunLemmas.{count-is, leaves-is, ranges-spread}
use Rattle.xl_range.proofs.TouchLemmas.{clear-ends, grown-range, held-following, held-join, In-key, In-range, leap, run-grown, some-pages, Touch, touch, touch-key}

-- For the table of ranges: the leaves of maximal ranges with a range of one leaf more are their leaves with that leaf.
pub with-run : (n : ℕ) (l a : Leaf) (rest : List Leaf) → leaf_key a + n * pages_of a.order ≤ leaf_key l → with_leaf l (run_on n a rest) ≡ run_on n a (with_leaf l rest)
with-run zero l a rest h = refl
with-run (suc n) l a rest h =
    let p : 0 < pages_of a.order = pages-some a.order in
    let e : suc n * pages_of a.order ≡ pages_of a.order + n * pages_of a.order = omega arith in
    let other : (leaf_key l == leaf_key a) ≡ false = grind (arith, nat_tests) in
    let above : nat_lt (leaf_key l) (leaf_key a) ≡ false = grind (arith, nat_tests) in
    let next : leaf_key (next_leaf a) ≡ leaf_key a + pages_of a.order = omega arith in
    rw (other, above) (ap (λ (xs : List Leaf). a ∷ xs) (with-run n l (next_leaf a) rest (omega arith)))

-- a leaf below all
pub with-first : (low : ℕ) (l : Leaf) (rs : List Range) → IsHeld low rs → leaf_key l < low → with_leaf l (spread rs) ≡ l ∷ spread rs
unfolding spread
with-first low l [] h less = refl
with-first low l (r ∷ rs) (above, is, stops, rest) less =
    let other : (leaf_key l == range_key r) ≡ false = grind (arith, nat_tests) in
    let below : nat_lt (leaf_key l) (range_key r) ≡ true = grind (arith, nat_tests) in
    rw (leaves-is r is, other, below) refl

pub spread-glue : (low : ℕ) (x : Range) (rs : List Range) → IsRange x → IsHeld low rs → spread (glue x rs) ≡ run_on (range_leaves x) (first_leaf x) (spread rs)
unfolding spread
spread-glue low x [] is h = refl
spread-glue low x (q ∷ qs) is (above, also, stops, rest) =
    elim (touches x q) as (λ b. touches x q ≡ b → spread (cond b (grown x q ∷ qs) (x ∷ q ∷ qs)) ≡ run_on (range_leaves x) (first_leaf x) (spread (q ∷ qs))) [
      | true ↦ λ t. run-grown x q (spread qs) (touch x q t) is also
      | false ↦ λ t. refl
    ] refl

one-leaf : (l : Leaf) (rest : List Leaf) → run_on (range_leaves (range_of_leaf l)) (first_leaf (range_of_leaf l)) rest ≡ l ∷ rest
one-leaf l rest = rw (count-is l.order 1 (pages_of l.order) (omega arith)) refl

-- the leaves of maximal ranges with one leaf more
pub spread-join : (low : ℕ) (l : Leaf) (rs : List Range) → IsHeld low rs → IsRange (range_of_leaf l) → IsClear (range_of_leaf l) rs
    → spread (join (range_of_leaf l) rs) ≡ with_leaf l (spread rs)
unfolding join spread
spread-join low l [] h is clear = one-leaf l []
spread-join low l (r ∷ rs) (above, also, stops, rest) is (apart, clear) =
    let x : Range = range_of_leaf l in
    elim (nat_lt (range_key r) (range_key x)) as (λ b. nat_lt (range_key r) (range_key x) ≡ b
    → spread (cond b (cond (touches r x) (glue (grown r x) rs) (r ∷ join x rs)) (glue x (r ∷ rs))) ≡ with_leaf l (spread (r ∷ rs))) [
      | true ↦ λ lt.
          let less : range_key r < range_key x = grind (arith, nat_tests) in
          let ends : end_key r ≤ range_key x = clear-ends x r is less apart in
          let n : ℕ = suc also.leaves.0 in
          let pages : r.pages ≡ n * pages_of r.order = also.leaves.1 in
          let past : with_leaf l (run_on n (first_leaf r) (spread rs)) ≡ run_on n (first_leaf r) (with_leaf l (spread rs)) = with-run n l (first_leaf r) (spread rs) (omega arith) in
          let count : range_leaves r ≡ n = leaves-is r also in
          let goal : run_on (range_leaves r) (first_leaf r) (with_leaf l (spread rs)) ≡ with_leaf l (run_on (range_leaves r) (first_leaf r) (spread rs)) = rw count (sym past) in
          elim (touches r x) as (λ b. touches r x ≡ b → spread (cond b (glue (grown r x) rs) (r ∷ join x rs)) ≡ with_leaf l (spread (r ∷ rs))) [
            | true ↦ λ t.
                let k : Touch r x = touch r x t in
                let f : end_key r ≡ range_key x = touch-key r x k in
                let some : 0 < x.pages = some-pages x is in
                let following : IsHeld (end_key x) rs = held-following (end_key r) x rs rest clear (omega arith) in
                spread-glue (end_key r) (grown r x) rs (grown-range r x k also is) rest
                ∙ run-grown r x (spread rs) k also is
                ∙ ap (λ (xs : List Leaf). run_on (range_leaves r) (first_leaf r) xs) (one-leaf l (spread rs) ∙ sym (with-first (end_key x) l rs following (omega arith)))
                ∙ goal
            | false ↦ λ t. ap (λ (xs : List Leaf). run_on (range_leaves r) (first_leaf r) xs) (spread-join (end_key r) l rs rest is clear) ∙ goal
          ] refl
      | false ↦ λ lt.
          let le_r : range_key x ≤ range_key r = grind (arith, nat_tests) in
          let some : 0 < x.pages = some-pages x is in
          let following : IsHeld (end_key x) (r ∷ rs) = held-following (range_key r) x (r ∷ rs) (omega arith, also, stops, rest) (apart, clear) le_r in
          spread-glue low x (r ∷ rs) is (above, also, stops, rest) ∙ one-leaf l (spread (r ∷ rs)) ∙ sym (with-first (end_key x) l (r ∷ rs) following (omega arith))
    ] refl

-- the pages of the leaf are free after the cut
clear-high : (low : ℕ) (x : Range) (rs : List Range) → end_key x ≤ low → IsHeld low rs → IsClear x rs
clear-high low x [] le h = tt
clear-high low x (r ∷ rs) le (above, is, stops, rest) = (inr (omega arith), clear-high (end_key r) x rs (omega arith) rest)

clear-following : (m : ℕ) (x y : Range) (rs : List Range) → end_key x ≤ range_key y → IsClear x rs → IsClear x (following_on m y rs)
clear-following zero x y rs le clear = clear
clear-following (suc m) x y rs le clear = (inr le, clear)

clear-before : (n : ℕ) (x r : Range) (rs : List Range) → range_key r + n ≤ range_key x → IsClear x rs → IsClear x (before_on n r rs)
clear-before zero x r rs le clear = clear
clear-before (suc n) x r rs le clear = (inl (omega arith), clear)

pub clear-cut : (space first : ℕ) (o : Order) (low : ℕ) (x r : Range) (rs : List Range) (i : IsLeafIn space first o r) → IsHeld low rs → In r rs
    → range_key x ≡ space * 2 ^ 52 + first → x.pages ≡ pages_of o → IsClear x (cut first o r rs)
clear-cut space first o low x r [] i h m key pages = absurd m
clear-cut space first o low x r (y ∷ rs) i (above, is, stops, rest) (inl e) key pages =
    let at : AtHead low r rs = subst (λ (z : Range). AtHead low z rs) (sym e) (record { above = above; is = is; stops = stops; rest = rest }) in
    let s : Sizes first o r i.before i.following = sizes space first o r i in
    let from = s.from in
    let to = s.to in
    let same : r.space ≡ space = i.space_same in
    subst (λ (z : Range). IsClear x (cut first o r (z ∷ rs))) e (subst (λ (ys : List Range). IsClear x ys) (sym (head-cut first o r rs))
    (clear-before (pages_before first r) x r (following_on (pages_following first o r) (part_following first o r) rs) (omega arith)
    (clear-following (pages_following first o r) x (part_following first o r) rs (omega arith) (clear-high (end_key r) x rs (omega arith) at.rest))))
clear-cut space first o low x r (y ∷ rs) i (above, is, stops, rest) (inr m) key pages =
    let some : 0 < y.pages = some-pages y is in
    let at : end_key y ≤ range_key r = In-key (end_key y) r rs rest m in
    let s : Sizes first o r i.before i.following = sizes space first o r i in
    let from = s.from in
    let same : r.space ≡ space = i.space_same in
    subst (λ (ys : List Range). IsClear x ys) (sym (next-cut first o y r rs (omega arith)))
    (inl (omega arith), clear-cut space first o (end_key y) x r rs i rest m key pages)

most-if : (a b : ℕ) → some_if a + some_if b ≤ 2
most-if zero zero = omega arith
most-if zero (suc b) = omega arith
most-if (suc a) zero = omega arith
most-if (suc a) (suc b) = omega arith

-- The maximal ranges of these leaves, and no others.
pub record AreRanges (rs : List Range) (leaves : List Leaf) : Type 0 where
  pub held : IsHeld 0 rs
  pub leaves_are : spread rs ≡ leaves
  pub ranges : ranges_of leaves ≡ rs

are-ranges : (rs : List Range) (leaves : List Leaf) → IsHeld 0 rs → spread rs ≡ leaves → AreRanges rs leaves
are-ranges rs leaves h e = record { held = h; leaves_are = e; ranges = ap ranges_of (sym e) ∙ ranges-spread 0 rs h }

pub join-ranges : (leaf : Leaf) (rs : List Range) → IsHeld 0 rs → IsRange (range_of_leaf leaf) → IsClear (range_of_leaf leaf) rs → AreRanges (join (range_of_leaf leaf) rs) (with_leaf leaf (spread rs))
join-ranges leaf rs h is clear = are-ranges (join (range_of_leaf leaf) rs) (with_leaf leaf (spread rs)) (held-join 0 (range_of_leaf leaf) rs h (omega arith) is clear) (spread-join 0 leaf rs h is clear)

pub cut-ranges : (space first : ℕ) (o : Order) (r : Range) (rs : List Range) → IsHeld 0 rs → HasLeaf space first o rs r → AreRanges (cut first o r rs) (without_leaf space first (spread rs))
cut-ranges space first o r rs h k = are-ranges (cut first o r rs) (without_leaf space first (spread rs)) (held-cut space first o 0 r rs k.place h k.member) (cut-spread space first o 0 r rs k.place h k.member)

-- Two lists of maximal ranges of the same leaves are one.
pub same-ranges : (rs ys : List Range) (leaves : List Leaf) → AreRanges ys leaves → IsHeld 0 rs → spread rs ≡ leaves → ys ≡ rs
same-ranges rs ys leaves a h e = sym a.ranges ∙ ap ranges_of (sym e) ∙ ranges-spread 0 rs h

-- The first page of a leaf is one of its range.
pub leaf-at : (space first : ℕ) (o : Order) (r : Range) (rs : List Range) → IsHeld 0 rs → HasLeaf space first o rs r → IsAt first r
leaf-at space first o r rs h k =
    let s : Sizes first o r k.place.before k.place.following = sizes space first o r k.place in
    let to = s.to in
    let some = s.some in
    record { fit = fit-range r (In-range 0 r rs h k.member); from = s.from; below = omega arith }

-- A leaf of a range, with any permission, has a range of its own.
part-range : (space first : ℕ) (o : Order) (r : Range) (perm : Perm) (i : IsLeafIn space first o r) → IsRange r → IsRange (range_of_leaf (record (leap i.before (first_leaf r)) { perm = perm }))
unfolding leap
part-range space first o r perm i is =
    let count : r.pages ≡ (i.before + suc i.following) * pages_of r.order = subst (λ (q : Order). r.pages ≡ (i.before + suc i.following) * pages_of q) (sym i.order_same) i.count in
    let a : ℕ = i.before in
    let b : ℕ = i.following in
    let p : ℕ = pages_of r.order in
    let all : r.pages ≡ a * p + (p + b * p) = count ∙ (omega arith) in
    let limit = is.pages_in in
    let frames = is.frames_in in
    let start : r.start ≡ is.aligned.0 * p = is.aligned.1 in
    record {
      leaves = (0, omega arith);
      space_in = is.space_in;
      pages_in = omega arith;
      frames_in = omega arith;
      aligned = (is.aligned.0 + a, mult is.aligned.0 a p r.start start);
    }
  where
    mult : (e a p start : ℕ) → start ≡ e * p → start + a * p ≡ (e + a) * p
    mult e a p start h = omega arith

part-clear : (space first : ℕ) (o : Order) (r : Range) (rs : List Range) (perm : Perm) (i : IsLeafIn space first o r) → IsHeld 0 rs → In r rs
    → IsClear (range_of_leaf (record (leap i.before (first_leaf r)) { perm = perm })) (cut first o r rs)
unfolding leap
part-clear space first o r rs perm i h m =
    let P : Order → Type 0 = λ q. r.space * 2 ^ 52 + (r.start + i.before * pages_of q) ≡ space * 2 ^ 52 + first in
    let a : first ≡ r.start + i.before * pages_of o = i.at in
    let b : r.space ≡ space = i.space_same in
    clear-cut space first o 0 (range_of_leaf (record (leap i.before (first_leaf r)) { perm = perm })) r rs i h m (subst P (sym i.order_same) (omega arith)) (ap pages_of i.order_same)

-- What putting a leaf in asks for.
pub record CanPutLeaf (n : ℕ) (t : TreapView) (l : Leaf) : Type 0 where
  pub range : IsRange (range_of_leaf l)
  pub held : IsHeld 0 t.kept
  pub clear : IsClear (range_of_leaf l) t.kept
  pub room : n ≤ t.nodes

-- A leaf that was cut out can be put in again, with any permission.
pub cut-can : (space first : ℕ) (o : Order) (n : ℕ) (t cutt : TreapView) (r : Range) (perm : Perm) (l : Leaf) → IsTable n t → HasLeaf space first o t.kept r → cutt ≡ keeping t (cut first o r t.kept)
    → l ≡ leaf_in first r → CanPutLeaf n cutt (record l { perm = perm })
cut-can space first o n t cutt r perm l whole k e is =
    let i : IsLeafIn space first o r = k.place in
    let Q : Leaf → Type 0 = λ x. CanPutLeaf n (keeping t (cut first o r t.kept)) (record x { perm = perm }) in
    let room = whole.nodes in
    subst (λ (v : TreapView). CanPutLeaf n v (record l { perm = perm })) (sym e) (subst Q (sym (is ∙ leaf-in-is space first o r i)) (record {
      range = part-range space first o r perm i (In-range 0 r t.kept whole.held k.member);
      held = held-cut space first o 0 r t.kept i whole.held k.member;
      clear = part-clear space first o r t.kept perm i whole.held k.member;
      room = omega arith;
    }))

-- A cut leaves one range more at most.
pub cut-room : (space first : ℕ) (o : Order) (n : ℕ) (t : TreapView) (r : Range) → IsTable n t → HasLeaf space first o t.kept r → length (cut first o r t.kept) ≤ t.nodes
cut-room space first o n t r whole k =
    let a = cut-count first o r t.kept k.member in
    let b = most-if (pages_before first r) (pages_following first o r) in
    let d = whole.few in
    let e = whole.nodes in
    omega arith

-- What a range kept in a treap after a call is.
pub kept-is : (t new : TreapView) (rs : List Range) → new ≡ keeping t rs → new.kept ≡ rs
kept-is t new rs e = ap (λ (v : TreapView). v.kept) e

pub has-ranges : (t new : TreapView) (rs : List Range) (leaves : List Leaf) → new ≡ keeping t rs → AreRanges rs leaves → HasRanges leaves t new
has-ranges t new rs leaves e a =
    let k : new.kept ≡ rs = kept-is t new rs e in
    record { held = subst (λ (ys : List Range). IsHeld 0 ys) (sym k) a.held; leaves = ap spread k ∙ a.leaves_are; rest = e ∙ ap (keeping t) (sym k) }

-- An insertion.
pub insert-clear : (n : ℕ) (t : TreapView) (leaf : Leaf) → IsTable n t → IsLeafFor (Runs n) leaf → meets_any leaf.space leaf.first leaf.order (spread t.kept) ≡ false → IsClear (range_of_leaf leaf) t.kept
insert-clear n t leaf whole valid free = clear-any leaf t.kept whole.held (let l = valid.block.pages_in in omega arith) free

pub leaf-range : (n : ℕ) (leaf : Leaf) → IsLeafFor (Runs n) leaf → IsRange (range_of_leaf leaf)
leaf-range n leaf valid = record {
  leaves = (0, omega arith);
  space_in = valid.block.space_in;
  pages_in = (let l = valid.block.pages_in in omega arith);
  frames_in = valid.frames_in;
  aligned = valid.block.aligned;
}

pub insert-done : (n : ℕ) (t new : TreapView) (leaf : Leaf) (result : Bool) → IsTable n t → IsLeafFor (Runs n) leaf → meets_any leaf.space leaf.first leaf.order (spread t.kept) ≡ false
    → result ≡ nat_le (length (join (range_of_leaf leaf) t.kept)) n → (result ≡ true → new ≡ keeping t (join (range_of_leaf leaf) t.kept)) → (result ≡ false → new ≡ t)
    → IsDone (Insert leaf) n t result new
insert-done n t new leaf result whole valid free test made same =
    let a : AreRanges (join (range_of_leaf leaf) t.kept) (with_leaf leaf (spread t.kept)) = join-ranges leaf t.kept whole.held (leaf-range n leaf valid) (insert-clear n t leaf whole valid free) in
    let L : List Leaf → Type 0 = λ xs. HasRanges xs t new in
    record {
      room = test ∙ ap (λ (xs : List Range). nat_le (length xs) n) (sym a.ranges) ∙ sym (insert-room leaf (spread t.kept) n);
      made = λ e. subst L (sym (insert-changed leaf (spread t.kept))) (has-ranges t new (join (range_of_leaf leaf) t.kept) (with_leaf leaf (spread t.kept)) (made e) a);
      same = same;
    }

-- A removal.
pub remove-done : (space first : ℕ) (o : Order) (n : ℕ) (t new : TreapView) (r : Range) (result : Bool) → IsTable n t → HasLeaf space first o t.kept r
    → result ≡ nat_le (length (cut first o r t.kept)) n → (result ≡ true → new ≡ keeping t (cut first o r t.kept)) → (result ≡ false → new ≡ t)
    → IsDone (Remove space first o) n t result new
remove-done space first o n t new r result whole k test made same =
    let a : AreRanges (cut first o r t.kept) (without_leaf space first (spread t.kept)) = cut-ranges space first o r t.kept whole.held k in
    let is : changed (Remove space first o) (spread t.kept) ≡ without_leaf space first (spread t.kept) = remove-changed space first o (leaf_in first r) (spread t.kept) k.named in
    record {
      room = test ∙ ap (λ (xs : List Range). nat_le (length xs) n) (sym a.ranges) ∙ ap (λ (xs : List Leaf). nat_le (length (ranges_of xs)) n) (sym is) ∙ sym (remove-room space first o (spread t.kept) n);
      made = λ e. subst (λ (xs : List Leaf). HasRanges xs t new) (sym is) (has-ranges t new (cut first o r t.kept) (without_leaf space first (spread t.kept)) (made e) a);
      same = same;
    }
