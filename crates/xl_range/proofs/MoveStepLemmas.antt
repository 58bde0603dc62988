-- Protect and Relocate as two steps, and the state where the second step has no room.
use Rattle.xl_range.proofs.Common.{◌&&◌, ◌*◌, ◌+◌, ◌<◌, ◌^◌, ◌∙◌, ◌≡◌, ◌≤◌, ap, arith, Bool, changed, cut, false, has_room, HasLeaf, HasRanges, In, In-any, is_leaf, is_some, IsBlock, IsClear, IsDone, IsHeld, IsNamed, IsRange, IsTable, join, keeping, Leaf, leaf_in, leaf_key, leaf_named, length, List, meets_any, meets_block, named-first, named-In, named-is, named-order, named-space, nat_le, nat_tests, Order, pages-some, pages_of, Perm, Protect, Range, range_of_leaf, ranges_of, refl, Relocate, Runs, same-bools, Some, spread, subst, sym, TreapView, true, with_leaf, without_leaf, ℕ}
use Rattle.xl_model_lemmas.proofs.SortedLemmas.{put-back, took-back, with-without}
use Rattle.xl_range.proofs.FindLemmas.{named-range}
use Rattle.xl_range.proofs.LeafChangeLemmas.{new-named, protect-changed, protect-room, relocate-changed, relocate-room, still-named}
use Rattle.xl_range.proofs.MeetRangeLemmas.{clear-any}
use Rattle.xl_range.proofs.SpreadLeafLemmas.{clear-key, sorted-spread}
use Rattle.xl_range.proofs.StepLemmas.{AreRanges, CanPutLeaf, cut-can, cut-ranges, has-ranges, join-ranges, kept-is, same-ranges}

-- The leaf of a range that is named is of its space and order, and its first page is the name's.
pub record IsThat (space first : ℕ) (o : Order) (x : Leaf) : Type 0 where
  pub space_same : x.space ≡ space
  pub first_same : x.first ≡ first
  pub order_same : x.order ≡ o

pub is-that : (space first : ℕ) (o : Order) (x : Leaf) (leaves : List Leaf) → leaf_named space first o leaves ≡ Some x → IsThat space first o x
is-that space first o x leaves e =
    let t : is_leaf space first o x ≡ true = named-is space first o x leaves e in
    record { space_same = named-space space first o x t; first_same = named-first space first o x t; order_same = named-order space first o x t }

-- The leaves after a permission is given, as those without the leaf and with the new one.
pub given-leaves : (space first : ℕ) (o : Order) (perm : Perm) (t : TreapView) (r : Range) (l : Leaf) → IsHeld 0 t.kept → HasLeaf space first o t.kept r → l ≡ leaf_in first r
    → changed (Protect space first o perm) (spread t.kept) ≡ with_leaf (record l { perm = perm }) (spread (cut first o r t.kept))
given-leaves space first o perm t r l h k is =
    protect-changed space first o perm (leaf_in first r) (spread t.kept) k.named
    ∙ ap (λ (x : Leaf). with_leaf (record x { perm = perm }) (without_leaf space first (spread t.kept))) (sym is)
    ∙ ap (with_leaf (record l { perm = perm })) (sym (cut-ranges space first o r t.kept h k).leaves_are)

pub protect-done : (space first : ℕ) (o : Order) (perm : Perm) (n : ℕ) (t cutt new : TreapView) (r : Range) (l : Leaf) → IsTable n t → HasLeaf space first o t.kept r → cutt ≡ keeping t (cut first o r t.kept)
    → l ≡ leaf_in first r → true ≡ nat_le (length (join (range_of_leaf (record l { perm = perm })) cutt.kept)) n → new ≡ keeping cutt (join (range_of_leaf (record l { perm = perm })) cutt.kept)
    → IsDone (Protect space first o perm) n t true new
protect-done space first o perm n t cutt new r l whole k ec el test en =
    let p : CanPutLeaf n cutt (record l { perm = perm }) = cut-can space first o n t cutt r perm l whole k ec el in
    let x : Range = range_of_leaf (record l { perm = perm }) in
    let a : AreRanges (join x cutt.kept) (with_leaf (record l { perm = perm }) (spread cutt.kept)) = join-ranges (record l { perm = perm }) cutt.kept p.held p.range p.clear in
    let is : changed (Protect space first o perm) (spread t.kept) ≡ with_leaf (record l { perm = perm }) (spread cutt.kept) =
    given-leaves space first o perm t r l whole.held k el ∙ ap (λ (rs : List Range). with_leaf (record l { perm = perm }) (spread rs)) (sym (kept-is t cutt (cut first o r t.kept) ec)) in
    let all : new ≡ keeping t (join x cutt.kept) = en ∙ ap (λ (v : TreapView). keeping v (join x cutt.kept)) ec in
    record {
      room = test ∙ ap (λ (xs : List Range). nat_le (length xs) n) (sym a.ranges) ∙ ap (λ (xs : List Leaf). nat_le (length (ranges_of xs)) n) (sym is) ∙ sym (protect-room space first o perm (spread t.kept) n);
      made = λ e. subst (λ (xs : List Leaf). HasRanges xs t new) (sym is) (has-ranges t new (join x cutt.kept) (with_leaf (record l { perm = perm }) (spread cutt.kept)) all a);
      same = λ f. absurd (cc);
    }

-- There is no room for the pieces, and the old leaf was put back.
pub protect-undone : (space first : ℕ) (o : Order) (perm : Perm) (n : ℕ) (t cutt between new : TreapView) (r : Range) (l : Leaf) (put : Bool) → IsTable n t → HasLeaf space first o t.kept r
    → cutt ≡ keeping t (cut first o r t.kept) → l ≡ leaf_in first r → false ≡ nat_le (length (join (range_of_leaf (record l { perm = perm })) cutt.kept)) n → between ≡ cutt
    → put ≡ nat_le (length (join (range_of_leaf l) between.kept)) n → (put ≡ true → new ≡ keeping between (join (range_of_leaf l) between.kept))
    → IsDone (Protect space first o perm) n t false new
protect-undone space first o perm n t cutt between new r l put whole k ec el test eb again en =
    let p : CanPutLeaf n cutt (record l { perm = perm }) = cut-can space first o n t cutt r perm l whole k ec el in
    let x : Range = range_of_leaf (record l { perm = perm }) in
    let a : AreRanges (join x cutt.kept) (with_leaf (record l { perm = perm }) (spread cutt.kept)) = join-ranges (record l { perm = perm }) cutt.kept p.held p.range p.clear in
    let is : changed (Protect space first o perm) (spread t.kept) ≡ with_leaf (record l { perm = perm }) (spread cutt.kept) =
    given-leaves space first o perm t r l whole.held k el ∙ ap (λ (rs : List Range). with_leaf (record l { perm = perm }) (spread rs)) (sym (kept-is t cutt (cut first o r t.kept) ec)) in
    let q : CanPutLeaf n cutt (record l { perm = l.perm }) = cut-can space first o n t cutt r l.perm l whole k ec el in
    let b : AreRanges (join (range_of_leaf l) cutt.kept) (with_leaf l (spread cutt.kept)) = join-ranges l cutt.kept q.held q.range q.clear in
    let that : IsThat space first o (leaf_in first r) = is-that space first o (leaf_in first r) (spread t.kept) k.named in
    let member : In (leaf_in first r) (spread t.kept) = named-In space first o (leaf_in first r) (spread t.kept) k.named in
    let back : with_leaf l (spread cutt.kept) ≡ spread t.kept =
    ap (λ (rs : List Range). with_leaf l (spread rs)) (kept-is t cutt (cut first o r t.kept) ec)
    ∙ ap (with_leaf l) (cut-ranges space first o r t.kept whole.held k).leaves_are
    ∙ ap (λ (y : Leaf). with_leaf y (without_leaf space first (spread t.kept))) el
    ∙ ap (λ (s : ℕ). with_leaf (leaf_in first r) (without_leaf s first (spread t.kept))) (sym that.space_same)
    ∙ ap (λ (f : ℕ). with_leaf (leaf_in first r) (without_leaf r.space f (spread t.kept))) (sym that.first_same)
    ∙ put-back (leaf_in first r) (spread t.kept) (sorted-spread 0 t.kept whole.held) member in
    let rs : join (range_of_leaf l) cutt.kept ≡ t.kept = same-ranges t.kept (join (range_of_leaf l) cutt.kept) (with_leaf l (spread cutt.kept)) b whole.held (sym back) in
    let rb : join (range_of_leaf l) between.kept ≡ t.kept = ap (λ (v : TreapView). join (range_of_leaf l) v.kept) eb ∙ rs in
    let few : length t.kept ≤ n = whole.few in
    let yes : nat_le (length t.kept) n ≡ true = grind (arith, nat_tests) in
    record {
      room = test ∙ ap (λ (xs : List Range). nat_le (length xs) n) (sym a.ranges) ∙ ap (λ (xs : List Leaf). nat_le (length (ranges_of xs)) n) (sym is) ∙ sym (protect-room space first o perm (spread t.kept) n);
      made = λ e. absurd (cc);
      same = λ f. en (again ∙ ap (λ (xs : List Range). nat_le (length xs) n) rb ∙ yes) ∙ ap (keeping between) rb ∙ ap (λ (v : TreapView). keeping v t.kept) (eb ∙ ec);
    }

-- A leaf that is moved to where no leaf overlaps it.
pub record IsMoving (space first to : ℕ) (o : Order) (n : ℕ) (t : TreapView) (new : Leaf) : Type 0 where
  pub whole : IsTable n t
  pub old : Leaf
  pub named : leaf_named space first o (spread t.kept) ≡ Some old
  pub new_is : new ≡ record old { first = to }
  pub that : IsThat space to o new
  pub other : to ≡ first → ⊥
  pub range : IsRange (range_of_leaf new)
  pub clear : IsClear (range_of_leaf new) t.kept

not-there : (space first to : ℕ) (o : Order) (x : Leaf) (leaves : List Leaf) → leaf_named space first o leaves ≡ Some x → meets_any space to o leaves ≡ false → to ≡ first → ⊥
unfolding meets_any
not-there space first to o x leaves e free same =
    let t : IsThat space first o x = is-that space first o x leaves e in
    let p : 0 < pages_of o = pages-some o in
    let q : pages_of x.order ≡ pages_of o = ap pages_of t.order_same in
    let a : x.space ≡ space = t.space_same in
    let b : x.first ≡ first = t.first_same in
    let meets : meets_block space to o x ≡ true = grind (arith, nat_tests) in
    same-bools _ (In-any (meets_block space to o) x leaves (named-In space first o x leaves e) meets) free

pub moving : (space first to : ℕ) (o : Order) (n : ℕ) (t : TreapView) (r : Range) (l : Leaf) → IsTable n t → HasLeaf space first o t.kept r → l ≡ leaf_in first r → IsBlock (Runs n) space to o
    → meets_any space to o (spread t.kept) ≡ false → IsMoving space first to o n t (record l { first = to })
moving space first to o n t r l whole k is block free =
    let named : leaf_named space first o (spread t.kept) ≡ Some l = k.named ∙ ap Some (sym is) in
    let that : IsThat space first o l = is-that space first o l (spread t.kept) named in
    let p : CanPutLeaf n (keeping t (cut first o r t.kept)) (record l { perm = l.perm }) = cut-can space first o n t (keeping t (cut first o r t.kept)) r l.perm l whole k refl is in
    let low = block.pages_in in
    let M : ℕ → Type 0 = λ s. meets_any s to o (spread t.kept) ≡ false in
    let O : Order → Type 0 = λ q. meets_any l.space to q (spread t.kept) ≡ false in
    let S : ℕ → Type 0 = λ s. s < 64 in
    let q : pages_of l.order ≡ pages_of o = ap pages_of that.order_same in
    record {
      whole = whole;
      old = l;
      named = named;
      new_is = refl;
      that = record { space_same = that.space_same; first_same = refl; order_same = that.order_same };
      other = not-there space first to o l (spread t.kept) named free;
      range = record {
        leaves = p.range.leaves;
        space_in = p.range.space_in;
        pages_in = omega arith;
        frames_in = p.range.frames_in;
        aligned = subst (λ (q : Order). (e : ℕ) × (to ≡ e * pages_of q)) (sym that.order_same) block.aligned;
      };
      clear = clear-any (record l { first = to }) t.kept whole.held (omega arith) (subst O (sym that.order_same) (subst M (sym that.space_same) free));
    }

-- Both leaves are there.
pub record HasBoth (space first to : ℕ) (o : Order) (t between : TreapView) (new : Leaf) : Type 0 where
  pub held : IsHeld 0 between.kept
  pub leaves : spread between.kept ≡ with_leaf new (spread t.kept)
  pub old_named : IsNamed space first o (spread between.kept)
  pub new_named : IsNamed space to o (spread between.kept)

pub has-both : (space first to : ℕ) (o : Order) (n : ℕ) (t between : TreapView) (new : Leaf) → IsMoving space first to o n t new → between ≡ keeping t (join (range_of_leaf new) t.kept) → HasBoth space first to o t between new
has-both space first to o n t between new m e =
    let a : AreRanges (join (range_of_leaf new) t.kept) (with_leaf new (spread t.kept)) = join-ranges new t.kept m.whole.held m.range m.clear in
    let h : HasRanges (with_leaf new (spread t.kept)) t between = has-ranges t between (join (range_of_leaf new) t.kept) (with_leaf new (spread t.kept)) e a in
    let keys : (z : Leaf) → In z (spread t.kept) → leaf_key z ≡ leaf_key new → ⊥ = λ z i. clear-key new z t.kept m.whole.held m.clear i in
    let still : leaf_named space first o (with_leaf new (spread t.kept)) ≡ Some m.old = still-named space first o new (spread t.kept) (λ f. m.other (sym m.that.first_same ∙ f)) keys ∙ m.named in
    let S : ℕ → Type 0 = λ s. IsNamed s to o (with_leaf new (spread t.kept)) in
    let F : ℕ → Type 0 = λ f. IsNamed new.space f o (with_leaf new (spread t.kept)) in
    let O : Order → Type 0 = λ q. IsNamed new.space new.first q (with_leaf new (spread t.kept)) in
    record {
      held = h.held;
      leaves = h.leaves;
      old_named = ap (λ (xs : List Leaf). is_some (leaf_named space first o xs)) h.leaves ∙ ap is_some still;
      new_named = subst (λ (xs : List Leaf). IsNamed space to o xs) (sym h.leaves) (subst S m.that.space_same (subst F m.that.first_same (subst O m.that.order_same (new-named new (spread t.kept)))));
    }

first-low : (space first : ℕ) (o : Order) (x : Leaf) (rs : List Range) → IsHeld 0 rs → leaf_named space first o (spread rs) ≡ Some x → first < 2 ^ 52
first-low space first o x rs h e = (named-range space first o rs h (ap is_some e)).first_in

-- The leaves after the move, as the old one taken out of both.
pub moved-leaves : (space first to : ℕ) (o : Order) (n : ℕ) (t : TreapView) (new : Leaf) → IsMoving space first to o n t new
    → changed (Relocate space first to o) (spread t.kept) ≡ without_leaf space first (with_leaf new (spread t.kept))
moved-leaves space first to o n t new m =
    let that : IsThat space first o m.old = is-that space first o m.old (spread t.kept) m.named in
    let low : first < 2 ^ 52 = first-low space first o m.old t.kept m.whole.held m.named in
    let high = m.range.pages_in in
    let some : 0 < pages_of new.order = pages-some new.order in
    let a : new.space ≡ space = m.that.space_same in
    let b : new.first ≡ to = m.that.first_same in
    let other : leaf_key new ≡ space * 2 ^ 52 + first → ⊥ = λ e. m.other (omega arith) in
    relocate-changed space first to o m.old (spread t.kept) m.named
    ∙ ap (λ (x : Leaf). with_leaf x (without_leaf space first (spread t.kept))) (sym m.new_is)
    ∙ with-without space first new (spread t.kept) (sorted-spread 0 t.kept m.whole.held) other (λ z i. clear-key new z t.kept m.whole.held m.clear i)

move-room : (space first to : ℕ) (o : Order) (n : ℕ) (t : TreapView) (new : Leaf) → IsMoving space first to o n t new
    → has_room (Relocate space first to o) (spread t.kept) (Runs n) ≡ (nat_le (length (join (range_of_leaf new) t.kept)) n && nat_le (length (ranges_of (changed (Relocate space first to o) (spread t.kept)))) n)
move-room space first to o n t new m =
    let a : AreRanges (join (range_of_leaf new) t.kept) (with_leaf new (spread t.kept)) = join-ranges new t.kept m.whole.held m.range m.clear in
    relocate-room space first to o m.old (spread t.kept) n m.named
    ∙ ap (λ (x : Leaf). nat_le (length (ranges_of (with_leaf x (spread t.kept)))) n && nat_le (length (ranges_of (changed (Relocate space first to o) (spread t.kept)))) n) (sym m.new_is)
    ∙ ap (λ (rs : List Range). nat_le (length rs) n && nat_le (length (ranges_of (changed (Relocate space first to o) (spread t.kept)))) n) a.ranges

-- There is no room for both.
pub no-both : (space first to : ℕ) (o : Order) (n : ℕ) (t same : TreapView) (new : Leaf) → IsMoving space first to o n t new → false ≡ nat_le (length (join (range_of_leaf new) t.kept)) n → same ≡ t
    → IsDone (Relocate space first to o) n t false same
no-both space first to o n t same new m test is = record {
  room = ap (λ (b : Bool). b && nat_le (length (ranges_of (changed (Relocate space first to o) (spread t.kept)))) n) test ∙ sym (move-room space first to o n t new m);
  made = λ e. absurd (cc);
  same = λ e. is;
}

-- The ranges without the old leaf.
left-ranges : (space first to : ℕ) (o : Order) (n : ℕ) (t between : TreapView) (new : Leaf) (r : Range) → IsMoving space first to o n t new → between ≡ keeping t (join (range_of_leaf new) t.kept) → HasLeaf space first o between.kept r
    → AreRanges (cut first o r between.kept) (changed (Relocate space first to o) (spread t.kept))
left-ranges space first to o n t between new r m e k =
    let b : HasBoth space first to o t between new = has-both space first to o n t between new m e in
    let P : List Leaf → Type 0 = λ xs. AreRanges (cut first o r between.kept) xs in
    subst P (ap (without_leaf space first) b.leaves ∙ sym (moved-leaves space first to o n t new m)) (cut-ranges space first o r between.kept b.held k)

pub move-done : (space first to : ℕ) (o : Order) (n : ℕ) (t between last : TreapView) (new : Leaf) (r : Range) → IsMoving space first to o n t new → between ≡ keeping t (join (range_of_leaf new) t.kept)
    → true ≡ nat_le (length (join (range_of_leaf new) t.kept)) n → HasLeaf space first o between.kept r
    → true ≡ nat_le (length (cut first o r between.kept)) n → last ≡ keeping between (cut first o r between.kept) → IsDone (Relocate space first to o) n t true last
move-done space first to o n t between last new r m e one k two is =
    let a : AreRanges (cut first o r between.kept) (changed (Relocate space first to o) (spread t.kept)) = left-ranges space first to o n t between new r m e k in
    let all : last ≡ keeping t (cut first o r between.kept) = is ∙ ap (λ (v : TreapView). keeping v (cut first o r between.kept)) e in
    record {
      room = two ∙ ap (λ (xs : List Range). nat_le (length xs) n) (sym a.ranges) ∙ ap (λ (b : Bool). b && nat_le (length (ranges_of (changed (Relocate space first to o) (spread t.kept)))) n) one ∙ sym (move-room space first to o n t new m);
      made = λ f. has-ranges t last (cut first o r between.kept) (changed (Relocate space first to o) (spread t.kept)) all a;
      same = λ f. absurd (cc);
    }

-- The new leaf taken out again: the ranges are as they were.
pub back-ranges : (space first to : ℕ) (o : Order) (n : ℕ) (t between same : TreapView) (new : Leaf) (r : Range) → IsMoving space first to o n t new → between ≡ keeping t (join (range_of_leaf new) t.kept)
    → same ≡ between → HasLeaf space to o same.kept r → cut to o r same.kept ≡ t.kept
back-ranges space first to o n t between same new r m e es k =
    let b : HasBoth space first to o t same new = has-both space first to o n t same new m (es ∙ e) in
    let keys : (z : Leaf) → In z (spread t.kept) → leaf_key z ≡ leaf_key new → ⊥ = λ z i. clear-key new z t.kept m.whole.held m.clear i in
    let back : without_leaf space to (spread same.kept) ≡ spread t.kept =
    ap (without_leaf space to) b.leaves
    ∙ ap (λ (s : ℕ). without_leaf s to (with_leaf new (spread t.kept))) (sym m.that.space_same)
    ∙ ap (λ (f : ℕ). without_leaf new.space f (with_leaf new (spread t.kept))) (sym m.that.first_same)
    ∙ took-back new (spread t.kept) (sorted-spread 0 t.kept m.whole.held) keys in
    same-ranges t.kept (cut to o r same.kept) (without_leaf space to (spread same.kept)) (cut-ranges space to o r same.kept b.held k) m.whole.held (sym back)

pub move-undone : (space first to : ℕ) (o : Order) (n : ℕ) (t between same last : TreapView) (new : Leaf) (r back : Range) → IsMoving space first to o n t new → between ≡ keeping t (join (range_of_leaf new) t.kept)
    → true ≡ nat_le (length (join (range_of_leaf new) t.kept)) n → HasLeaf space first o between.kept r → false ≡ nat_le (length (cut first o r between.kept)) n → same ≡ between
    → HasLeaf space to o same.kept back → last ≡ keeping same (cut to o back same.kept) → IsDone (Relocate space first to o) n t false last
move-undone space first to o n t between same last new r back m e one k two es j is =
    let a : AreRanges (cut first o r between.kept) (changed (Relocate space first to o) (spread t.kept)) = left-ranges space first to o n t between new r m e k in
    let rs : cut to o back same.kept ≡ t.kept = back-ranges space first to o n t between same new back m e es j in
    record {
      room = two ∙ ap (λ (xs : List Range). nat_le (length xs) n) (sym a.ranges) ∙ ap (λ (b : Bool). b && nat_le (length (ranges_of (changed (Relocate space first to o) (spread t.kept)))) n) one ∙ sym (move-room space first to o n t new m);
      made = λ f. absurd (cc);
      same = λ f. is ∙ ap (keeping same) rs ∙ ap (λ (v : TreapView). keeping v t.kept) (es ∙ e);
    }

pub back-room : (space first to : ℕ) (o : Order) (n : ℕ) (t between same : TreapView) (new : Leaf) (r : Range) → IsMoving space first to o n t new → between ≡ keeping t (join (range_of_leaf new) t.kept)
    → same ≡ between → HasLeaf space to o same.kept r → length (cut to o r same.kept) ≤ same.nodes
back-room space first to o n t between same new r m e es k =
    let rs : cut to o r same.kept ≡ t.kept = back-ranges space first to o n t between same new r m e es k in
    let l : length (cut to o r same.kept) ≡ length t.kept = ap (λ (xs : List Range). length xs) rs in
    let s : same.nodes ≡ t.nodes = ap (λ (v : TreapView). v.nodes) (es ∙ e) in
    let a = m.whole.few in
    let b = m.whole.nodes in
    omega arith
