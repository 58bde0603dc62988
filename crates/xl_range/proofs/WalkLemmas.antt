-- A walk and a fence of the table: what they keep, answer and leave.
use Rattle.xl_range.proofs.Common.{◌%◌, ◌*◌, ◌+◌, ◌-◌, ◌/◌, ◌<◌, ◌^◌, ◌∙◌, ◌≡◌, ◌≤◌, ◌⊎◌, ap, arith, Bool, Cached, caches_fenced, fence_answer, find, find-In, find-passes, frame-back, holds_page, In, inl, inr, IsAt, IsFence, IsFit, IsFresh, IsKeepable, IsRow, IsTable, IsWalk, Leaf, leaf_at_page, leaf_by, leaf_in, length, List, nat_tests, newest-In, None, Option, pages_of, perm-back, purged, purged-In, Range, range_reads, range_walk_by, RangeCache, ranges_of, reaches_range, refl, row_of, Some, spread, subst, sym, table_fenced, table_walked, TableState, touched-In, touched-none, TreapView, true, walk_answer, walked, with_fill, with_touch, without_items, ℕ}
use Rattle.xl_model.specs.Base.{plus}
use Rattle.xl_model.specs.LeafWords.{perm_code, small_leaf}
use Rattle.xl_model.specs.Walks.{with_range}
use Rattle.xl_model.specs.declared.event.Reach.{Reach}
use Rattle.xl_model.specs.declared.work.Walk.{Walk}
use Rattle.xl_range.proofs.FindLemmas.{at-page, held-fresh, leaf-found}
use Rattle.xl_range.proofs.HoldLemmas.{fit-range}
use Rattle.xl_range.proofs.RunLemmas.{ranges-spread}
use Rattle.xl_range.proofs.TouchLemmas.{In-range}
use Rattle.xl_model.specs.declared.address.Order.TheVariants as order

-- A walk of the row: what it keeps, returns and leaves.
pub record IsRowWalk (space page n : ℕ) (t new : TreapView) (k left : Cached Range) (result : Walk) : Type 0 where
  pub row : IsRow n new left
  pub walks : IsWalk space page (row_of n t k) result (row_of n new left)

touched-row : (n : ℕ) (t : TreapView) (k : Cached Range) (p : Range → Bool) → IsRow n t k → IsRow n t (with_touch p k)
touched-row n t k p row = record { whole = row.whole; fresh = λ r i. row.fresh r (touched-In p r k.items i) }

walked-table : (n reads : ℕ) (t : TreapView) → IsTable n t → IsTable n (record t { loads = plus t.loads reads })
walked-table n reads t whole = record { held = whole.held; few = whole.few; nodes = whole.nodes; loads_in = omega arith }

filled-row : (n space page : ℕ) (t : TreapView) (k : Cached Range) (r : Range) → IsRow n t k → find (holds_page space page) t.kept ≡ Some r → IsRow n t (with_fill r k)
filled-row n space page t k r row found = record { whole = row.whole; fresh = λ z i. new z (newest-In k.width z r k.items i) }
  where
    member : In r t.kept
    member = find-In (holds_page space page) r t.kept found

    new : (z : Range) → (z ≡ r) ⊎ In z k.items → IsFit z × IsFresh (spread t.kept) z
    new z (inl e) = let P : Range → Type 0 = λ w. IsFit w × IsFresh (spread t.kept) w in
        subst P (sym e) (fit-range r (In-range 0 r t.kept row.whole.held member), held-fresh t.kept r row.whole.held member)
    new z (inr i) = row.fresh z i

-- A walk that hits the range TLB.
pub hit-at : (n space page : ℕ) (t : TreapView) (k : Cached Range) (r : Range) → IsRow n t k → Some r ≡ find (holds_page space page) k.items → IsAt page r
hit-at n space page t k r row e =
    at-page space page r (row.fresh r (find-In (holds_page space page) r k.items (sym e))).0 (find-passes (holds_page space page) r k.items (sym e))

holds-own : (space page : ℕ) (r : Range) → holds_page space page r ≡ true → r.space ≡ space
holds-own space page r h = grind (arith, nat_tests)

hit-answer : (n space page : ℕ) (t : TreapView) (k : Cached Range) (r : Range) → IsRow n t k → Some r ≡ find (holds_page space page) k.items
    → (let w : Walk = record { leaf = Some (leaf_in page r); cache_hits = 1 } in w) ≡ walk_answer space page (row_of n t k)
unfolding walk_answer walked
hit-answer n space page t k r row e =
    let holds : holds_page space page r ≡ true = find-passes (holds_page space page) r k.items (sym e) in
    let own : r.space ≡ space = holds-own space page r holds in
    let P : ℕ → Type 0 = λ s. holds_page s page r ≡ true → leaf_at_page s page (spread t.kept) ≡ Some (leaf_in page r) in
    let fresh : leaf_at_page space page (spread t.kept) ≡ Some (leaf_in page r) = subst P own ((row.fresh r (find-In (holds_page space page) r k.items (sym e))).1 page) holds in
    rw (← e, fresh) refl

hit-after : (n space page : ℕ) (t : TreapView) (k : Cached Range) (r : Range) → IsRow n t k → Some r ≡ find (holds_page space page) k.items
    → row_of n t (with_touch (holds_page space page) k) ≡ table_walked space page (row_of n t k)
unfolding table_walked walked
hit-after n space page t k r row e =
    let low : t.loads < 2 ^ 64 = row.whole.loads_in in
    let same : t.loads ≡ (t.loads + 0) % 2 ^ 64 = omega arith in
    let of : Option Range → TableState = λ o. record (row_of n t k) { caches = (range_walk_by o (ranges_of (spread t.kept)) k space page).caches; loads = plus t.loads (range_walk_by o (ranges_of (spread t.kept)) k space page).reads } in
    ap (λ (q : ℕ). record (row_of n t (with_touch (holds_page space page) k)) { loads = q }) same
    ∙ ap of e

pub hit-walk : (n space page : ℕ) (t : TreapView) (k left : Cached Range) (r : Range) (l : Leaf) → IsRow n t k → Some r ≡ find (holds_page space page) k.items → left ≡ with_touch (holds_page space page) k
    → l ≡ leaf_in page r → IsRowWalk space page n t t k left (record { leaf = Some l; cache_hits = 1 })
hit-walk n space page t k left r l row e is leaf =
    record {
      row = subst (λ (x : Cached Range). IsRow n t x) (sym is) (touched-row n t k (holds_page space page) row);
      walks = record {
        answer = ap (λ (x : Leaf). let w : Walk = record { leaf = Some x; cache_hits = 1 } in w) leaf ∙ hit-answer n space page t k r row e;
        after = ap (row_of n t) is ∙ hit-after n space page t k r row e;
      };
    }

-- A walk of the treap.
miss-answer : (n space page : ℕ) (t : TreapView) (k : Cached Range) (o : Option Range) → IsRow n t k → None ≡ find (holds_page space page) k.items → o ≡ find (holds_page space page) t.kept
    → (let w : Walk = record { leaf = leaf_by page o; cache_hits = 0 } in w) ≡ walk_answer space page (row_of n t k)
unfolding walk_answer walked
miss-answer n space page t k o row e found =
    let leaf : leaf_by page o ≡ leaf_at_page space page (spread t.kept) = ap (leaf_by page) found ∙ leaf-found space page t.kept row.whole.held in
    rw (← e, leaf) refl

miss-after : (n space page : ℕ) (t : TreapView) (k : Cached Range) (o : Option Range) → IsRow n t k → None ≡ find (holds_page space page) k.items → o ≡ find (holds_page space page) t.kept
    → row_of n (record t { loads = plus t.loads (range_reads t.kept space page) }) (with_range o k) ≡ table_walked space page (row_of n t k)
unfolding table_walked walked
miss-after n space page t k o row e found =
    let held : t.kept ≡ ranges_of (spread t.kept) = sym (ranges-spread 0 t.kept row.whole.held) in
    let of : Option Range → TableState = λ o. record (row_of n t k) { caches = (range_walk_by o (ranges_of (spread t.kept)) k space page).caches; loads = plus t.loads (range_walk_by o (ranges_of (spread t.kept)) k space page).reads } in
    let by : List Range → TableState = λ rs. record (row_of n t k) { caches = RangeCache (with_range (find (holds_page space page) rs) k); loads = plus t.loads (range_reads rs space page) } in
    ap (λ (o : Option Range). row_of n (record t { loads = plus t.loads (range_reads t.kept space page) }) (with_range o k)) found
    ∙ ap by held
    ∙ ap of e

-- A look that finds nothing changes nothing.
pub touched-same : (new k : Cached Range) (p : Range → Bool) → None ≡ find p k.items → new ≡ with_touch p k → new ≡ k
touched-same new k p none is = is ∙ ap (λ (xs : List Range). record k { items = xs }) (touched-none p k.items (sym none))

-- The treap's answer to a walk, and what it leaves.
pub record IsSought (space page : ℕ) (t new : TreapView) (o : Option Range) : Type 0 where
  pub found : o ≡ find (holds_page space page) t.kept
  pub loads : new ≡ record t { loads = plus t.loads (range_reads t.kept space page) }

pub miss-walk : (n space page : ℕ) (t new : TreapView) (k looked left : Cached Range) (o : Option Range) → IsRow n t k → None ≡ find (holds_page space page) k.items → looked ≡ with_touch (holds_page space page) k
    → IsSought space page t new o → left ≡ with_range o looked → IsRowWalk space page n t new k left (record { leaf = leaf_by page o; cache_hits = 0 })
miss-walk n space page t new k looked left o row none look s is =
    let same : looked ≡ k = touched-same looked k (holds_page space page) none look in
    let all : left ≡ with_range o k = is ∙ ap (with_range o) same in
    let after : TreapView = record t { loads = plus t.loads (range_reads t.kept space page) } in
    let walked_row : IsRow n after k = record { whole = walked-table n (range_reads t.kept space page) t row.whole; fresh = row.fresh } in
    record {
      row = subst (λ (x : Cached Range). IsRow n new x) (sym all) (subst (λ (v : TreapView). IsRow n v (with_range o k)) (sym s.loads) (filled o s.found walked_row));
      walks = record {
        answer = miss-answer n space page t k o row none s.found;
        after = ap (λ (v : TreapView). row_of n v left) s.loads ∙ ap (row_of n after) all ∙ miss-after n space page t k o row none s.found;
      };
    }
  where
    filled : (o : Option Range) → o ≡ find (holds_page space page) t.kept → IsRow n (record t { loads = plus t.loads (range_reads t.kept space page) }) k
        → IsRow n (record t { loads = plus t.loads (range_reads t.kept space page) }) (with_range o k)
    filled None e row = row
    filled (Some r) e row = filled-row n space page (record t { loads = plus t.loads (range_reads t.kept space page) }) k r row (sym e)

-- A fence.
pub record IsRowFence (to : Reach) (n count : ℕ) (t : TreapView) (k left : Cached Range) : Type 0 where
  pub row : IsRow n t left
  pub fences : IsFence to (row_of n t k) count (row_of n t left)

pub fence-made : (to : Reach) (n count : ℕ) (t : TreapView) (k left : Cached Range) → IsRow n t k → count + length left.items ≡ length k.items → left ≡ without_items (reaches_range to) k
    → IsRowFence to n count t k left
unfolding fence_answer table_fenced caches_fenced
fence-made to n count t k left row sum is =
    let s : count + length (purged (reaches_range to) k.items) ≡ length k.items = subst (λ (x : Cached Range). count + length x.items ≡ length k.items) is sum in
    record {
      row = subst (λ (x : Cached Range). IsRow n t x) (sym is) (record { whole = row.whole; fresh = λ r i. row.fresh r (purged-In (reaches_range to) r k.items i).0 });
      fences = record { answer = omega arith; after = ap (row_of n t) is };
    }

-- What is known of the table, as it is seen.
pub seen-walk : (space page n : ℕ) (t new : TreapView) (k left : Cached Range) (result : Walk) (self : TableState) → row_of n t k ≡ self → IsRowWalk space page n t new k left result
    → IsWalk space page self result (row_of n new left)
seen-walk space page n t new k left result self view r = let P : TableState → Type 0 = λ s. IsWalk space page s result (row_of n new left) in subst P view r.walks

-- A walk that leaves the table as it was.
pub still-walk : (space page n : ℕ) (t : TreapView) (k : Cached Range) (result : Walk) (self : TableState) → row_of n t k ≡ self → IsRowWalk space page n t t k k result
    → IsWalk space page self result self
still-walk space page n t k result self view r = let P : TableState → Type 0 = λ s. IsWalk space page s result s in subst P view r.walks

pub seen-fence : (to : Reach) (n count : ℕ) (t : TreapView) (k left : Cached Range) (self : TableState) → row_of n t k ≡ self → IsRowFence to n count t k left → IsFence to self count (row_of n t left)
seen-fence to n count t k left self view r = let P : TableState → Type 0 = λ s. IsFence to s count (row_of n t left) in subst P view r.fences

-- What is no range is none.
pub none-of : (o : Option Range) → ((r : Range) → o ≡ Some r → ⊥) → o ≡ None
none-of None h = refl
none-of (Some r) h = absurd (h r refl)

-- A range that a treap can hold can be kept in the range TLB.
pub keepable : (page : ℕ) (r : Range) → IsAt page r → IsKeepable r
keepable page r at = record { some = at.fit.some; space_in = at.fit.space_in; pages_in = at.fit.pages_in; frames_in = at.fit.frames_in }

-- A leaf of 4 KiB, as its word.
pub small-at : (space page : ℕ) (r : Range) → r.order ≡ order.K4 → r.start ≤ page → r.space ≡ space → small_leaf space page ((r.frame + (page - r.start)) * 16 + perm_code r.perm) ≡ leaf_in page r
small-at space page r o from own =
    let skip : (page - r.start) / pages_of r.order * pages_of r.order ≡ page - r.start = rw o (omega arith) in
    let first : page / 1 * 1 ≡ r.start + (page - r.start) = omega arith in
    rw (own, skip, o, first, frame-back (r.frame + (page - r.start)) r.perm, perm-back (r.frame + (page - r.start)) r.perm) refl

pub small-walk : (space page hits code : ℕ) (r : Range) → r.order ≡ order.K4 → r.start ≤ page → r.space ≡ space → code ≡ perm_code r.perm
    → (let w : Walk = record { leaf = Some (small_leaf space page ((r.frame + (page - r.start)) * 16 + code)); cache_hits = hits } in w) ≡ record { leaf = Some (leaf_in page r); cache_hits = hits }
small-walk space page hits code r o from own e =
    let walk : Leaf → Walk = λ x. record { leaf = Some x; cache_hits = hits } in
    ap (λ (n : ℕ). walk (small_leaf space page ((r.frame + (page - r.start)) * 16 + n))) e ∙ ap walk (small-at space page r o from own)

-- A range that is found is one of the space.
pub found-own : (space page : ℕ) (r : Range) (rs : List Range) → Some r ≡ find (holds_page space page) rs → r.space ≡ space
found-own space page r rs e = holds-own space page r (find-passes (holds_page space page) r rs (sym e))

-- The walk of a page, as its result says it.
pub page-walk : (space page : ℕ) (said w : Walk) (old new : TableState) → said ≡ w → IsWalk space page old w new → IsWalk space page old said new
page-walk space page said w old new e walks = let P : Walk → Type 0 = λ x. IsWalk space page old x new in subst P (sym e) walks
