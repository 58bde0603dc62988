-- The results of a change, a walk and a fence of the table.
use Rattle.xl_range.proofs.Common.{◌&&◌, ◌*◌, ◌+◌, ◌-◌, ◌/◌, ◌<◌, ◌==◌, ◌^◌, ◌∙◌, ◌∷◌, ◌≡◌, ◌≤◌, [], after_by, AllFresh, answer_by, ap, arith, Bool, brought, Cached, caches_purged, Change, changed, cond, covers, cut, entries_in, Err, false, filter, find, find-In, find-passes, finds_place, has_room, HasLeaf, HasRanges, holds_first, holds_page, Insert, IsBlock, IsChange, IsClear, IsDone, IsFit, IsHeld, IsLeafFor, IsNamed, IsRow, IsTable, keeping, Leaf, leaf_at_page, leaf_in, leaf_key, leaf_named, length, List, Made, meets_any, moves_made, narrowed, nat_le, nat_lt, nat_tests, None, NoSpace, Ok, old_leaf, Option, Order, pages_of, Perm, Protect, purged, purged-In, Range, range_of_leaf, RangeCache, ranges_of, refl, Relocate, Remove, Result, row_of, Runs, Shape, shape_after, Some, spread, subst, sym, table_after, table_answer, table_made, TableState, TreapView, true, Verdict, verdict, widened, with_leaf, without_items, without_leaf, work_of, ℕ}
use Rattle.xl_model.specs.Placing.{no_moves}
use Rattle.xl_model.specs.declared.work.Refused.{Refused}
use Rattle.xl_model.specs.declared.work.Work.{Work}
use Rattle.xl_range.proofs.FindLemmas.{IsNamedIn, named-range}
use Rattle.xl_range.proofs.LeafChangeLemmas.{finds-with, remove-changed, room-few}
use Rattle.xl_range.proofs.MoveStepLemmas.{given-leaves, is-that, IsMoving, IsThat, moved-leaves, moving}
use Rattle.xl_range.proofs.RunLemmas.{ranges-spread}
use Rattle.xl_range.proofs.SpreadLeafLemmas.{clear-covers, clear-key}
use Rattle.xl_range.proofs.StepLemmas.{CanPutLeaf, cut-can, cut-ranges, insert-clear}
use Rattle.xl_model.specs.declared.address.Order.TheVariants as order
use Rattle.xl_model.specs.declared.work.NoRoom.TheVariants as why

-- A leaf put in where no leaf is.
put-fresh : (leaf : Leaf) (rs items : List Range) → IsHeld 0 rs → IsClear (range_of_leaf leaf) rs → AllFresh (spread rs) items → AllFresh (with_leaf leaf (spread rs)) items
unfolding leaf_at_page
put-fresh leaf rs items h clear fresh r i = (
  (fresh r i).0,
  λ page t.
      let old : find (covers r.space page) (spread rs) ≡ Some (leaf_in page r) = (fresh r i).1 page t in
      let p : Leaf → Bool = covers r.space page in
      let out : covers r.space page leaf ≡ false = clear-covers r.space page leaf (leaf_in page r) rs h clear (find-In p (leaf_in page r) (spread rs) old) (find-passes p (leaf_in page r) (spread rs) old) in
      finds-with p leaf (spread rs) out (λ z j. clear-key leaf z rs h clear j) ∙ old,
)

-- a leaf that stays is found as before
find-filter : (p q : Leaf → Bool) (x : Leaf) (xs : List Leaf) → find p xs ≡ Some x → q x ≡ true → find p (filter q xs) ≡ Some x
find-filter p q x [] e t = e
find-filter p q x (y ∷ ys) e t =
    elim (p y) as (λ b. p y ≡ b → cond b (Some y) (find p ys) ≡ Some x → find p (filter q (y ∷ ys)) ≡ Some x) [
      | true ↦ λ u f.
          let same : y ≡ x = cc in
          let v : q y ≡ true = subst (λ (z : Leaf). q z ≡ true) (sym same) t in
          rw (v, u) f
      | false ↦ λ u f. elim (q y) as (λ b. find p (cond b (y ∷ filter q ys) (filter q ys)) ≡ Some x) [
        | true ↦ rw u (find-filter p q x ys f t)
        | false ↦ find-filter p q x ys f t
      ]
    ] refl e

skipped-le : (o : Order) (a : ℕ) → a / pages_of o * pages_of o ≤ a
skipped-le order.K4 a = omega arith
skipped-le order.M2 a = omega arith
skipped-le order.G1 a = omega arith

key-apart : (a b f first start pages : ℕ) → f < 2 ^ 52 → first < 2 ^ 52 → start ≤ f → f < start + pages
    → ((a == b) && (nat_le start first && nat_lt first (start + pages))) ≡ false → (a * 2 ^ 52 + f == b * 2 ^ 52 + first) ≡ false
key-apart a b f first start pages fs small low high out =
    elim (a * 2 ^ 52 + f == b * 2 ^ 52 + first) as (λ t. (a * 2 ^ 52 + f == b * 2 ^ 52 + first) ≡ t → t ≡ false) [
      | true ↦ λ t.
          let e : a * 2 ^ 52 + f ≡ b * 2 ^ 52 + first = grind (arith, nat_tests) in
          let s : a ≡ b = omega arith in
          let g : f ≡ first = omega arith in
          let x : (a == b) ≡ true = grind (arith, nat_tests) in
          let y : nat_le start first ≡ true = grind (arith, nat_tests) in
          let z : nat_lt first (start + pages) ≡ true = grind (arith, nat_tests) in
          let w : true ≡ false = rw (x, y, z) at out in
          absurd (cc)
      | false ↦ λ t. refl
    ] refl

other-leaf : (space first page : ℕ) (r : Range) → IsFit r → first < 2 ^ 52 → holds_page r.space page r ≡ true → holds_page space first r ≡ false
    → (leaf_key (leaf_in page r) == space * 2 ^ 52 + first) ≡ false
other-leaf space first page r fit small h out =
    let low : r.start ≤ page = grind (arith, nat_tests) in
    let high : page < r.start + r.pages = grind (arith, nat_tests) in
    let le = skipped-le r.order (page - r.start) in
    let limit = fit.pages_in in
    key-apart r.space space (r.start + (page - r.start) / pages_of r.order * pages_of r.order) first r.start r.pages (omega arith) small (omega arith) (omega arith) out

-- A leaf taken out, and what is cached of its first page purged.
pub taken-fresh : (space first : ℕ) (leaves : List Leaf) (items : List Range) → first < 2 ^ 52 → AllFresh leaves items → AllFresh (without_leaf space first leaves) (purged (holds_page space first) items)
unfolding leaf_at_page without_leaf
taken-fresh space first leaves items small fresh r i =
    let here = purged-In (holds_page space first) r items i in
    let known = fresh r here.0 in (
      known.0,
      λ page t.
          let key : (leaf_key (leaf_in page r) == space * 2 ^ 52 + first) ≡ false = other-leaf space first page r known.0 small t here.1 in
          let q : Leaf → Bool = λ leaf. cond (leaf_key leaf == space * 2 ^ 52 + first) false true in
          let stays : q (leaf_in page r) ≡ true = rw key refl in
          find-filter (covers r.space page) q (leaf_in page r) leaves (known.1 page t) stays,
    )

pub remove-fresh : (space first : ℕ) (o : Order) (n : ℕ) (t : TreapView) (r : Range) (items : List Range) → IsTable n t → HasLeaf space first o t.kept r → first < 2 ^ 52
    → AllFresh (spread t.kept) items → AllFresh (changed (Remove space first o) (spread t.kept)) (purged (holds_page space first) items)
remove-fresh space first o n t r items whole k low fresh =
    let P : List Leaf → Type 0 = λ xs. AllFresh xs (purged (holds_page space first) items) in
    subst P (sym (remove-changed space first o (leaf_in first r) (spread t.kept) k.named)) (taken-fresh space first (spread t.kept) items low fresh)

pub insert-fresh : (leaf : Leaf) (n : ℕ) (t : TreapView) (items : List Range) → IsTable n t → IsClear (range_of_leaf leaf) t.kept → AllFresh (spread t.kept) items → AllFresh (changed (Insert leaf) (spread t.kept)) items
unfolding changed
insert-fresh leaf n t items whole clear fresh = put-fresh leaf t.kept items whole.held clear fresh

pub protect-fresh : (space first : ℕ) (o : Order) (perm : Perm) (n : ℕ) (t : TreapView) (r : Range) (items : List Range) → IsTable n t → HasLeaf space first o t.kept r → first < 2 ^ 52
    → AllFresh (spread t.kept) items → AllFresh (changed (Protect space first o perm) (spread t.kept)) (purged (holds_page space first) items)
protect-fresh space first o perm n t r items whole k low fresh =
    let l : Leaf = leaf_in first r in
    let p : CanPutLeaf n (keeping t (cut first o r t.kept)) (record l { perm = perm }) = cut-can space first o n t (keeping t (cut first o r t.kept)) r perm l whole k refl refl in
    let P : List Leaf → Type 0 = λ xs. AllFresh xs (purged (holds_page space first) items) in
    let less : AllFresh (spread (cut first o r t.kept)) (purged (holds_page space first) items) =
    subst P (sym (cut-ranges space first o r t.kept whole.held k).leaves_are) (taken-fresh space first (spread t.kept) items low fresh) in
    subst P (sym (given-leaves space first o perm t r l whole.held k refl)) (put-fresh (record l { perm = perm }) (cut first o r t.kept) (purged (holds_page space first) items) p.held p.clear less)

pub relocate-fresh : (space first to : ℕ) (o : Order) (n : ℕ) (t : TreapView) (new : Leaf) (items : List Range) → IsMoving space first to o n t new → first < 2 ^ 52
    → AllFresh (spread t.kept) items → AllFresh (changed (Relocate space first to o) (spread t.kept)) (purged (holds_page space first) items)
relocate-fresh space first to o n t new items m low fresh =
    let P : List Leaf → Type 0 = λ xs. AllFresh xs (purged (holds_page space first) items) in
    subst P (sym (moved-leaves space first to o n t new m)) (taken-fresh space first (with_leaf new (spread t.kept)) items low (put-fresh new t.kept items m.whole.held m.clear fresh))

-- What the definitions purge is what holds the first page of the leaf that is named.
pub first-purged : (space first : ℕ) (o : Order) (x : Leaf) (leaves : List Leaf) (k : Cached Range) → leaf_named space first o leaves ≡ Some x
    → without_items (holds_first (leaf_named space first o leaves)) k ≡ without_items (holds_page space first) k
first-purged space first o x leaves k e =
    let t : IsThat space first o x = is-that space first o x leaves e in
    ap (λ (q : Option Leaf). without_items (holds_first q) k) e
    ∙ ap (λ (s : ℕ). without_items (holds_page s x.first) k) t.space_same
    ∙ ap (λ (f : ℕ). without_items (holds_page space f) k) t.first_same

nothing-first : (items : List Range) → purged (holds_first None) items ≡ items
nothing-first [] = refl
nothing-first (r ∷ rs) = ap (λ (xs : List Range). r ∷ xs) (nothing-first rs)

pub none-purged : (k : Cached Range) → without_items (holds_first None) k ≡ k
none-purged k = ap (λ (xs : List Range). record k { items = xs }) (nothing-first k.items)

finds-any : (n : ℕ) (o : Option Leaf) → finds_place o (Runs n) ≡ true
finds-any n None = refl
finds-any n (Some l) = refl

no-moves : (n : ℕ) (o : Option Leaf) → moves_made o (Runs n) ≡ no_moves
no-moves n None = refl
no-moves n (Some l) = refl

widened-runs : (n : ℕ) (o : Option Leaf) → widened o (Runs n) ≡ Runs n
widened-runs n None = refl
widened-runs n (Some l) = refl

shape-runs : (n : ℕ) (c : Change) (leaves : List Leaf) → shape_after c leaves (Runs n) ≡ Runs n
unfolding shape_after
shape-runs n c leaves = ap (narrowed c leaves) (widened-runs n (brought c leaves))

unfoldable pub purged_row : Change → List Leaf → Cached Range → Cached Range
purged_row c leaves k = without_items (holds_first (old_leaf c leaves)) k

caches-runs : (n : ℕ) (c : Change) (leaves : List Leaf) (k : Cached Range) → caches_purged c leaves (Runs n) (Runs n) (RangeCache k) ≡ RangeCache (purged_row c leaves k)
unfolding caches_purged purged_row
caches-runs n c leaves k = refl

-- a change that is made
pub record IsMade (c : Change) (n : ℕ) (t new : TreapView) (k : Cached Range) (w : Work) : Type 0 where
  pub answer : table_answer c (row_of n t k) ≡ Ok w
  pub after : table_after c (row_of n t k) ≡ row_of n new (purged_row c (spread t.kept) k)

made-state : (c : Change) (n : ℕ) (t new : TreapView) (k : Cached Range) → changed c (spread t.kept) ≡ spread new.kept → new.loads ≡ t.loads
    → table_made c (row_of n t k) ≡ row_of n new (purged_row c (spread t.kept) k)
unfolding table_made
made-state c n t new k leaves loads =
    let of : List Leaf → Shape → ℕ → TableState = λ ls s q. record { leaves = ls; shape = s; caches = caches_purged c (spread t.kept) (Runs n) s (RangeCache k); loads = q } in
    ap (λ (ls : List Leaf). of ls (shape_after c (spread t.kept) (Runs n)) t.loads) leaves
    ∙ ap (λ (s : Shape). of (spread new.kept) s t.loads) (shape-runs n c (spread t.kept))
    ∙ ap (λ (q : ℕ). of (spread new.kept) (Runs n) q) (sym loads)
    ∙ ap (λ q. let s : TableState = record { leaves = spread new.kept; shape = Runs n; caches = q; loads = new.loads } in s) (caches-runs n c (spread t.kept) k)

is-made : (c : Change) (n : ℕ) (t : TreapView) (k : Cached Range) → has_room c (spread t.kept) (Runs n) ≡ true → verdict c (row_of n t k) ≡ Made
unfolding verdict
is-made c n t k room = rw (room, finds-any n (brought c (spread t.kept))) refl

pub made : (c : Change) (n : ℕ) (t new : TreapView) (k : Cached Range) → has_room c (spread t.kept) (Runs n) ≡ true
    → changed c (spread t.kept) ≡ spread new.kept → new.loads ≡ t.loads
    → IsMade c n t new k (work_of no_moves (length k.items - length (purged_row c (spread t.kept) k).items))
unfolding table_answer table_after
made c n t new k room leaves loads =
    let v : verdict c (row_of n t k) ≡ Made = is-made c n t k room in
    let s : table_made c (row_of n t k) ≡ row_of n new (purged_row c (spread t.kept) k) = made-state c n t new k leaves loads in
    record {
      answer = ap (λ (v : Verdict). answer_by v c (row_of n t k)) v
          ∙ ap (λ m. Ok (work_of m (length k.items - entries_in (table_made c (row_of n t k)).caches))) (no-moves n (brought c (spread t.kept)))
          ∙ ap (λ (x : TableState). Ok (work_of no_moves (length k.items - entries_in x.caches))) s;
      after = ap (λ (v : Verdict). after_by v c (row_of n t k)) v ∙ s;
    }

is-refused : (c : Change) (n : ℕ) (t : TreapView) (k : Cached Range) → has_room c (spread t.kept) (Runs n) ≡ false → verdict c (row_of n t k) ≡ NoSpace
unfolding verdict
is-refused c n t k room = rw room refl

-- A change of the row: what it keeps, returns and leaves.
pub record IsRowChange (c : Change) (n : ℕ) (t new : TreapView) (k left : Cached Range) (result : Result Work Refused) : Type 0 where
  pub row : IsRow n new left
  pub changes : IsChange c (row_of n t k) result (row_of n new left)

whole-rest : (n : ℕ) (t new : TreapView) → IsTable n t → new ≡ keeping t new.kept → IsHeld 0 new.kept → length new.kept ≤ n → IsTable n new
whole-rest n t new whole e held few =
    let a : new.nodes ≡ t.nodes = ap (λ (v : TreapView). v.nodes) e in
    let b : new.loads ≡ t.loads = ap (λ (v : TreapView). v.loads) e in
    let d = whole.nodes in
    let f = whole.loads_in in
    record { held = held; few = few; nodes = omega arith; loads_in = omega arith }

-- A change that is made, with what it purges.
pub change-made : (c : Change) (n : ℕ) (t new : TreapView) (k left : Cached Range) (b : Bool) (w : Work) → IsRow n t k → IsDone c n t b new → b ≡ true
    → left ≡ without_items (holds_first (old_leaf c (spread t.kept))) k → w ≡ work_of no_moves (length k.items - length left.items) → AllFresh (changed c (spread t.kept)) left.items
    → IsRowChange c n t new k left (Ok w)
unfolding purged_row
change-made c n t new k left b w row done now is work fresh =
    let h : HasRanges (changed c (spread t.kept)) t new = done.made now in
    let has : has_room c (spread t.kept) (Runs n) ≡ true = sym done.room ∙ now in
    let same : ranges_of (changed c (spread t.kept)) ≡ new.kept = ap ranges_of (sym h.leaves) ∙ ranges-spread 0 new.kept h.held in
    let few : length (ranges_of (changed c (spread t.kept))) ≤ n = room-few c (spread t.kept) n has in
    let F : List Leaf → Type 0 = λ xs. AllFresh xs left.items in
    let loads : new.loads ≡ t.loads = ap (λ (v : TreapView). v.loads) h.rest in
    let m = made c n t new k has (sym h.leaves) loads in
    record {
      row = record { whole = whole-rest n t new row.whole h.rest h.held (subst (λ (rs : List Range). length rs ≤ n) same few); fresh = subst F (sym h.leaves) fresh };
      changes = record {
        answer = ap Ok (work ∙ ap (λ (x : Cached Range). work_of no_moves (length k.items - length x.items)) is) ∙ sym m.answer;
        after = ap (row_of n new) is ∙ sym m.after;
      };
    }

-- A change for which there is no room.
pub change-refused : (c : Change) (n : ℕ) (t new : TreapView) (k : Cached Range) (b : Bool) (w : Refused) → IsRow n t k → IsDone c n t b new → b ≡ false
    → w ≡ record { why = why.NoTable; work = work_of no_moves 0 } → IsRowChange c n t new k k (Err w)
unfolding table_answer table_after
change-refused c n t new k b w row done not_made is =
    let e : new ≡ t = done.same not_made in
    let v : verdict c (row_of n t k) ≡ NoSpace = is-refused c n t k (sym done.room ∙ not_made) in
    record {
      row = subst (λ (x : TreapView). IsRow n x k) (sym e) row;
      changes = record {
        answer = ap Err is ∙ sym (ap (λ (v : Verdict). answer_by v c (row_of n t k)) v);
        after = ap (λ (x : TreapView). row_of n x k) e ∙ sym (ap (λ (v : Verdict). after_by v c (row_of n t k)) v);
      };
    }

-- The four changes, where they are made.
pub insert-made : (leaf : Leaf) (n : ℕ) (t new : TreapView) (k : Cached Range) (b : Bool) (w : Work) → IsRow n t k → IsLeafFor (Runs n) leaf → meets_any leaf.space leaf.first leaf.order (spread t.kept) ≡ false
    → IsDone (Insert leaf) n t b new → b ≡ true → w ≡ work_of no_moves 0 → IsRowChange (Insert leaf) n t new k k (Ok w)
insert-made leaf n t new k b w row valid free done now work =
    let none : 0 ≡ length k.items - length k.items = omega arith in
    change-made (Insert leaf) n t new k k b w row done now (sym (none-purged k)) (work ∙ ap (work_of no_moves) none)
    (insert-fresh leaf n t k.items row.whole (insert-clear n t leaf row.whole valid free) row.fresh)

items-are : (space first : ℕ) (leaves : List Leaf) (k left : Cached Range) → left ≡ without_items (holds_page space first) k → AllFresh leaves (purged (holds_page space first) k.items) → AllFresh leaves left.items
items-are space first leaves k left is fresh = let P : Cached Range → Type 0 = λ x. AllFresh leaves x.items in subst P (sym is) fresh

pub remove-made : (space first : ℕ) (o : Order) (n : ℕ) (t new : TreapView) (k left : Cached Range) (b : Bool) (w : Work) → IsRow n t k → IsNamed space first o (spread t.kept)
    → IsDone (Remove space first o) n t b new → b ≡ true → left ≡ without_items (holds_page space first) k → w ≡ work_of no_moves (length k.items - length left.items)
    → IsRowChange (Remove space first o) n t new k left (Ok w)
remove-made space first o n t new k left b w row named done now is work =
    let r : IsNamedIn space first o t.kept = named-range space first o t.kept row.whole.held named in
    change-made (Remove space first o) n t new k left b w row done now (is ∙ sym (first-purged space first o (leaf_in first r.range) (spread t.kept) k r.has.named)) work
    (items-are space first (changed (Remove space first o) (spread t.kept)) k left is (remove-fresh space first o n t r.range k.items row.whole r.has r.first_in row.fresh))

pub protect-made : (space first : ℕ) (o : Order) (perm : Perm) (n : ℕ) (t new : TreapView) (k left : Cached Range) (b : Bool) (w : Work) → IsRow n t k → IsNamed space first o (spread t.kept)
    → IsDone (Protect space first o perm) n t b new → b ≡ true → left ≡ without_items (holds_page space first) k → w ≡ work_of no_moves (length k.items - length left.items)
    → IsRowChange (Protect space first o perm) n t new k left (Ok w)
protect-made space first o perm n t new k left b w row named done now is work =
    let r : IsNamedIn space first o t.kept = named-range space first o t.kept row.whole.held named in
    change-made (Protect space first o perm) n t new k left b w row done now (is ∙ sym (first-purged space first o (leaf_in first r.range) (spread t.kept) k r.has.named)) work
    (items-are space first (changed (Protect space first o perm) (spread t.kept)) k left is (protect-fresh space first o perm n t r.range k.items row.whole r.has r.first_in row.fresh))

pub relocate-made : (space first to : ℕ) (o : Order) (n : ℕ) (t new : TreapView) (k left : Cached Range) (b : Bool) (w : Work) → IsRow n t k → IsNamed space first o (spread t.kept) → IsBlock (Runs n) space to o
    → meets_any space to o (spread t.kept) ≡ false
    → IsDone (Relocate space first to o) n t b new → b ≡ true → left ≡ without_items (holds_page space first) k → w ≡ work_of no_moves (length k.items - length left.items)
    → IsRowChange (Relocate space first to o) n t new k left (Ok w)
relocate-made space first to o n t new k left b w row named block free done now is work =
    let r : IsNamedIn space first o t.kept = named-range space first o t.kept row.whole.held named in
    let l : Leaf = leaf_in first r.range in
    let m : IsMoving space first to o n t (record l { first = to }) = moving space first to o n t r.range l row.whole r.has refl block free in
    change-made (Relocate space first to o) n t new k left b w row done now (is ∙ sym (first-purged space first o l (spread t.kept) k r.has.named)) work
    (items-are space first (changed (Relocate space first to o) (spread t.kept)) k left is (relocate-fresh space first to o n t (record l { first = to }) k.items m r.first_in row.fresh))

-- What is known of the table, as it is seen, is known of its leaves.
pub seen-change : (c : Change) (n : ℕ) (t new : TreapView) (k left : Cached Range) (result : Result Work Refused) (self : TableState) → row_of n t k ≡ self → IsRowChange c n t new k left result
    → IsChange c self result (row_of n new left)
seen-change c n t new k left result self view r = let P : TableState → Type 0 = λ s. IsChange c s result (row_of n new left) in subst P view r.changes

pub seen-named : (space first : ℕ) (o : Order) (n : ℕ) (t : TreapView) (k : Cached Range) (self : TableState) → row_of n t k ≡ self → IsNamed space first o self.leaves → IsNamed space first o (spread t.kept)
seen-named space first o n t k self view named = let P : TableState → Type 0 = λ s. IsNamed space first o s.leaves in subst P (sym view) named

pub seen-free : (space first : ℕ) (o : Order) (n : ℕ) (t : TreapView) (k : Cached Range) (self : TableState) → row_of n t k ≡ self → meets_any space first o self.leaves ≡ false → meets_any space first o (spread t.kept) ≡ false
seen-free space first o n t k self view free = let P : TableState → Type 0 = λ s. meets_any space first o s.leaves ≡ false in subst P (sym view) free

pub seen-block : (space first : ℕ) (o : Order) (n : ℕ) (t : TreapView) (k : Cached Range) (self : TableState) → row_of n t k ≡ self → IsBlock self.shape space first o → IsBlock (Runs n) space first o
seen-block space first o n t k self view block = let P : TableState → Type 0 = λ s. IsBlock s.shape space first o in subst P (sym view) block

pub seen-leaf : (leaf : Leaf) (n : ℕ) (t : TreapView) (k : Cached Range) (self : TableState) → row_of n t k ≡ self → IsLeafFor self.shape leaf → IsLeafFor (Runs n) leaf
seen-leaf leaf n t k self view valid = let P : TableState → Type 0 = λ s. IsLeafFor s.shape leaf in subst P (sym view) valid
