-- The result of each change but a move, for a table of chains that keeps one leaf for each entry.
use Rattle.xl_model_table.proofs.Common.{◌+◌, ◌<◌, ◌^◌, ◌∙◌, ◌≡◌, ◌≤◌, after_by, answer_by, ap, arith, brought, Chained, chains_reads, Change, changed, Err, false, fence_answer, finds_place, has_room, in_front, Insert, IsBlock, IsChange, IsFence, IsKept, IsNamed, IsPlaced, IsWalk, Leaf, leaf_at_page, leaf_tag, length, List, Made, map, mapping_of, meets_any, moves_made, nat_le, nat_tests, None, Ok, only_used_tags, Option, Order, orders_tried, Perm, Protect, refl, Refused, Remove, Result, shape_after, Some, subst, suc, sym, table_after, table_answer, table_fenced, table_made, table_of, table_walked, TableState, true, verdict, verdict_by, walk_answer, walked, with_leaf, with_perm_named, with_tag, without_named, Work, work_of, ℕ}
use Rattle.xl_model.specs.Addresses.{pages_of}
use Rattle.xl_model.specs.Base.{plus}
use Rattle.xl_model.specs.Caches.{caches_fenced, caches_purged, NoCaches}
use Rattle.xl_model.specs.Placing.{no_moves}
use Rattle.xl_model.specs.declared.event.Reach.{Reach}
use Rattle.xl_model.specs.declared.work.Walk.{Walk}
use Rattle.xl_model_table.proofs.FrontLemmas.{IsNew, kept-front, length-front, mapping-front}
use Rattle.xl_model_table.proofs.GivenLemmas.{mapping-protected}
use Rattle.xl_model_table.proofs.ReadLemmas.{is-new, Named, named-of}
use Rattle.xl_model_table.proofs.TagLemmas.{all-used, length-tags, used-protected, used-without, with-tag}
use Rattle.xl_model_table.proofs.WithoutLemmas.{mapping-without}
use Rattle.xl_model.specs.declared.address.Order.TheVariants as order
use Rattle.xl_model.specs.declared.work.NoRoom.TheVariants as why

-- a table with chains and without caches
abbrev pub state : ℕ → ℕ → ℕ → List Leaf → List ℕ → TableState
state b e l leaves tags = record { leaves = leaves; shape = Chained 1 b e tags; caches = NoCaches; loads = l }

abbrev pub done : Result Work Refused
done = Ok (record { kicks = 0; undone = 0; migrated = 0; growths = 0; invalidated = 0 })

abbrev pub full : Result Work Refused
full = Err (record { why = why.NoTable; work = record { kicks = 0; undone = 0; migrated = 0; growths = 0; invalidated = 0 } })

made-table : (b e l : ℕ) (c : Change) (leaves leaves' : List Leaf) (tags tags' : List ℕ)
    → changed c leaves ≡ leaves' → shape_after c leaves (Chained 1 b e tags) ≡ Chained 1 b e tags'
    → table_made c (state b e l leaves tags) ≡ state b e l leaves' tags'
unfolding table_made caches_purged
made-table b e l c leaves leaves' tags tags' same shape = rw (same, shape) refl

made-answer : (b e l : ℕ) (c : Change) (leaves leaves' : List Leaf) (tags tags' : List ℕ) (brings : Option Leaf)
    → brought c leaves ≡ brings → moves_made brings (Chained 1 b e tags) ≡ no_moves
    → table_made c (state b e l leaves tags) ≡ state b e l leaves' tags'
    → answer_by Made c (state b e l leaves tags) ≡ done
made-answer b e l c leaves leaves' tags tags' brings same moves table = rw (same, moves, table) refl

-- a change that is made, and one for which there is no room
pub made : (b e l : ℕ) (c : Change) (leaves leaves' : List Leaf) (tags tags' : List ℕ) (brings : Option Leaf)
    → brought c leaves ≡ brings → moves_made brings (Chained 1 b e tags) ≡ no_moves → finds_place brings (Chained 1 b e tags) ≡ true
    → has_room c leaves (Chained 1 b e tags) ≡ true
    → changed c leaves ≡ leaves' → shape_after c leaves (Chained 1 b e tags) ≡ Chained 1 b e tags'
    → IsChange c (state b e l leaves tags) done (state b e l leaves' tags')
unfolding table_answer table_after verdict
made b e l c leaves leaves' tags tags' brings same moves found room change shape =
    let t : TableState = state b e l leaves tags in
    let place : finds_place (brought c leaves) (Chained 1 b e tags) ≡ true = ap (λ o. finds_place o (Chained 1 b e tags)) same ∙ found in
    let table : table_made c t ≡ state b e l leaves' tags' = made-table b e l c leaves leaves' tags tags' change shape in
    record {
      answer = sym (ap (λ v. answer_by (verdict_by v (finds_place (brought c leaves) (Chained 1 b e tags))) c t) room
          ∙ ap (λ v. answer_by (verdict_by true v) c t) place
          ∙ made-answer b e l c leaves leaves' tags tags' brings same moves table);
      after = sym (ap (λ v. after_by (verdict_by v (finds_place (brought c leaves) (Chained 1 b e tags))) c t) room
          ∙ ap (λ v. after_by (verdict_by true v) c t) place
          ∙ table);
    }

pub refused : (b e l : ℕ) (c : Change) (leaves : List Leaf) (tags : List ℕ) → has_room c leaves (Chained 1 b e tags) ≡ false
    → IsChange c (state b e l leaves tags) full (state b e l leaves tags)
unfolding table_answer table_after verdict
refused b e l c leaves tags room =
    let t : TableState = state b e l leaves tags in
    record {
      answer = sym (ap (λ v. answer_by (verdict_by v (finds_place (brought c leaves) (Chained 1 b e tags))) c t) room);
      after = sym (ap (λ v. after_by (verdict_by v (finds_place (brought c leaves) (Chained 1 b e tags))) c t) room);
    }

-- a leaf that comes
with-count : (b : ℕ) (x : Leaf) (xs : List Leaf) → IsKept xs → IsPlaced x → IsNew x xs → length (with_tag b (leaf_tag 1 x) (map (leaf_tag 1) xs)) ≡ suc (length xs)
with-count b x xs k at new = ap length (with-tag b x xs k at new) ∙ length-tags (in_front b x xs) ∙ length-front b x xs

pub has-room : (b e : ℕ) (x : Leaf) (xs : List Leaf) → IsKept xs → IsPlaced x → IsNew x xs → length xs < e → nat_le (length (with_tag b (leaf_tag 1 x) (map (leaf_tag 1) xs))) e ≡ true
has-room b e x xs k at new h =
    let n = with-count b x xs k at new in ap (λ m. nat_le m e) n ∙ le-true (suc (length xs)) e (omega arith)
  where
    le-true : (m n : ℕ) → m ≤ n → nat_le m n ≡ true
    le-true m n h = grind (arith, nat_tests)

pub no-room : (b e : ℕ) (x : Leaf) (xs : List Leaf) → IsKept xs → IsPlaced x → IsNew x xs → e ≤ length xs → nat_le (length (with_tag b (leaf_tag 1 x) (map (leaf_tag 1) xs))) e ≡ false
no-room b e x xs k at new h =
    let n = with-count b x xs k at new in ap (λ m. nat_le m e) n ∙ le-false (suc (length xs)) e (omega arith)
  where
    le-false : (m n : ℕ) → n < m → nat_le m n ≡ false
    le-false m n h = grind (arith, nat_tests)

inserted-shape : (b e : ℕ) (x : Leaf) (xs : List Leaf) → IsKept xs → IsPlaced x → IsNew x xs
    → shape_after (Insert x) (mapping_of xs) (Chained 1 b e (map (leaf_tag 1) xs)) ≡ Chained 1 b e (map (leaf_tag 1) (in_front b x xs))
unfolding shape_after changed
inserted-shape b e x xs k at new =
    ap (λ ts. Chained 1 b e (only_used_tags 1 (with_leaf x (mapping_of xs)) ts)) (with-tag b x xs k at new)
    ∙ ap (λ m. Chained 1 b e (only_used_tags 1 m (map (leaf_tag 1) (in_front b x xs)))) (mapping-front b x xs k at new)
    ∙ ap (Chained 1 b e) (all-used (in_front b x xs) (kept-front b x xs k at new))

inserted-leaves : (b : ℕ) (x : Leaf) (xs : List Leaf) → IsKept xs → IsPlaced x → IsNew x xs → changed (Insert x) (mapping_of xs) ≡ mapping_of (in_front b x xs)
unfolding changed
inserted-leaves b x xs k at new = mapping-front b x xs k at new

pub inserted : (b e l : ℕ) (x : Leaf) (xs : List Leaf) → IsKept xs → IsPlaced x → IsNew x xs → length xs < e
    → IsChange (Insert x) (table_of b e l xs) done (table_of b e l (in_front b x xs))
unfolding has_room
inserted b e l x xs k at new h =
    made b e l (Insert x) (mapping_of xs) (mapping_of (in_front b x xs)) (map (leaf_tag 1) xs) (map (leaf_tag 1) (in_front b x xs)) (Some x)
    refl refl refl (has-room b e x xs k at new h) (inserted-leaves b x xs k at new) (inserted-shape b e x xs k at new)

pub not-inserted : (b e l : ℕ) (x : Leaf) (xs : List Leaf) → IsKept xs → IsPlaced x → IsNew x xs → e ≤ length xs → IsChange (Insert x) (table_of b e l xs) full (table_of b e l xs)
unfolding has_room
not-inserted b e l x xs k at new h = refused b e l (Insert x) (mapping_of xs) (map (leaf_tag 1) xs) (no-room b e x xs k at new h)

removed-leaves : (s f : ℕ) (o : Order) (xs : List Leaf) → IsKept xs → Named s f o xs → changed (Remove s f o) (mapping_of xs) ≡ mapping_of (without_named s f o xs)
unfolding changed
removed-leaves s f o xs k n = rw n.named (mapping-without s f o n.old xs k n.there n.is)

removed-shape : (b e s f : ℕ) (o : Order) (xs : List Leaf) → IsKept xs → Named s f o xs
    → shape_after (Remove s f o) (mapping_of xs) (Chained 1 b e (map (leaf_tag 1) xs)) ≡ Chained 1 b e (map (leaf_tag 1) (without_named s f o xs))
unfolding shape_after
removed-shape b e s f o xs k n =
    ap (λ m. Chained 1 b e (only_used_tags 1 m (map (leaf_tag 1) xs))) (removed-leaves s f o xs k n)
    ∙ ap (Chained 1 b e) (used-without s f o xs k)

pub removed : (b e l s f : ℕ) (o : Order) (xs : List Leaf) → IsKept xs → Named s f o xs → IsChange (Remove s f o) (table_of b e l xs) done (table_of b e l (without_named s f o xs))
unfolding has_room
removed b e l s f o xs k n =
    made b e l (Remove s f o) (mapping_of xs) (mapping_of (without_named s f o xs)) (map (leaf_tag 1) xs) (map (leaf_tag 1) (without_named s f o xs)) None
    refl refl refl refl (removed-leaves s f o xs k n) (removed-shape b e s f o xs k n)

-- a leaf with another permission
protected-leaves : (s f : ℕ) (o : Order) (perm : Perm) (xs : List Leaf) → IsKept xs → Named s f o xs → changed (Protect s f o perm) (mapping_of xs) ≡ mapping_of (with_perm_named s f o perm xs)
unfolding changed
protected-leaves s f o perm xs k n = rw n.named (mapping-protected s f o perm n.old xs k n.there n.is)

protected-shape : (b e s f : ℕ) (o : Order) (perm : Perm) (xs : List Leaf) → IsKept xs → Named s f o xs
    → shape_after (Protect s f o perm) (mapping_of xs) (Chained 1 b e (map (leaf_tag 1) xs)) ≡ Chained 1 b e (map (leaf_tag 1) (with_perm_named s f o perm xs))
unfolding shape_after
protected-shape b e s f o perm xs k n =
    ap (λ m. Chained 1 b e (only_used_tags 1 m (map (leaf_tag 1) xs))) (protected-leaves s f o perm xs k n)
    ∙ ap (Chained 1 b e) (used-protected s f o perm xs k)

pub protected : (b e l s f : ℕ) (o : Order) (perm : Perm) (xs : List Leaf) → IsKept xs → Named s f o xs
    → IsChange (Protect s f o perm) (table_of b e l xs) done (table_of b e l (with_perm_named s f o perm xs))
unfolding has_room
protected b e l s f o perm xs k n =
    made b e l (Protect s f o perm) (mapping_of xs) (mapping_of (with_perm_named s f o perm xs)) (map (leaf_tag 1) xs) (map (leaf_tag 1) (with_perm_named s f o perm xs)) None
    refl refl refl refl (protected-leaves s f o perm xs k n) (protected-shape b e s f o perm xs k n)

-- a place that a table of chains takes
pub block-placed : (b e : ℕ) (tags : List ℕ) (x : Leaf) → IsBlock (Chained 1 b e tags) x.space x.first x.order → IsPlaced x
block-placed b e tags x v = record { space_in = v.space_in; page_in = below x.order v.pages_in }
  where
    below : (o : Order) → x.first + pages_of o ≤ 2 ^ 45 → x.first < 2 ^ 45
    below order.K4 h = omega arith
    below order.M2 h = omega arith
    below order.G1 h = omega arith

-- The same, as the methods' contracts speak of it: of a table that is seen as one of chains.
pub record IsComing (x : Leaf) (xs : List Leaf) : Type 0 where
  pub placed : IsPlaced x
  pub new : IsNew x xs

-- a leaf that such a table can take
pub coming : (b e l : ℕ) (x : Leaf) (xs : List Leaf) (now : TableState) → table_of b e l xs ≡ now → IsKept xs → IsBlock now.shape x.space x.first x.order
    → meets_any x.space x.first x.order now.leaves ≡ false → IsComing x xs
coming b e l x xs now same k block free =
    record {
      placed = block-placed b e (map (leaf_tag 1) xs) x (subst (λ (t : TableState). IsBlock t.shape x.space x.first x.order) (sym same) block);
      new = is-new x xs k (subst (λ (t : TableState). meets_any x.space x.first x.order t.leaves ≡ false) (sym same) free);
    }

with-work : (c : Change) (now new : TableState) (w : Work) → w ≡ work_of no_moves 0 → IsChange c now done new → IsChange c now (Ok w) new
with-work c now new w none is = record { answer = ap Ok none ∙ is.answer; after = is.after }

pub insert-made : (b e l : ℕ) (x : Leaf) (xs ys : List Leaf) (now : TableState) (w : Work) → w ≡ work_of no_moves 0 → table_of b e l xs ≡ now → IsKept xs → IsComing x xs
    → length xs < e → ys ≡ in_front b x xs → IsChange (Insert x) now (Ok w) (table_of b e l ys)
insert-made b e l x xs ys now w none same k c room is =
    with-work (Insert x) now (table_of b e l ys) w none (subst (λ t. IsChange (Insert x) t done (table_of b e l ys)) same
    (subst (λ zs. IsChange (Insert x) (table_of b e l xs) done (table_of b e l zs)) (sym is) (inserted b e l x xs k c.placed c.new room)))

pub insert-refused : (b e l : ℕ) (x : Leaf) (xs : List Leaf) (now : TableState) (w : Work) → w ≡ work_of no_moves 0 → table_of b e l xs ≡ now → IsKept xs → IsComing x xs
    → e ≤ length xs → IsChange (Insert x) now (Err (record { why = why.NoTable; work = w })) now
insert-refused b e l x xs now w none same k c full_up =
    let r : Work → Result Work Refused = λ v. Err (record { why = why.NoTable; work = v }) in
    let is : IsChange (Insert x) now full now = subst (λ t. IsChange (Insert x) t full t) same (not-inserted b e l x xs k c.placed c.new full_up) in
    record { answer = ap r none ∙ is.answer; after = is.after }

pub remove-made : (b e l s f : ℕ) (o : Order) (xs ys : List Leaf) (now : TableState) (w : Work) → w ≡ work_of no_moves 0 → table_of b e l xs ≡ now → IsKept xs
    → IsNamed s f o now.leaves → ys ≡ without_named s f o xs → IsChange (Remove s f o) now (Ok w) (table_of b e l ys)
remove-made b e l s f o xs ys now w none same k there is =
    let n : Named s f o xs = named-of s f o xs (subst (λ (t : TableState). IsNamed s f o t.leaves) (sym same) there) in
    with-work (Remove s f o) now (table_of b e l ys) w none (subst (λ t. IsChange (Remove s f o) t done (table_of b e l ys)) same
    (subst (λ zs. IsChange (Remove s f o) (table_of b e l xs) done (table_of b e l zs)) (sym is) (removed b e l s f o xs k n)))

pub protect-made : (b e l s f : ℕ) (o : Order) (perm : Perm) (xs ys : List Leaf) (now : TableState) (w : Work) → w ≡ work_of no_moves 0 → table_of b e l xs ≡ now → IsKept xs
    → IsNamed s f o now.leaves → ys ≡ with_perm_named s f o perm xs → IsChange (Protect s f o perm) now (Ok w) (table_of b e l ys)
protect-made b e l s f o perm xs ys now w none same k there is =
    let n : Named s f o xs = named-of s f o xs (subst (λ (t : TableState). IsNamed s f o t.leaves) (sym same) there) in
    with-work (Protect s f o perm) now (table_of b e l ys) w none (subst (λ t. IsChange (Protect s f o perm) t done (table_of b e l ys)) same
    (subst (λ zs. IsChange (Protect s f o perm) (table_of b e l xs) done (table_of b e l zs)) (sym is) (protected b e l s f o perm xs k n)))

-- there are no caches to fence
pub fence-made : (b e l : ℕ) (to : Reach) (xs : List Leaf) (now : TableState) → table_of b e l xs ≡ now → IsFence to now 0 now
unfolding fence_answer table_fenced caches_fenced
fence-made b e l to xs now same = subst (λ t. IsFence to t 0 t) same (record { answer = refl; after = refl })

-- a walk counts its loads
pub walk-made : (b e l s page : ℕ) (xs : List Leaf) (found : Option Leaf) (reads after : ℕ) (now : TableState) → table_of b e l xs ≡ now
    → found ≡ leaf_at_page s page now.leaves → reads ≡ chains_reads 1 b (map (leaf_tag 1) xs) s page (orders_tried found) → after ≡ plus l reads
    → IsWalk s page now (record { leaf = found; cache_hits = 0 }) (table_of b e after xs)
unfolding walk_answer table_walked walked
walk-made b e l s page xs found reads after now same h r a =
    let here : found ≡ leaf_at_page s page (mapping_of xs) = h ∙ ap (λ (t : TableState). leaf_at_page s page t.leaves) (sym same) in
    subst (λ t. IsWalk s page t (record { leaf = found; cache_hits = 0 }) (table_of b e after xs)) same (record {
      answer = ap (λ (o : Option Leaf). let w : Walk = record { leaf = o; cache_hits = 0 } in w) here;
      after = ap (λ n. table_of b e n xs) (a ∙ ap (plus l) (r ∙ ap (λ o. chains_reads 1 b (map (leaf_tag 1) xs) s page (orders_tried o)) here));
    })
