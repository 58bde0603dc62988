use Rattle.xl_model_table.proofs.Common.{◌<◌, ◌∙◌, ◌≡◌, ◌≤◌, ap, arith, at_page, both, Chained, Change, changed, Err, false, find, find-only, has_room, In, in_front, Insert, is_leaf, is_some, IsBlock, IsChange, IsKept, IsNamed, IsPlaced, Leaf, leaf_named, leaf_tag, length, List, map, mapping-In, mapping-sorted, mapping_of, meets_any, named-In, named-is, named-order, named-space, narrowed, nat_le, nat_lt, nat_tests, None, Ok, only_used_tags, Order, refl, Refused, Relocate, Remove, Result, room_for, shape_after, Some, subst, sym, table_after, table_answer, table_of, TableState, true, widened, with-without, with_leaf, with_tag, without_leaf, without_named, Work, ℕ}
use Rattle.xl_model_table.proofs.FrontLemmas.{IsNew, kept-front, mapping-front, new-key, stays-front}
use Rattle.xl_model_table.proofs.ReadLemmas.{Named, named-mapping}
use Rattle.xl_model_table.proofs.TableLemmas.{coming, done, full, has-room, inserted, IsComing, made, no-room, not-inserted, refused, removed}
use Rattle.xl_model_table.proofs.TagLemmas.{used-without, with-tag}
use Rattle.xl_model_table.proofs.WithoutLemmas.{mapping-without, named-same}
use Rattle.xl_model_table.proofs.plain.ListTableStructure.relocate.Goals as goal

-- A leaf that moves: put at its new place, then taken out at its old one.
record IsMoving (s f to : ℕ) (o : Order) (old : Leaf) (xs : List Leaf) : Type 0 where
  kept : IsKept xs
  named : leaf_named s f o (mapping_of xs) ≡ Some old
  placed : IsPlaced (record old { first = to })
  new : IsNew (record old { first = to }) xs

abbrev moved : ℕ → Leaf → Leaf
moved to old = record old { first = to }

moving-named : (b s f to : ℕ) (o : Order) (old : Leaf) (xs : List Leaf) → IsMoving s f to o old xs → Named s f o (in_front b (moved to old) xs)
moving-named b s f to o old xs m =
    let inside : In old xs = mapping-In old xs (named-In s f o old (mapping_of xs) m.named) in
    let has_name : is_leaf s f o old ≡ true = named-is s f o old (mapping_of xs) m.named in
    let ys : List Leaf = in_front b (moved to old) xs in
    let kept : IsKept ys = kept-front b (moved to old) xs m.kept m.placed m.new in
    let there : In old ys = stays-front b old (moved to old) xs inside in
    record {
      old = old;
      named = sym (named-mapping s f o ys kept) ∙ find-only (is_leaf s f o) old ys there has_name (λ y i h. named-same s f o old y ys kept there has_name i h);
      there = there;
      is = has_name;
    }

moved-leaves : (b s f to : ℕ) (o : Order) (old : Leaf) (xs : List Leaf) → IsMoving s f to o old xs
    → changed (Relocate s f to o) (mapping_of xs) ≡ mapping_of (without_named s f o (in_front b (moved to old) xs))
unfolding changed
moved-leaves b s f to o old xs m =
    let inside : In old xs = mapping-In old xs (named-In s f o old (mapping_of xs) m.named) in
    let has_name : is_leaf s f o old ≡ true = named-is s f o old (mapping_of xs) m.named in
    let x : Leaf = moved to old in
    let ys : List Leaf = in_front b x xs in
    let kept : IsKept ys = kept-front b x xs m.kept m.placed m.new in
    let all : with_leaf x (without_leaf old.space old.first (mapping_of xs)) ≡ mapping_of (without_named s f o ys) =
    with-without old.space old.first x (mapping_of xs) (mapping-sorted xs) (λ e. new-key x old xs m.kept m.placed m.new inside (sym e))
    (λ z i. new-key x z xs m.kept m.placed m.new (mapping-In z xs i))
    ∙ ap (without_leaf old.space old.first) (mapping-front b x xs m.kept m.placed m.new)
    ∙ mapping-without s f o old ys kept (stays-front b old x xs inside) has_name in
    rw m.named all

moved-shape : (b e s f to : ℕ) (o : Order) (old : Leaf) (xs : List Leaf) → IsMoving s f to o old xs
    → shape_after (Relocate s f to o) (mapping_of xs) (Chained 1 b e (map (leaf_tag 1) xs)) ≡ Chained 1 b e (map (leaf_tag 1) (without_named s f o (in_front b (moved to old) xs)))
unfolding shape_after
moved-shape b e s f to o old xs m =
    let x : Leaf = moved to old in
    let ys : List Leaf = in_front b x xs in
    let c : Change = Relocate s f to o in
    let kept : IsKept ys = kept-front b x xs m.kept m.placed m.new in
    ap (λ q. narrowed c (mapping_of xs) (widened (at_page to q) (Chained 1 b e (map (leaf_tag 1) xs)))) m.named
    ∙ ap (λ ts. Chained 1 b e (only_used_tags 1 (changed c (mapping_of xs)) ts)) (with-tag b x xs m.kept m.placed m.new)
    ∙ ap (λ q. Chained 1 b e (only_used_tags 1 q (map (leaf_tag 1) ys))) (moved-leaves b s f to o old xs m)
    ∙ ap (Chained 1 b e) (used-without s f o ys kept)

moved-room : (b e s f to : ℕ) (o : Order) (old : Leaf) (xs : List Leaf) → IsMoving s f to o old xs
    → has_room (Relocate s f to o) (mapping_of xs) (Chained 1 b e (map (leaf_tag 1) xs)) ≡ nat_le (length (with_tag b (leaf_tag 1 (moved to old)) (map (leaf_tag 1) xs))) e
unfolding has_room
moved-room b e s f to o old xs m = ap (λ q. room_for (at_page to q) (Relocate s f to o) (mapping_of xs) (Chained 1 b e (map (leaf_tag 1) xs))) m.named

relocated : (b e l s f to : ℕ) (o : Order) (old : Leaf) (xs : List Leaf) → IsMoving s f to o old xs → length xs < e
    → IsChange (Relocate s f to o) (table_of b e l xs) done (table_of b e l (without_named s f o (in_front b (moved to old) xs)))
relocated b e l s f to o old xs m h =
    let x : Leaf = moved to old in
    let zs : List Leaf = without_named s f o (in_front b x xs) in
    made b e l (Relocate s f to o) (mapping_of xs) (mapping_of zs) (map (leaf_tag 1) xs) (map (leaf_tag 1) zs) (Some x)
    (ap (at_page to) m.named) refl refl (moved-room b e s f to o old xs m ∙ has-room b e x xs m.kept m.placed m.new h)
    (moved-leaves b s f to o old xs m) (moved-shape b e s f to o old xs m)

not-relocated : (b e l s f to : ℕ) (o : Order) (old : Leaf) (xs : List Leaf) → IsMoving s f to o old xs → e ≤ length xs → IsChange (Relocate s f to o) (table_of b e l xs) full (table_of b e l xs)
not-relocated b e l s f to o old xs m h =
    refused b e l (Relocate s f to o) (mapping_of xs) (map (leaf_tag 1) xs) (moved-room b e s f to o old xs m ∙ no-room b e (moved to old) xs m.kept m.placed m.new h)

-- The two steps of a move: a leaf put in at the new place has this result, and leaves this table.
record IsMove (s f to : ℕ) (o : Order) (now : TableState) (r : Result Work Refused) (between : TableState) : Type 0 where
  refused : (q : Refused) → r ≡ Err q → IsChange (Relocate s f to o) now (Err q) between
  there : (w : Work) → r ≡ Ok w → IsNamed s f o between.leaves
  made : (w : Work) (r' : Result Work Refused) (new : TableState) → r ≡ Ok w → IsChange (Remove s f o) between r' new → IsChange (Relocate s f to o) now r' new

move-made : (b e l s f to : ℕ) (o : Order) (old : Leaf) (xs : List Leaf) (r : Result Work Refused) (between : TableState) → IsMoving s f to o old xs → length xs < e
    → IsChange (Insert (moved to old)) (table_of b e l xs) r between → IsMove s f to o (table_of b e l xs) r between
move-made b e l s f to o old xs r between m h a =
    let x : Leaf = moved to old in
    let ys : List Leaf = in_front b x xs in
    let kept : IsKept ys = kept-front b x xs m.kept m.placed m.new in
    let first : IsChange (Insert x) (table_of b e l xs) done (table_of b e l ys) = inserted b e l x xs m.kept m.placed m.new h in
    let n : Named s f o ys = moving-named b s f to o old xs m in
    let second : IsChange (Remove s f o) (table_of b e l ys) done (table_of b e l (without_named s f o ys)) = removed b e l s f o ys kept n in
    let whole : IsChange (Relocate s f to o) (table_of b e l xs) done (table_of b e l (without_named s f o ys)) = relocated b e l s f to o old xs m h in
    let same : between ≡ table_of b e l ys = a.after ∙ sym first.after in
    record {
      refused = λ q d. let bad : done ≡ Err q = first.answer ∙ sym a.answer ∙ d in absurd (cc);
      there = λ w d. subst (λ (t : TableState). IsNamed s f o t.leaves) (sym same) (ap is_some n.named);
      made = λ w r' new d c. record {
        answer = c.answer ∙ ap (table_answer (Remove s f o)) same ∙ sym second.answer ∙ whole.answer;
        after = c.after ∙ ap (table_after (Remove s f o)) same ∙ sym second.after ∙ whole.after;
      };
    }

move-refused : (b e l s f to : ℕ) (o : Order) (old : Leaf) (xs : List Leaf) (r : Result Work Refused) (between : TableState) → IsMoving s f to o old xs → e ≤ length xs
    → IsChange (Insert (moved to old)) (table_of b e l xs) r between → IsMove s f to o (table_of b e l xs) r between
move-refused b e l s f to o old xs r between m h a =
    let first : IsChange (Insert (moved to old)) (table_of b e l xs) full (table_of b e l xs) = not-inserted b e l (moved to old) xs m.kept m.placed m.new h in
    let whole : IsChange (Relocate s f to o) (table_of b e l xs) full (table_of b e l xs) = not-relocated b e l s f to o old xs m h in
    let says : r ≡ full = a.answer ∙ sym first.answer in
    record {
      refused = λ q d. record { answer = sym d ∙ says ∙ whole.answer; after = a.after ∙ sym first.after ∙ whole.after };
      there = λ w d. let bad : full ≡ Ok w = sym says ∙ d in absurd (cc);
      made = λ w r' new d c. let bad : full ≡ Ok w = sym says ∙ d in absurd (cc);
    }

is-move : (b e l s f to : ℕ) (o : Order) (old : Leaf) (xs : List Leaf) (r : Result Work Refused) (between : TableState) → IsMoving s f to o old xs
    → IsChange (Insert (moved to old)) (table_of b e l xs) r between → IsMove s f to o (table_of b e l xs) r between
is-move b e l s f to o old xs r between m a =
    elim (nat_lt (length xs) e) as (λ t. nat_lt (length xs) e ≡ t → IsMove s f to o (table_of b e l xs) r between) [
      | true ↦ λ h. move-made b e l s f to o old xs r between m (grind (arith, nat_tests)) a
      | false ↦ λ h. move-refused b e l s f to o old xs r between m (grind (arith, nat_tests)) a
    ] refl

-- The same, as a method's contract speaks of it: of a table that is seen as one of chains, and of the leaf that it finds.
record IsMovable (s f to : ℕ) (o : Order) (old : Leaf) (now : TableState) : Type 0 where
  valid : IsBlock now.shape old.space to old.order
  free : meets_any old.space to old.order now.leaves ≡ false
  move : (r : Result Work Refused) (between : TableState) → IsChange (Insert (moved to old)) now r between → IsMove s f to o now r between

movable : (b e l s f to : ℕ) (o : Order) (old : Leaf) (xs : List Leaf) (now : TableState) → table_of b e l xs ≡ now → IsKept xs
    → find (is_leaf s f o) xs ≡ Some old → IsBlock now.shape s to o → meets_any s to o now.leaves ≡ false → IsMovable s f to o old now
movable b e l s f to o old xs now same k found block free =
    let named : leaf_named s f o (mapping_of xs) ≡ Some old = sym (named-mapping s f o xs k) ∙ found in
    let is : is_leaf s f o old ≡ true = named-is s f o old (mapping_of xs) named in
    let B : ℕ → Order → Type 0 = λ q p. IsBlock now.shape q to p in
    let F : ℕ → Order → Type 0 = λ q p. meets_any q to p now.leaves ≡ false in
    let valid : IsBlock now.shape old.space to old.order = subst (B old.space) (sym (named-order s f o old is)) (subst (λ q. B q o) (sym (named-space s f o old is)) block) in
    let apart : meets_any old.space to old.order now.leaves ≡ false = subst (F old.space) (sym (named-order s f o old is)) (subst (λ q. F q o) (sym (named-space s f o old is)) free) in
    let c : IsComing (moved to old) xs = coming b e l (moved to old) xs now same k valid apart in
    let m : IsMoving s f to o old xs = record { kept = k; named = named; placed = c.placed; new = c.new } in
    record {
      valid = valid;
      free = apart;
      move = λ r between a. subst (λ t. IsMove s f to o t r between) same
          (is-move b e l s f to o old xs r between m (subst (λ t. IsChange (Insert (moved to old)) t r between) (sym same) a));
    }

-- the leaf of a name is there
no-leaf : (b e l s f : ℕ) (o : Order) (xs : List Leaf) (now : TableState) → table_of b e l xs ≡ now → IsKept xs → IsNamed s f o now.leaves → find (is_leaf s f o) xs ≡ None → ⊥
no-leaf b e l s f o xs now same k there none =
    let named : leaf_named s f o (mapping_of xs) ≡ None = sym (named-mapping s f o xs k) ∙ none in
    both _ (subst (λ (t : TableState). IsNamed s f o t.leaves) (sym same) there) (ap is_some named)

pub unreachable-requires : goal.unreachable-requires
unreachable-requires c =
    let a = c.args in
    let s = c.self.inside in
    no-leaf s.buckets s.entries s.loads a.space a.first a.order s.leaves.items a.self.now c.self.view_is c.self.invariant.kept c.requires.there
    (ap (find (is_leaf a.space a.first a.order)) (sym c.deref.ensures.value) ∙ sym c.named.ensures ∙ c.in-None.is)

pub add-requires-clause-valid : goal.add-requires-clause-valid
add-requires-clause-valid c =
    let a = c.args in
    let s = c.self.inside in
    let m : IsMovable a.space a.first a.to a.order c.in-Some.old a.self.now =
    movable s.buckets s.entries s.loads a.space a.first a.to a.order c.in-Some.old s.leaves.items a.self.now c.self.view_is c.self.invariant.kept
    (ap (find (is_leaf a.space a.first a.order)) (sym c.deref.ensures.value) ∙ sym c.named.ensures ∙ c.in-Some.is) c.requires.valid c.requires.free in
    m.valid

pub add-requires-clause-free : goal.add-requires-clause-free
add-requires-clause-free c =
    let a = c.args in
    let s = c.self.inside in
    let m : IsMovable a.space a.first a.to a.order c.in-Some.old a.self.now =
    movable s.buckets s.entries s.loads a.space a.first a.to a.order c.in-Some.old s.leaves.items a.self.now c.self.view_is c.self.invariant.kept
    (ap (find (is_leaf a.space a.first a.order)) (sym c.deref.ensures.value) ∙ sym c.named.ensures ∙ c.in-Some.is) c.requires.valid c.requires.free in
    m.free

pub remove-requires : goal.remove-requires
remove-requires c =
    let a = c.args in
    let s = c.self.inside in
    let m : IsMovable a.space a.first a.to a.order c.in-Some.old a.self.now =
    movable s.buckets s.entries s.loads a.space a.first a.to a.order c.in-Some.old s.leaves.items a.self.now c.self.view_is c.self.invariant.kept
    (ap (find (is_leaf a.space a.first a.order)) (sym c.deref.ensures.value) ∙ sym c.named.ensures ∙ c.in-Some.is) c.requires.valid c.requires.free in
    (m.move c.add.result c.add.new.self c.add.ensures.changes).there c.in-Ok.field-0 c.in-Ok.is

pub returns-in-Err : goal.returns-in-Err
returns-in-Err c =
    let a = c.args in
    let s = c.self.inside in
    let m : IsMovable a.space a.first a.to a.order c.in-Some.old a.self.now =
    movable s.buckets s.entries s.loads a.space a.first a.to a.order c.in-Some.old s.leaves.items a.self.now c.self.view_is c.self.invariant.kept
    (ap (find (is_leaf a.space a.first a.order)) (sym c.deref.ensures.value) ∙ sym c.named.ensures ∙ c.in-Some.is) c.requires.valid c.requires.free in
    record { changes = (m.move c.add.result c.add.new.self c.add.ensures.changes).refused c.in-Err.refused c.in-Err.is }

pub returns-in-Ok : goal.returns-in-Ok
returns-in-Ok c =
    let a = c.args in
    let s = c.self.inside in
    let m : IsMovable a.space a.first a.to a.order c.in-Some.old a.self.now =
    movable s.buckets s.entries s.loads a.space a.first a.to a.order c.in-Some.old s.leaves.items a.self.now c.self.view_is c.self.invariant.kept
    (ap (find (is_leaf a.space a.first a.order)) (sym c.deref.ensures.value) ∙ sym c.named.ensures ∙ c.in-Some.is) c.requires.valid c.requires.free in
    record { changes = (m.move c.add.result c.add.new.self c.add.ensures.changes).made c.in-Ok.field-0 c.remove.result _ c.in-Ok.is c.remove.ensures.changes }
