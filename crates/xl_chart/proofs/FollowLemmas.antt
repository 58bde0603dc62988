-- A command that is done purges the leaf that it names.
use Rattle.xl_chart.proofs.Common.{◌&&◌, ◌==◌, ◌∙◌, ◌∷◌, ◌≡◌, ◌⊎◌, [], ap, arith, Bool, change_of, changed_outcome, curve_accessed, curve_after, curve_followed, curve_looked, curve_looked_where, curve_purged, curve_without, Err, Event, false, find, followed, HitCurve, inl, inr, insert_at, is_canonical, Kind, Leaf, List, named_rule, None, Ok, old_of, Option, or_else, Outcome, outcome_after_rule, outcome_by, outcome_of, overlap_rule, page_of, page_reach, place_rule, Purge, reach_of, refl, refusal_of, reply_to, Result, Row, RowState, rule, same_order, Served, served_outcome, Some, sym, there_rule, true, unless, unless_refused, ℕ}
use Rattle.std.proofs.lemmas.Bool.Decides.{nat_tests}
use Rattle.std.specs.Cmp.{first_so, second_so}
use Rattle.xl_curve.specs.Tests.{purges}
use Rattle.xl_list_lemmas.proofs.MemberLemmas.{find-In, find-None, find-passes}
use Rattle.xl_list_lemmas.specs.Members.{In}
use Rattle.xl_model.specs.Changes.{Change}
use Rattle.xl_model.specs.Frames.{lowest}
use Rattle.xl_model.specs.Mapping.{covers, is_leaf, leaf_at_page, leaf_named}
use Rattle.xl_model.specs.Structures.{table_answer}
use Rattle.xl_model.specs.Tlb.{is_purged, reaches_leaf}
use Rattle.xl_model.specs.declared.address.Order.{Order}
use Rattle.xl_model.specs.declared.event.Refusal.{Refusal}
use Rattle.xl_model.specs.declared.event.Scope.{Scope}
use Rattle.xl_model.specs.declared.work.Refused.{Refused}
use Rattle.xl_model.specs.declared.work.Work.{Work}
use Rattle.xl_model.proofs.OrderLemmas.{orders-same}
use Rattle.xl_model_lemmas.proofs.RuleLemmas.{or-first, or-second}
use Rattle.xl_model.specs.declared.event.Event.TheVariants as event
use Rattle.xl_model.specs.declared.event.Outcome.TheVariants as outcome
use Rattle.xl_model.specs.declared.event.Refusal.TheVariants as refused
use Rattle.xl_model.specs.declared.event.Scope.TheVariants as scope
use Rattle.xl_model.specs.declared.row.Purge.TheVariants as purge

-- a purge of a leaf is one by its name
purged-named : (p : Purge) (old : Leaf) (space first : ℕ) (o : Order) → is_leaf space first o old ≡ true → is_purged p old ≡ purges p space first o
purged-named p old space first o t =
    let s : (old.space == space) ≡ true = first_so (old.space == space) ((old.first == first) && same_order old.order o) t in
    let r : ((old.first == first) && same_order old.order o) ≡ true = second_so (old.space == space) ((old.first == first) && same_order old.order o) t in
    let f : (old.first == first) ≡ true = first_so (old.first == first) (same_order old.order o) r in
    let space_is : old.space ≡ space = grind (arith, nat_tests) in
    let first_is : old.first ≡ first = grind (arith, nat_tests) in
    let order_is : old.order ≡ o = orders-same old.order o (second_so (old.first == first) (same_order old.order o) r) in
    by-name p old
    ∙ ap (λ (n : ℕ). purges p n old.first old.order) space_is
    ∙ ap (λ (n : ℕ). purges p space n old.order) first_is
    ∙ ap (λ (k : Order). purges p space first k) order_is
  where
    by-name : (q : Purge) (x : Leaf) → is_purged q x ≡ purges q x.space x.first x.order
    by-name purge.Page x = refl
    by-name purge.Space x = refl
    by-name purge.All x = refl

-- where the leaf that covers the page has the name, one has it
named-there : (leaves : List Leaf) (space page : ℕ) (o : Order) → named_rule (leaf_at_page space page leaves) space page o ≡ None
    → (old : Leaf) × (leaf_named space page o leaves ≡ Some old) × (is_leaf space page o old ≡ true)
unfolding leaf_at_page leaf_named
named-there leaves space page o ruled = go (find (covers space page) leaves) refl ruled
  where
    seen : (x : Leaf) → In x leaves → is_leaf space page o x ≡ true → (k : Option Leaf) → find (is_leaf space page o) leaves ≡ k
        → (old : Leaf) × (find (is_leaf space page o) leaves ≡ Some old) × (is_leaf space page o old ≡ true)
    seen x i t None e = let f : is_leaf space page o x ≡ false = find-None (is_leaf space page o) x leaves e i in let w : true ≡ false = sym t ∙ f in absurd (cc)
    seen x i t (Some old) e = (old, e, find-passes (is_leaf space page o) old leaves e)

    tested : (b : Bool) → unless b refused.WrongSize ≡ None → b ≡ true
    tested true e = refl
    tested false e = absurd (cc)

    go : (m : Option Leaf) → find (covers space page) leaves ≡ m → named_rule m space page o ≡ None
        → (old : Leaf) × (find (is_leaf space page o) leaves ≡ Some old) × (is_leaf space page o old ≡ true)
    go None is r = absurd (cc)
    go (Some x) is r = seen x (find-In (covers space page) x leaves is) (tested (is_leaf space page o x) r) (find (is_leaf space page o) leaves) refl

-- the purge of a named leaf
purged-there : (p : Purge) (leaves : List Leaf) (space page : ℕ) (o : Order) (c : HitCurve) → named_rule (leaf_at_page space page leaves) space page o ≡ None
    → curve_without (purges p space page o) c ≡ curve_purged p (leaf_named space page o leaves) c
purged-there p leaves space page o c ruled =
    let there = named-there leaves space page o ruled in
    ap (λ (t : Leaf → Bool). curve_without t c) (sym (purged-named p there.0 space page o there.2))
    ∙ ap (λ (m : Option Leaf). curve_purged p m c) (sym there.1)

map-old : (row : Row) (leaves : List Leaf) (leaf : Leaf) (space first : ℕ) (o : Order) (at : Option ℕ) → old_of (insert_at space first o leaf at) leaves ≡ None
map-old row leaves leaf space first o None = refl
map-old row leaves leaf space first o (Some at) = refl

reach-same : (row : Row) (to : Scope) → page_reach row.mode to ≡ reach_of row to
reach-same row scope.All = refl
reach-same row (scope.Space space) = refl
reach-same row (scope.Addr va) = refl
reach-same row (scope.Page space va) = refl

-- what follows a command that no rule stops
ruled-followed : (row : Row) (e : Event) (s : RowState) (c : HitCurve) → rule row s.table.leaves e ≡ None → (served_outcome row e s ≡ outcome.Done)
    → followed row.purge row.mode e c ≡ curve_followed row e s c
unfolding rule change_of
ruled-followed row (event.Access va kind) s c ruled done = absurd (cc)
ruled-followed row (event.Map space va o perm) s c ruled done =
    sym (ap (λ (m : Option Leaf). curve_purged row.purge m c) (map-old row s.table.leaves (record { space = space; first = page_of row.mode va; order = o; frame = 0; perm = perm }) space (page_of row.mode va) o (lowest row.frames o s.table.leaves)))
ruled-followed row (event.Unmap space va o) s c ruled done =
    purged-there row.purge s.table.leaves space (page_of row.mode va) o c (or-second (place_rule row space o (va ∷ [])) (there_rule row s.table.leaves space va o) ruled)
ruled-followed row (event.Protect space va o perm) s c ruled done =
    purged-there row.purge s.table.leaves space (page_of row.mode va) o c (or-second (place_rule row space o (va ∷ [])) (there_rule row s.table.leaves space va o) ruled)
ruled-followed row (event.Move space from to o) s c ruled done =
    purged-there row.purge s.table.leaves space (page_of row.mode from) o c
    (or-first (there_rule row s.table.leaves space from o) (overlap_rule row s.table.leaves space to o)
    (or-second (place_rule row space o (from ∷ to ∷ [])) (or_else (there_rule row s.table.leaves space from o) (overlap_rule row s.table.leaves space to o)) ruled))
ruled-followed row (event.Space space) s c ruled done = refl
ruled-followed row (event.Fence to) s c ruled done = ap (λ (r : _). curve_without (reaches_leaf r) c) (reach-same row to)

-- The curve after a command that is done.
pub done_followed : (row : Row) (e : Event) (s : RowState) (c : HitCurve) → outcome_of row e s ≡ outcome.Done
    → followed row.purge row.mode e c ≡ curve_after row e s c
unfolding outcome_of curve_after
done_followed row e s c done = go (rule row s.table.leaves e) refl done
  where
    go : (q : Option Refusal) → rule row s.table.leaves e ≡ q → outcome_after_rule q row e s ≡ outcome.Done
        → followed row.purge row.mode e c ≡ unless_refused (outcome_after_rule q row e s) (curve_followed row e s c) c
    go (Some r) is d = absurd (cc)
    go None is d = ruled-followed row e s c is d ∙ sym (ap (λ (o : Outcome). unless_refused o (curve_followed row e s c) c) d)

by-answer : (a : Result Work Refused) → (outcome_by a ≡ outcome.Done) ⊎ ((r : Refusal) × (outcome_by a ≡ outcome.Refused r))
by-answer (Ok work) = inl refl
by-answer (Err r) = inr (refusal_of r.why, refl)

by-change : (ch : Option Change) (s : RowState) → (changed_outcome ch s ≡ outcome.Done) ⊎ ((r : Refusal) × (changed_outcome ch s ≡ outcome.Refused r))
by-change None s = inl refl
by-change (Some ch) s = by-answer (table_answer ch s.table)

-- A command that is not done is refused.
refused-unless : (row : Row) (e : Event) (s : RowState) → ((va : ℕ) (kind : Kind) → e ≡ event.Access va kind → ⊥)
    → (served_outcome row e s ≡ outcome.Done) ⊎ ((r : Refusal) × (served_outcome row e s ≡ outcome.Refused r))
refused-unless row (event.Access va kind) s other = absurd (other va kind refl)
refused-unless row (event.Map space va o perm) s other = by-change (change_of row s.table.leaves (event.Map space va o perm)) s
refused-unless row (event.Unmap space va o) s other = by-change (change_of row s.table.leaves (event.Unmap space va o)) s
refused-unless row (event.Protect space va o perm) s other = by-change (change_of row s.table.leaves (event.Protect space va o perm)) s
refused-unless row (event.Move space from to o) s other = by-change (change_of row s.table.leaves (event.Move space from to o)) s
refused-unless row (event.Space space) s other = inl refl
refused-unless row (event.Fence to) s other = inl refl

-- It changes nothing in the curve.
pub refused_kept : (row : Row) (e : Event) (s : RowState) (c : HitCurve) → ((va : ℕ) (kind : Kind) → e ≡ event.Access va kind → ⊥)
    → (outcome_of row e s ≡ outcome.Done → ⊥) → c ≡ curve_after row e s c
unfolding outcome_of curve_after
refused_kept row e s c other undone = go (rule row s.table.leaves e) undone
  where
    go : (q : Option Refusal) → (outcome_after_rule q row e s ≡ outcome.Done → ⊥) → c ≡ unless_refused (outcome_after_rule q row e s) (curve_followed row e s c) c
    go (Some r) d = refl
    go None d = elim (refused-unless row e s other) [
      | inl is ↦ absurd (d is)
      | inr r ↦ sym (ap (λ (o : Outcome). unless_refused o (curve_followed row e s c) c) r.1)
    ]

-- The curve after an access.
pub access_followed : (row : Row) (va : ℕ) (kind : Kind) (s : RowState) (c : HitCurve)
    → curve_looked_where (is_canonical row.mode va) (leaf_at_page s.space (page_of row.mode va) s.table.leaves) c ≡ curve_after row (event.Access va kind) s c
unfolding curve_after outcome_of rule
access_followed row va kind s c = refl

-- The same, where the leaf is known.
pub found_followed : (row : Row) (va : ℕ) (kind : Kind) (s : RowState) (c : HitCurve) (leaf : Leaf) → is_canonical row.mode va ≡ true
    → leaf_at_page s.space (page_of row.mode va) s.table.leaves ≡ Some leaf → curve_accessed leaf c ≡ curve_after row (event.Access va kind) s c
found_followed row va kind s c leaf canonical is = sym (ap (λ (b : Bool). curve_looked_where b (leaf_at_page s.space (page_of row.mode va) s.table.leaves) c) canonical
    ∙ ap (λ (o : Option Leaf). curve_looked o c) is) ∙ access_followed row va kind s c

-- The outcome of an access is its reply.
pub reply_outcome : (row : Row) (va : ℕ) (kind : Kind) (s : RowState) → outcome.Replied (reply_to row s va kind) ≡ outcome_of row (event.Access va kind) s
unfolding outcome_of rule
reply_outcome row va kind s = refl

-- The same, looked for in another state of the row that has the same leaves.
pub same_followed : (v w : Served) (va : ℕ) (kind : Kind) (c : HitCurve) → w.row ≡ v.row → w.state.space ≡ v.state.space → w.state.table.leaves ≡ v.state.table.leaves
    → curve_looked_where (is_canonical w.row.mode va) (leaf_at_page w.state.space (page_of w.row.mode va) w.state.table.leaves) c ≡ curve_after v.row (event.Access va kind) v.state c
same_followed v w va kind c r s l =
    ap (λ (x : Row). curve_looked_where (is_canonical x.mode va) (leaf_at_page w.state.space (page_of x.mode va) w.state.table.leaves) c) r
    ∙ ap (λ (n : ℕ). curve_looked_where (is_canonical v.row.mode va) (leaf_at_page n (page_of v.row.mode va) w.state.table.leaves) c) s
    ∙ ap (λ (xs : List Leaf). curve_looked_where (is_canonical v.row.mode va) (leaf_at_page v.state.space (page_of v.row.mode va) xs) c) l
    ∙ access_followed v.row va kind v.state c
