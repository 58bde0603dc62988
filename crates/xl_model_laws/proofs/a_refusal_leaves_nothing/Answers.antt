use Rattle.xl_model_laws.proofs.Common.{◌∙◌, ◌∷◌, ◌≡◌, [], accessed, after_event, after_rule, Answer, answer_by, answer_of, ap, Bool, Change, change_of, changed_by, changed_outcome, changed_where, count_accepted, count_fence, count_fills, count_invalidated, count_look, count_refusal, count_reply, count_walk, count_work, Counts, counts_refused, Err, Event, false, fenced, is_canonical, Kind, Leaf, leaf_at_page, List, looked, looked_by, looked_where, Made, None, NoPlace, NoRoom, NoSpace, Ok, one_more_at, Option, outcome_after_rule, outcome_by, outcome_of, page_of, refl, Refusal, refusal_place, Refused, Reply, reply_to, Result, Row, RowState, rule, served, served_outcome, Some, subst, suc, sym, table_after, table_answer, true, Verdict, verdict, walk_filled, walk_made, Work, zero, ℕ}
use Rattle.xl_model_laws.specs.Refusals.{after_events, ARefusalLeavesNothing, leaves_nothing, outcomes_of, with_refusal}
use Rattle.xl_model.specs.declared.event.Event.TheVariants as event
use Rattle.xl_model.specs.declared.event.Outcome.TheVariants as outcome
use Rattle.xl_model.specs.declared.event.Refusal.TheVariants as refused
use Rattle.xl_model.specs.declared.leaf.Reply.TheVariants as reply
use Rattle.xl_model.specs.declared.work.NoRoom.TheVariants as why
use Rattle.xl_model_laws.proofs.a_refusal_leaves_nothing.Goals as goal

-- A refusal leaves nothing but its count: a step commutes with one refusal more.
one_more_commutes : (i j : ℕ) (xs : List ℕ) → one_more_at i (one_more_at j xs) ≡ one_more_at j (one_more_at i xs)
one_more_commutes i j [] = refl
one_more_commutes zero zero (x ∷ xs) = refl
one_more_commutes zero (suc j) (x ∷ xs) = refl
one_more_commutes (suc i) zero (x ∷ xs) = refl
one_more_commutes (suc i) (suc j) (x ∷ xs) = ap (λ (ys : List ℕ). x ∷ ys) (one_more_commutes i j xs)

refusals_commute : (r q : Refusal) (c : Counts) → count_refusal q (count_refusal r c) ≡ count_refusal r (count_refusal q c)
unfolding count_refusal
refusals_commute r q c = ap (λ (xs : List ℕ). let d : Counts = record c { refused = xs } in d) (one_more_commutes (refusal_place q) (refusal_place r) c.refused)

reply_commutes : (r : Refusal) (answer : Reply) (va : ℕ) (c : Counts) → count_reply answer va (count_refusal r c) ≡ count_refusal r (count_reply answer va c)
unfolding count_refusal count_reply
reply_commutes r (reply.Frame frame) va c = refl
reply_commutes r reply.NotCanonical va c = refl
reply_commutes r reply.Unmapped va c = refl
reply_commutes r reply.Denied va c = refl

filled_commutes : (r : Refusal) (k : Kind) (found : Option Leaf) (s : RowState) → walk_filled k found (with_refusal r s) ≡ with_refusal r (walk_filled k found s)
unfolding count_refusal count_fills
filled_commutes r k None s = refl
filled_commutes r k (Some leaf) s = refl

looked_by_commutes : (r : Refusal) (k : Kind) (answer : Option Answer) (page : ℕ) (s : RowState)
    → looked_by k answer page (with_refusal r s) ≡ with_refusal r (looked_by k answer page s)
unfolding count_refusal count_fills count_look count_walk
looked_by_commutes r k (Some answer) page s = refl
looked_by_commutes r k None page s =
    filled_commutes r k (leaf_at_page s.space page s.table.leaves)
    (walk_made s.space page (record s { counts = count_look k None s.space page s.arrays s.counts }))

looked_commutes : (r : Refusal) (canonical : Bool) (k : Kind) (page : ℕ) (s : RowState)
    → looked_where canonical k page (with_refusal r s) ≡ with_refusal r (looked_where canonical k page s)
unfolding looked
looked_commutes r true k page s = looked_by_commutes r k (answer_of k s.arrays s.space page) page s
looked_commutes r false k page s = refl

accessed_commutes : (r : Refusal) (row : Row) (va : ℕ) (k : Kind) (s : RowState) → accessed row va k (with_refusal r s) ≡ with_refusal r (accessed row va k s)
unfolding accessed reply_to
accessed_commutes r row va k s =
    ap (λ (t : RowState). let u : RowState = record t { counts = count_reply (reply_to row s va k) va t.counts } in u)
    (looked_commutes r (is_canonical row.mode va) k (page_of row.mode va) s)
    ∙ (let t : RowState = looked_where (is_canonical row.mode va) k (page_of row.mode va) s in
    ap (λ (c : Counts). let u : RowState = record t { counts = c } in u) (reply_commutes r (reply_to row s va k) va t.counts))

work_commutes : (r : Refusal) (work : Work) (c : Counts) → count_work work (count_refusal r c) ≡ count_refusal r (count_work work c)
unfolding count_refusal count_work
work_commutes r work c = refl

refused_commutes : (r : Refusal) (cause : NoRoom) (work : Work) (c : Counts) → counts_refused cause work (count_refusal r c) ≡ count_refusal r (counts_refused cause work c)
refused_commutes r why.NoTable work c = refusals_commute r refused.NoTable c
refused_commutes r why.WayAtCap work c =
    ap (count_refusal refused.WayAtCap) (work_commutes r work c) ∙ refusals_commute r refused.WayAtCap (count_work work c)

changed_by_commutes : (r : Refusal) (answer : Result Work Refused) (row : Row) (c : Change) (s : RowState) → changed_by answer row c (with_refusal r s) ≡ with_refusal r (changed_by answer row c s)
unfolding count_refusal count_accepted count_invalidated count_work
changed_by_commutes r (Ok work) row c s = refl
changed_by_commutes r (Err e) row c s =
    ap (λ (d : Counts). let u : RowState = record s { table = table_after c s.table; counts = d } in u) (refused_commutes r e.why e.work s.counts)

changed_commutes : (r : Refusal) (c : Option Change) (row : Row) (s : RowState) → changed_where c row (with_refusal r s) ≡ with_refusal r (changed_where c row s)
changed_commutes r None row s = refl
changed_commutes r (Some c) row s = changed_by_commutes r (table_answer c s.table) row c s

served_commutes : (r : Refusal) (row : Row) (e : Event) (s : RowState) → served row e (with_refusal r s) ≡ with_refusal r (served row e s)
unfolding served fenced count_refusal count_accepted count_invalidated count_fence
served_commutes r row (event.Access va k) s = accessed_commutes r row va k s
served_commutes r row (event.Map space va o perm) s = changed_commutes r (change_of row s.table.leaves (event.Map space va o perm)) row s
served_commutes r row (event.Unmap space va o) s = changed_commutes r (change_of row s.table.leaves (event.Unmap space va o)) row s
served_commutes r row (event.Protect space va o perm) s = changed_commutes r (change_of row s.table.leaves (event.Protect space va o perm)) row s
served_commutes r row (event.Move space from to o) s = changed_commutes r (change_of row s.table.leaves (event.Move space from to o)) row s
served_commutes r row (event.Space space) s = refl
served_commutes r row (event.Fence to) s = refl

ruled_commutes : (r : Refusal) (q : Option Refusal) (row : Row) (e : Event) (s : RowState) → after_rule q row e (with_refusal r s) ≡ with_refusal r (after_rule q row e s)
ruled_commutes r (Some q) row e s = ap (λ (c : Counts). let u : RowState = record s { counts = c } in u) (refusals_commute r q s.counts)
ruled_commutes r None row e s = served_commutes r row e s

event_commutes : (r : Refusal) (row : Row) (e : Event) (s : RowState) → after_event row e (with_refusal r s) ≡ with_refusal r (after_event row e s)
unfolding after_event
event_commutes r row e s = ruled_commutes r (rule row s.table.leaves e) row e s

same_change : (r : Refusal) (c : Option Change) (s : RowState) → changed_outcome c (with_refusal r s) ≡ changed_outcome c s
same_change r None s = refl
same_change r (Some c) s = refl

same_served : (r : Refusal) (row : Row) (e : Event) (s : RowState) → served_outcome row e (with_refusal r s) ≡ served_outcome row e s
unfolding reply_to
same_served r row (event.Access va k) s = refl
same_served r row (event.Map space va o perm) s = same_change r (change_of row s.table.leaves (event.Map space va o perm)) s
same_served r row (event.Unmap space va o) s = same_change r (change_of row s.table.leaves (event.Unmap space va o)) s
same_served r row (event.Protect space va o perm) s = same_change r (change_of row s.table.leaves (event.Protect space va o perm)) s
same_served r row (event.Move space from to o) s = same_change r (change_of row s.table.leaves (event.Move space from to o)) s
same_served r row (event.Space space) s = refl
same_served r row (event.Fence to) s = refl

same_ruled : (r : Refusal) (q : Option Refusal) (row : Row) (e : Event) (s : RowState) → outcome_after_rule q row e (with_refusal r s) ≡ outcome_after_rule q row e s
same_ruled r None row e s = same_served r row e s
same_ruled r (Some q) row e s = refl

same_outcome : (r : Refusal) (row : Row) (e : Event) (s : RowState) → outcome_of row e (with_refusal r s) ≡ outcome_of row e s
unfolding outcome_of
same_outcome r row e s = same_ruled r (rule row s.table.leaves e) row e s

events_commute : (r : Refusal) (row : Row) (events : List Event) (s : RowState) → after_events row events (with_refusal r s) ≡ with_refusal r (after_events row events s)
events_commute r row [] s = refl
events_commute r row (e ∷ events) s =
    ap (after_events row events) (event_commutes r row e s) ∙ events_commute r row events (after_event row e s)

same_outcomes : (r : Refusal) (row : Row) (events : List Event) (s : RowState) → outcomes_of row events (with_refusal r s) ≡ outcomes_of row events s
same_outcomes r row [] s = refl
same_outcomes r row (e ∷ events) s =
    let first : outcome_of row e (with_refusal r s) ≡ outcome_of row e s = same_outcome r row e s in
    let next : after_event row e (with_refusal r s) ≡ with_refusal r (after_event row e s) = event_commutes r row e s in
    let rest : outcomes_of row events (with_refusal r (after_event row e s)) ≡ outcomes_of row events (after_event row e s) = same_outcomes r row events (after_event row e s) in
    rw (first, next, rest) refl

-- the state after a refused command
change_refused : (row : Row) (c : Change) (s : RowState) (r : Refusal) (v : Verdict) → verdict c s.table ≡ v
    → outcome_by (answer_by v c s.table) ≡ outcome.Refused r → leaves_nothing r ≡ true
    → changed_by (answer_by v c s.table) row c s ≡ with_refusal r s
unfolding table_after
change_refused row c s r NoSpace is known small =
    let e : refused.NoTable ≡ r = cc in
    rw (is, ← e) refl
change_refused row c s r NoPlace is known small =
    let e : refused.WayAtCap ≡ r = cc in
    let no : false ≡ true = subst (λ (q : Refusal). leaves_nothing q ≡ true) (sym e) small in
    absurd (cc)
change_refused row c s r Made is known small = absurd (cc)

changed_refused : (row : Row) (c : Option Change) (s : RowState) (r : Refusal) → changed_outcome c s ≡ outcome.Refused r
    → leaves_nothing r ≡ true → changed_where c row s ≡ with_refusal r s
unfolding table_answer
changed_refused row None s r known small = absurd (cc)
changed_refused row (Some c) s r known small = change_refused row c s r (verdict c s.table) refl known small

served_refused : (row : Row) (e : Event) (s : RowState) (r : Refusal) → served_outcome row e s ≡ outcome.Refused r
    → leaves_nothing r ≡ true → served row e s ≡ with_refusal r s
unfolding served
served_refused row (event.Access va k) s r known small = absurd (cc)
served_refused row (event.Map space va o perm) s r known small = changed_refused row (change_of row s.table.leaves (event.Map space va o perm)) s r known small
served_refused row (event.Unmap space va o) s r known small = changed_refused row (change_of row s.table.leaves (event.Unmap space va o)) s r known small
served_refused row (event.Protect space va o perm) s r known small = changed_refused row (change_of row s.table.leaves (event.Protect space va o perm)) s r known small
served_refused row (event.Move space from to o) s r known small = changed_refused row (change_of row s.table.leaves (event.Move space from to o)) s r known small
served_refused row (event.Space space) s r known small = absurd (cc)
served_refused row (event.Fence to) s r known small = absurd (cc)

rule_refused : (row : Row) (e : Event) (s : RowState) (r : Refusal) (q : Option Refusal) → outcome_after_rule q row e s ≡ outcome.Refused r
    → leaves_nothing r ≡ true → after_rule q row e s ≡ with_refusal r s
rule_refused row e s r (Some q) known small = let same : q ≡ r = cc in rw same refl
rule_refused row e s r None known small = served_refused row e s r known small

refused_state : (row : Row) (e : Event) (s : RowState) (r : Refusal) → outcome_of row e s ≡ outcome.Refused r
    → leaves_nothing r ≡ true → after_event row e s ≡ with_refusal r s
unfolding after_event outcome_of
refused_state row e s r known small = rule_refused row e s r (rule row s.table.leaves e) known small

a_refusal_leaves_nothing : ARefusalLeavesNothing
a_refusal_leaves_nothing row s e r further known small =
    let is : after_event row e s ≡ with_refusal r s = refused_state row e s r known small in
    (ap (outcomes_of row further) is ∙ same_outcomes r row further s, ap (after_events row further) is ∙ events_commute r row further s)

pub returns : goal.returns
returns c = a_refusal_leaves_nothing
