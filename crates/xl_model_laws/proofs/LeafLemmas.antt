-- The leaves after an event.
use Rattle.xl_model_laws.proofs.Common.{◌≡◌, accessed, after_by, after_event, after_rule, Answer, answer_of, ap, AReplyIsByTheMapping, Bool, Change, changed, changed_by, changed_where, Err, Event, false, fenced, is_canonical, IsMapping, kept-changed, Kind, Leaf, leaf_at_page, List, looked, looked_by, looked_where, Made, None, NoPlace, NoSpace, Ok, opening, Option, outcome_of, page_of, refl, Refusal, Refused, reply_to, Result, Row, RowState, rule, served, Some, subst, sym, table_after, table_answer, table_fenced, table_made, table_walked, TableState, TheLeavesAreAMapping, TheLowestIsTheLeast, true, Verdict, verdict, walk_filled, Work, ℕ}
use Rattle.xl_model_lemmas.proofs.LowestLemmas.{lowest-is-lowest}
use Rattle.xl_model_laws.proofs.RunLemmas.{Keeps, run-keeps}
use Rattle.xl_model.specs.declared.event.Event.TheVariants as event

pub filled-leaves : (kind : Kind) (found : Option Leaf) (s : RowState) → (walk_filled kind found s).table ≡ s.table
filled-leaves kind None s = refl
filled-leaves kind (Some leaf) s = refl

looked-leaves : (kind : Kind) (answer : Option Answer) (page : ℕ) (s : RowState) → (looked_by kind answer page s).table.leaves ≡ s.table.leaves
unfolding table_walked
looked-leaves kind (Some answer) page s = refl
looked-leaves kind None page s = ap (λ (t : TableState). t.leaves) (filled-leaves kind (leaf_at_page s.space page s.table.leaves) _)

pub accessed-leaves : (row : Row) (va : ℕ) (k : Kind) (s : RowState) → (accessed row va k s).table.leaves ≡ s.table.leaves
unfolding accessed looked
accessed-leaves row va k s = go (is_canonical row.mode va)
  where
    go : (b : Bool) → (looked_where b k (page_of row.mode va) s).table.leaves ≡ s.table.leaves
    go true = looked-leaves k (answer_of k s.arrays s.space (page_of row.mode va)) (page_of row.mode va) s
    go false = refl

-- a table after a change has the changed leaves, or those that it had
table-leaves : (P : List Leaf → Type 0) (c : Change) (t : TableState) (v : Verdict) → P t.leaves → P (changed c t.leaves) → P (after_by v c t).leaves
unfolding table_made
table-leaves P c t Made same new = new
table-leaves P c t NoSpace same new = same
table-leaves P c t NoPlace same new = same

pub changed-table : (answer : Result Work Refused) (row : Row) (c : Change) (s : RowState) → (changed_by answer row c s).table ≡ table_after c s.table
changed-table (Ok work) row c s = refl
changed-table (Err r) row c s = refl

changed-keeps : (row : Row) (c : Option Change) (s : RowState) → IsMapping row s.table.leaves
    → ((d : Change) → c ≡ Some d → IsMapping row (changed d s.table.leaves)) → IsMapping row (changed_where c row s).table.leaves
unfolding table_after
changed-keeps row None s m new = m
changed-keeps row (Some c) s m new =
    subst (λ (t : TableState). IsMapping row t.leaves) (sym (changed-table (table_answer c s.table) row c s))
    (table-leaves (IsMapping row) c s.table (verdict c s.table) m (new c refl))

served-keeps : (row : Row) (e : Event) (s : RowState) → IsMapping row s.table.leaves → rule row s.table.leaves e ≡ None → IsMapping row (served row e s).table.leaves
unfolding served fenced table_fenced
served-keeps row (event.Access va k) s m ruled = subst (IsMapping row) (sym (accessed-leaves row va k s)) m
served-keeps row (event.Map space va o perm) s m ruled = changed-keeps row _ s m (λ c known. kept-changed row s.table.leaves (event.Map space va o perm) c m ruled known)
served-keeps row (event.Unmap space va o) s m ruled = changed-keeps row _ s m (λ c known. kept-changed row s.table.leaves (event.Unmap space va o) c m ruled known)
served-keeps row (event.Protect space va o perm) s m ruled = changed-keeps row _ s m (λ c known. kept-changed row s.table.leaves (event.Protect space va o perm) c m ruled known)
served-keeps row (event.Move space from to o) s m ruled = changed-keeps row _ s m (λ c known. kept-changed row s.table.leaves (event.Move space from to o) c m ruled known)
served-keeps row (event.Space space) s m ruled = m
served-keeps row (event.Fence to) s m ruled = m

ruled-keeps : (row : Row) (e : Event) (s : RowState) (q : Option Refusal) → rule row s.table.leaves e ≡ q → IsMapping row s.table.leaves → IsMapping row (after_rule q row e s).table.leaves
ruled-keeps row e s (Some r) ruled m = m
ruled-keeps row e s None ruled m = served-keeps row e s m ruled

pub mapping-kept : (row : Row) → Keeps row (λ s. IsMapping row s.table.leaves)
unfolding after_event
mapping-kept row e s m = ruled-keeps row e s (rule row s.table.leaves e) refl m

pub opening-mapping : (row : Row) → IsMapping row (opening row).table.leaves
unfolding opening
opening-mapping row = record { sorted = tt; valid = λ x i. absurd i; pages = λ x y page i. absurd i; frames = λ x y frame i. absurd i }

pub the_leaves_are_a_mapping : TheLeavesAreAMapping
the_leaves_are_a_mapping row items = run-keeps row (λ s. IsMapping row s.table.leaves) (mapping-kept row) (opening-mapping row) items

pub a_reply_is_by_the_mapping : AReplyIsByTheMapping
unfolding outcome_of rule reply_to
a_reply_is_by_the_mapping row s va k = refl

pub the_lowest_is_the_least : TheLowestIsTheLeast
the_lowest_is_the_least = lowest-is-lowest
