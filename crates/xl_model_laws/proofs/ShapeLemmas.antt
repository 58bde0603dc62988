-- What a shape keeps at every change, it keeps in every run.
use Rattle.xl_model_laws.proofs.Common.{◌≡◌, accessed, after_by, after_event, after_rule, Answer, answer_of, ap, Bool, brought, Change, change_of, changed_where, Event, false, fenced, is_canonical, Item, Kind, Leaf, leaf_at_page, levels_of, List, looked, looked_by, looked_where, Made, None, NoPlace, NoSpace, opening, opening_shape, Option, page_of, refl, Refusal, Row, RowState, rule, run, served, Shape, shape_after, Some, subst, sym, table_after, table_answer, table_fenced, table_made, table_walked, TableState, true, Verdict, verdict, widened, ℕ}
use Rattle.xl_model_laws.proofs.LeafLemmas.{changed-table, filled-leaves}
use Rattle.xl_model_laws.proofs.RunLemmas.{Keeps, run-keeps}
use Rattle.xl_model.specs.declared.event.Event.TheVariants as event

-- a fact of shapes that each change keeps, and each refused attempt
pub record ShapeKeeps (P : Shape → Type 0) : Type 0 where
  pub made : (c : Change) (leaves : List Leaf) (shape : Shape) → P shape → P (shape_after c leaves shape)
  pub refused : (leaf : Option Leaf) (shape : Shape) → P shape → P (widened leaf shape)

looked-shape : (kind : Kind) (answer : Option Answer) (page : ℕ) (s : RowState) → (looked_by kind answer page s).table.shape ≡ s.table.shape
unfolding table_walked
looked-shape kind (Some answer) page s = refl
looked-shape kind None page s = ap (λ (t : TableState). t.shape) (filled-leaves kind (leaf_at_page s.space page s.table.leaves) _)

pub accessed-shape : (row : Row) (va : ℕ) (k : Kind) (s : RowState) → (accessed row va k s).table.shape ≡ s.table.shape
unfolding accessed looked
accessed-shape row va k s = go (is_canonical row.mode va)
  where
    go : (b : Bool) → (looked_where b k (page_of row.mode va) s).table.shape ≡ s.table.shape
    go true = looked-shape k (answer_of k s.arrays s.space (page_of row.mode va)) (page_of row.mode va) s
    go false = refl

table-shape : (P : Shape → Type 0) → ShapeKeeps P → (c : Change) (t : TableState) (v : Verdict) → P t.shape → P (after_by v c t).shape
unfolding table_made
table-shape P keeps c t Made h = keeps.made c t.leaves t.shape h
table-shape P keeps c t NoSpace h = h
table-shape P keeps c t NoPlace h = keeps.refused (brought c t.leaves) t.shape h

changed-shape : (P : Shape → Type 0) → ShapeKeeps P → (row : Row) (c : Option Change) (s : RowState) → P s.table.shape → P (changed_where c row s).table.shape
unfolding table_after
changed-shape P keeps row None s h = h
changed-shape P keeps row (Some c) s h =
    subst (λ (t : TableState). P t.shape) (sym (changed-table (table_answer c s.table) row c s)) (table-shape P keeps c s.table (verdict c s.table) h)

served-shape : (P : Shape → Type 0) → ShapeKeeps P → (row : Row) (e : Event) (s : RowState) → P s.table.shape → P (served row e s).table.shape
unfolding served fenced table_fenced
served-shape P keeps row (event.Access va k) s h = subst P (sym (accessed-shape row va k s)) h
served-shape P keeps row (event.Map space va o perm) s h = changed-shape P keeps row (change_of row s.table.leaves (event.Map space va o perm)) s h
served-shape P keeps row (event.Unmap space va o) s h = changed-shape P keeps row (change_of row s.table.leaves (event.Unmap space va o)) s h
served-shape P keeps row (event.Protect space va o perm) s h = changed-shape P keeps row (change_of row s.table.leaves (event.Protect space va o perm)) s h
served-shape P keeps row (event.Move space from to o) s h = changed-shape P keeps row (change_of row s.table.leaves (event.Move space from to o)) s h
served-shape P keeps row (event.Space space) s h = h
served-shape P keeps row (event.Fence to) s h = h

ruled-shape : (P : Shape → Type 0) → ShapeKeeps P → (row : Row) (e : Event) (s : RowState) (q : Option Refusal) → P s.table.shape → P (after_rule q row e s).table.shape
ruled-shape P keeps row e s (Some r) h = h
ruled-shape P keeps row e s None h = served-shape P keeps row e s h

pub shape-kept : (P : Shape → Type 0) → ShapeKeeps P → (row : Row) → Keeps row (λ s. P s.table.shape)
unfolding after_event
shape-kept P keeps row e s h = ruled-shape P keeps row e s (rule row s.table.leaves e) h

pub run-shape : (P : Shape → Type 0) → ShapeKeeps P → (row : Row) → P (opening_shape (levels_of row.mode) row.spaces row.table) → (items : List Item) → P (run row items).table.shape
unfolding opening
run-shape P keeps row first items = run-keeps row (λ s. P s.table.shape) (shape-kept P keeps row) first items
