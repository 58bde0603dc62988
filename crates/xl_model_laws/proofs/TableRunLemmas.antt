-- What the leaves and the shape of a table keep at every change, they keep in every run.
use Rattle.xl_model_laws.proofs.Common.{◌≡◌, [], accessed, after_by, after_event, after_rule, Bool, brought, Change, change_of, changed, changed_where, Event, false, fenced, finds_place, has_room, IsMapping, IsSound, Item, kept-sound, Kind, Leaf, levels_of, List, Made, None, NoPlace, NoSpace, opening, opening_shape, Option, refl, Refusal, Row, RowState, rule, run, served, Shape, shape_after, Some, sound-of, subst, sym, table_after, table_answer, table_fenced, table_made, TableState, true, Verdict, verdict, verdict_by, widened}
use Rattle.xl_model_laws.proofs.LeafLemmas.{accessed-leaves, changed-table, opening-mapping}
use Rattle.xl_model_laws.proofs.RunLemmas.{run-keeps}
use Rattle.xl_model_laws.proofs.ShapeLemmas.{accessed-shape}
use Rattle.xl_model.specs.declared.event.Event.TheVariants as event

-- what a verdict says
pub made-room : (room placed : Bool) → verdict_by room placed ≡ Made → room ≡ true
made-room true true h = refl
made-room true false h = absurd (cc)
made-room false placed h = absurd (cc)

made-place : (room placed : Bool) → verdict_by room placed ≡ Made → placed ≡ true
made-place true true h = refl
made-place true false h = absurd (cc)
made-place false placed h = absurd (cc)

pub caps-placed : (room placed : Bool) → verdict_by room placed ≡ NoPlace → placed ≡ false
caps-placed true true h = absurd (cc)
caps-placed true false h = refl
caps-placed false placed h = absurd (cc)

-- a fact of leaves and shape that a change which is made keeps, and an attempt that finds no place
pub record TableKeeps (row : Row) (P : List Leaf → Shape → Type 0) : Type 0 where
  pub made : (c : Change) (leaves : List Leaf) (shape : Shape) → IsMapping row leaves → IsSound row leaves c → has_room c leaves shape ≡ true
      → finds_place (brought c leaves) shape ≡ true → P leaves shape → P (changed c leaves) (shape_after c leaves shape)
  pub refused : (leaf : Option Leaf) (leaves : List Leaf) (shape : Shape) → finds_place leaf shape ≡ false → P leaves shape → P leaves (widened leaf shape)

-- the leaves are a mapping, and the fact holds
pub record Holds (row : Row) (P : List Leaf → Shape → Type 0) (t : TableState) : Type 0 where
  pub mapping : IsMapping row t.leaves
  pub holds : P t.leaves t.shape

module _ (row : Row) (P : List Leaf → Shape → Type 0) (keeps : TableKeeps row P) where
  table-holds : (c : Change) (t : TableState) (v : Verdict) → verdict c t ≡ v → IsSound row t.leaves c → Holds row P t → Holds row P (after_by v c t)
  unfolding verdict table_made
  table-holds c t Made is sound h = record {
    mapping = kept-sound row t.leaves c h.mapping sound;
    holds = keeps.made c t.leaves t.shape h.mapping sound (made-room _ _ is) (made-place _ _ is) h.holds;
  }
  table-holds c t NoSpace is sound h = h
  table-holds c t NoPlace is sound h = record { mapping = h.mapping; holds = keeps.refused (brought c t.leaves) t.leaves t.shape (caps-placed _ _ is) h.holds }

  changed-holds : (c : Option Change) (s : RowState) → ((d : Change) → c ≡ Some d → IsSound row s.table.leaves d) → Holds row P s.table → Holds row P (changed_where c row s).table
  unfolding table_after
  changed-holds None s sound h = h
  changed-holds (Some c) s sound h =
      subst (Holds row P) (sym (changed-table (table_answer c s.table) row c s)) (table-holds c s.table (verdict c s.table) refl (sound c refl) h)

  accessed-holds : (va : _) (k : Kind) (s : RowState) → Holds row P s.table → Holds row P (accessed row va k s).table
  accessed-holds va k s h = record {
    mapping = subst (IsMapping row) (sym (accessed-leaves row va k s)) h.mapping;
    holds = subst (λ leaves. P leaves (accessed row va k s).table.shape) (sym (accessed-leaves row va k s)) (subst (P s.table.leaves) (sym (accessed-shape row va k s)) h.holds);
  }

  served-holds : (e : Event) (s : RowState) → rule row s.table.leaves e ≡ None → Holds row P s.table → Holds row P (served row e s).table
  unfolding served fenced table_fenced
  served-holds (event.Access va kind) s ruled h = accessed-holds va kind s h
  served-holds (event.Map space va o perm) s ruled h = changed-holds (change_of row s.table.leaves (event.Map space va o perm)) s (λ c known. sound-of row s.table.leaves (event.Map space va o perm) c ruled known) h
  served-holds (event.Unmap space va o) s ruled h = changed-holds (change_of row s.table.leaves (event.Unmap space va o)) s (λ c known. sound-of row s.table.leaves (event.Unmap space va o) c ruled known) h
  served-holds (event.Protect space va o perm) s ruled h = changed-holds (change_of row s.table.leaves (event.Protect space va o perm)) s (λ c known. sound-of row s.table.leaves (event.Protect space va o perm) c ruled known) h
  served-holds (event.Move space from to o) s ruled h = changed-holds (change_of row s.table.leaves (event.Move space from to o)) s (λ c known. sound-of row s.table.leaves (event.Move space from to o) c ruled known) h
  served-holds (event.Space space) s ruled h = h
  served-holds (event.Fence to) s ruled h = record { mapping = h.mapping; holds = h.holds }

  ruled-holds : (e : Event) (s : RowState) (q : Option Refusal) → rule row s.table.leaves e ≡ q → Holds row P s.table → Holds row P (after_rule q row e s).table
  ruled-holds e s (Some r) ruled h = h
  ruled-holds e s None ruled h = served-holds e s ruled h

  event-holds : (e : Event) (s : RowState) → Holds row P s.table → Holds row P (after_event row e s).table
  unfolding after_event
  event-holds e s h = ruled-holds e s (rule row s.table.leaves e) refl h

  pub run-holds : P [] (opening_shape (levels_of row.mode) row.spaces row.table) → (items : List Item) → Holds row P (run row items).table
  unfolding opening
  run-holds first items =
      run-keeps row (λ s. Holds row P s.table) event-holds (record { mapping = opening-mapping row; holds = first }) items
