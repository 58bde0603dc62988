-- Commands of harts that no refusal stops: their changes are sound, and the table makes them.
use Rattle.xl_hart_laws.proofs.Common.{◌∷◌, ◌≡◌, [], Bool, brought, Chained, Change, change_of, change_rule, changed, Cuckoo, Event, false, finds_place, first_refusal, hart_change, hart_refusal, hart_rule, HartRefusal, HartSpec, HartsState, has-place, HasPlace, held_leaves, In-left, Insert, insert_at, is_full, IsAnswer, IsFree, IsSound, IsTable, kept_leaves, Leaf, List, list_any, lowest, lowest-is-lowest, narrowed, no-overlap, None, not, of_mapping, Option, or-first, or-second, Order, page-block, page_of, pages_of, Perm, Protect, Radix, refl, refused_unless, Relocate, Remove, rule, Runs, Shape, shape_after, shared_row, Some, sound-of, subst, table_after, table_made, TableState, true, verdict, widened, ℕ}
use Rattle.std.specs.Cmp.{first_so}
use Rattle.xl_model.specs.Room.{has_room}
use Rattle.xl_model.specs.declared.event.Refusal.{Refusal}
use Rattle.xl_hart_model.specs.declared.hart.HartEvent.TheVariants as step
use Rattle.xl_model.specs.declared.address.Mode.TheVariants as mode
use Rattle.xl_model.specs.declared.event.Event.TheVariants as event

-- A change that no refusal stops is sound; a leaf that comes is in frames that no leaf holds, and
-- none is held back.
pub record IsAllowed (s : HartsState) (c : Change) : Type 0 where
  pub sound : IsSound (shared_row s.spec) s.table.leaves c
  pub free : (x : Leaf) → c ≡ Insert x → IsFree (pages_of x.order) x.frame (kept_leaves s)

new-leaf : (s : HartsState) (space va : ℕ) (o : Order) (perm : Perm) (at : Option ℕ) (c : Change)
    → hart_rule s (event.Map space va o perm) ≡ None → IsAnswer s.spec.frames (pages_of o) (kept_leaves s) at
    → insert_at space (page_of mode.Sv39 va) o (record { space = space; first = page_of mode.Sv39 va; order = o; frame = 0; perm = perm }) at ≡ Some c
    → IsAllowed s c
unfolding hart_rule
new-leaf s space va o perm None c ruled is known = absurd (cc)
new-leaf s space va o perm (Some at) c ruled is known =
    let place : HasPlace (shared_row s.spec) space o (va ∷ []) = has-place (shared_row s.spec) space o (va ∷ []) (or-first _ _ ruled) in
    let block = page-block mode.Sv39 o va (first_so _ _ place.all_aligned) in
    let leaf : Leaf = record { space = space; first = page_of mode.Sv39 va; order = o; frame = at; perm = perm } in
    let same : Insert leaf ≡ c = (cc) in
    subst (λ (d : Change). IsAllowed s d) same (record {
      sound = record {
        valid = record { space_in = place.space_in; pages_in = block.0; pages_aligned = block.1; frames_in = is.fits; frames_aligned = is.aligned };
        apart = no-overlap (shared_row s.spec) s.table.leaves space va o (or-first _ _ (or-second _ _ ruled));
        free = λ x i. is.is_free x (In-left x s.table.leaves (held_leaves s.requests) i);
      };
      free = λ x e.
          let k : leaf ≡ x = (cc) in
          subst (λ (y : Leaf). IsFree (pages_of y.order) y.frame (kept_leaves s)) k is.is_free;
    })

other : (s : HartsState) (e : Event) (c : Change) → rule (shared_row s.spec) s.table.leaves e ≡ None → change_of (shared_row s.spec) s.table.leaves e ≡ Some c
    → ((x : Leaf) → c ≡ Insert x → ⊥) → IsAllowed s c
other s e c ruled known none = record { sound = sound-of (shared_row s.spec) s.table.leaves e c ruled known; free = λ x k. absurd (none x k) }

-- a command that no rule stops
pub rule-allows : (s : HartsState) (e : Event) (c : Change) → hart_rule s e ≡ None → hart_change s e ≡ Some c → IsAllowed s c
unfolding hart_rule hart_change change_of
rule-allows s (event.Access va kind) c ruled known = absurd (cc)
rule-allows s (event.Map space va o perm) c ruled known =
    new-leaf s space va o perm (lowest s.spec.frames o (kept_leaves s)) c ruled (lowest-is-lowest s.spec.frames o (kept_leaves s)) known
rule-allows s (event.Unmap space va o) c ruled known = other s (event.Unmap space va o) c ruled known (λ x k. let f : Remove space (page_of mode.Sv39 va) o ≡ c = (cc) in absurd (cc))
rule-allows s (event.Protect space va o perm) c ruled known = other s (event.Protect space va o perm) c ruled known (λ x k. let f : Protect space (page_of mode.Sv39 va) o perm ≡ c = (cc) in absurd (cc))
rule-allows s (event.Move space from to o) c ruled known = other s (event.Move space from to o) c ruled known (λ x k. let f : Relocate space (page_of mode.Sv39 from) (page_of mode.Sv39 to) o ≡ c = (cc) in absurd (cc))
rule-allows s (event.Space space) c ruled known = absurd (cc)
rule-allows s (event.Fence to) c ruled known = absurd (cc)

-- the refusals in turn
pub first-none : (a b : Option HartRefusal) → first_refusal a b ≡ None → a ≡ None
first-none None b h = refl
first-none (Some r) b h = h

pub second-none : (a b : Option HartRefusal) → first_refusal a b ≡ None → b ≡ None
second-none None b h = h
second-none (Some r) b h = absurd (cc)

pub refused-true : (b : Bool) (r : HartRefusal) → refused_unless b r ≡ None → b ≡ true
refused-true true r h = refl
refused-true false r h = absurd (cc)

mapping-none : (r : Option Refusal) → of_mapping r ≡ None → r ≡ None
mapping-none None h = refl
mapping-none (Some r) h = absurd (cc)

pub rule-none : (s : HartsState) (e : Event) → hart_refusal s (step.Own e) ≡ None → hart_rule s e ≡ None
unfolding hart_refusal
rule-none s e h = mapping-none (hart_rule s e) (first-none _ _ h)

pub change-none : (s : HartsState) (e : Event) (c : Change) → hart_refusal s (step.Own e) ≡ None → hart_change s e ≡ Some c → change_rule (Some c) s ≡ None
unfolding hart_refusal
change-none s e c h known = let k : change_rule (hart_change s e) s ≡ None = second-none (of_mapping (hart_rule s e)) _ h in rw known at k

pub room-none : (s : HartsState) (c : Change) → change_rule (Some c) s ≡ None → has_room c s.table.leaves s.table.shape ≡ true
room-none s c h = refused-true _ _ (first-none _ _ h)

pub full-none : (s : HartsState) (c : Change) → change_rule (Some c) s ≡ None → not (list_any (is_full s.spec) s.harts) ≡ true
full-none s c h = refused-true _ _ (second-none (refused_unless (has_room c s.table.leaves s.table.shape) _) _ h)

-- a radix table with room makes the change
placed : (spec : HartSpec) (o : Option Leaf) (shape : Shape) → IsTable spec shape → finds_place o shape ≡ true
placed spec None shape is = refl
placed spec (Some leaf) (Radix levels spaces nodes) is = refl
placed spec (Some leaf) (Chained group buckets entries tags) is = absurd is
placed spec (Some leaf) (Cuckoo rules ways) is = absurd is
placed spec (Some leaf) (Runs ranges) is = absurd is

pub change-made : (spec : HartSpec) (c : Change) (t : TableState) → IsTable spec t.shape → has_room c t.leaves t.shape ≡ true → table_after c t ≡ table_made c t
unfolding table_after verdict
change-made spec c t is room = rw (room, placed spec (brought c t.leaves) t.shape is) refl

pub made-leaves : (c : Change) (t : TableState) → (table_made c t).leaves ≡ changed c t.leaves
unfolding table_made
made-leaves c t = refl

-- it stays the table that it was
widened-is : (spec : HartSpec) (o : Option Leaf) (shape : Shape) → IsTable spec shape → IsTable spec (widened o shape)
widened-is spec None shape is = is
widened-is spec (Some leaf) (Radix levels spaces nodes) is = is
widened-is spec (Some leaf) (Chained group buckets entries tags) is = absurd is
widened-is spec (Some leaf) (Cuckoo rules ways) is = absurd is
widened-is spec (Some leaf) (Runs ranges) is = absurd is

narrowed-is : (spec : HartSpec) (c : Change) (leaves : List Leaf) (shape : Shape) → IsTable spec shape → IsTable spec (narrowed c leaves shape)
narrowed-is spec c leaves (Radix levels spaces nodes) is = is
narrowed-is spec c leaves (Chained group buckets entries tags) is = absurd is
narrowed-is spec c leaves (Cuckoo rules ways) is = absurd is
narrowed-is spec c leaves (Runs ranges) is = absurd is

pub made-table : (spec : HartSpec) (c : Change) (t : TableState) → IsTable spec t.shape → IsTable spec (table_made c t).shape
unfolding table_made shape_after
made-table spec c t is = narrowed-is spec c t.leaves (widened (brought c t.leaves) t.shape) (widened-is spec (brought c t.leaves) t.shape is)
