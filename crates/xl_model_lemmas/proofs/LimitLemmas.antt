-- A table takes the same spaces and pages after each call, and only a walk counts loads. For the machine too.
use Rattle.xl_model_lemmas.proofs.Common.{◌∙◌, ◌≡◌, brought, Chained, Change, Cuckoo, Leaf, List, narrowed, None, Option, Radix, refl, Result, Runs, Shape, shape_after, Some, subst, sym, widened, ℕ}
use Rattle.xl_model.specs.Structures.{after_by, IsChange, IsWalk, Made, NoPlace, NoSpace, table_after, table_fenced, table_made, table_walked, TableState, Verdict, verdict}
use Rattle.xl_model.specs.declared.event.Reach.{Reach}
use Rattle.xl_model.specs.declared.work.Refused.{Refused}
use Rattle.xl_model.specs.declared.work.Walk.{Walk}
use Rattle.xl_model.specs.declared.work.Work.{Work}
use Rattle.xl_model_lemmas.specs.Limits.{SameLimits}

pub widened-same : (o : Option Leaf) (s : Shape) → SameLimits s (widened o s)
widened-same None s = record { spaces = refl; pages = refl }
widened-same (Some leaf) (Radix levels spaces nodes) = record { spaces = refl; pages = refl }
widened-same (Some leaf) (Chained group buckets entries tags) = record { spaces = refl; pages = refl }
widened-same (Some leaf) (Cuckoo rules ways) = record { spaces = refl; pages = refl }
widened-same (Some leaf) (Runs ranges) = record { spaces = refl; pages = refl }

narrowed-same : (c : Change) (leaves : List Leaf) (s : Shape) → SameLimits s (narrowed c leaves s)
narrowed-same c leaves (Radix levels spaces nodes) = record { spaces = refl; pages = refl }
narrowed-same c leaves (Chained group buckets entries tags) = record { spaces = refl; pages = refl }
narrowed-same c leaves (Cuckoo rules ways) = record { spaces = refl; pages = refl }
narrowed-same c leaves (Runs ranges) = record { spaces = refl; pages = refl }

pub shape-same : (c : Change) (leaves : List Leaf) (s : Shape) → SameLimits s (shape_after c leaves s)
unfolding shape_after
shape-same c leaves s =
    let a = narrowed-same c leaves (widened (brought c leaves) s) in
    let b = widened-same (brought c leaves) s in
    record { spaces = a.spaces ∙ b.spaces; pages = a.pages ∙ b.pages }

after-same : (v : Verdict) (c : Change) (t : TableState) → SameLimits t.shape (after_by v c t).shape
unfolding table_made
after-same Made c t = shape-same c t.leaves t.shape
after-same NoSpace c t = record { spaces = refl; pages = refl }
after-same NoPlace c t = widened-same (brought c t.leaves) t.shape

-- the limits after a change, a walk and a fence
pub limits-changed : (c : Change) (t : TableState) → SameLimits t.shape (table_after c t).shape
unfolding table_after
limits-changed c t = after-same (verdict c t) c t

pub limits-walked : (space page : ℕ) (t : TableState) → SameLimits t.shape (table_walked space page t).shape
unfolding table_walked
limits-walked space page t = record { spaces = refl; pages = refl }

pub limits-fenced : (to : Reach) (t : TableState) → SameLimits t.shape (table_fenced to t).shape
unfolding table_fenced
limits-fenced to t = record { spaces = refl; pages = refl }

-- the same, of a call's clauses
of-shape : (old new after : TableState) → new ≡ after → SameLimits old.shape after.shape → SameLimits old.shape new.shape
of-shape old new after e same = subst (λ (t : TableState). SameLimits old.shape t.shape) (sym e) same

pub same-change : (c : Change) (old new : TableState) (r : Result Work Refused) → IsChange c old r new → SameLimits old.shape new.shape
same-change c old new r is = of-shape old new (table_after c old) is.after (limits-changed c old)

pub same-walk : (space page : ℕ) (old new : TableState) (w : Walk) → IsWalk space page old w new → SameLimits old.shape new.shape
same-walk space page old new w is = of-shape old new (table_walked space page old) is.after (limits-walked space page old)

-- a change and a fence load nothing
pub loads-by : (v : Verdict) (c : Change) (t : TableState) → (after_by v c t).loads ≡ t.loads
unfolding table_made
loads-by Made c t = refl
loads-by NoSpace c t = refl
loads-by NoPlace c t = refl

pub loads-changed : (c : Change) (t : TableState) → (table_after c t).loads ≡ t.loads
unfolding table_after
loads-changed c t = loads-by (verdict c t) c t
