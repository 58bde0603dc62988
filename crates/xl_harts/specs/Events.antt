-- Events of harts, and their outcomes.
use Rattle.std.specs.Prelude.{ℕ, ◌≡◌, List, [], ◌∷◌}
use Rattle.xl_lackey.specs.declared.skim.Access.{Access}
use Rattle.xl_model.specs.declared.leaf.Reply.{Reply}
use Rattle.xl_model.specs.declared.leaf.Reply.TheVariants as reply
use Rattle.xl_model.specs.Structures.{TableState}
use Rattle.xl_harts.specs.Views.{IsCurrent, after_own}
use Rattle.xl_model.specs.declared.address.Kind.{Kind}
use Rattle.xl_model.specs.declared.event.Event.{Event}
use Rattle.xl_model.specs.declared.event.Event.TheVariants as event
use Rattle.xl_hart_model.specs.declared.hart.HartEvent.{HartEvent}
use Rattle.xl_hart_model.specs.declared.hart.HartEvent.TheVariants as step
use Rattle.xl_hart_model.specs.declared.hart.HartOutcome.{HartOutcome}
use Rattle.xl_hart_model.specs.declared.hart.HartRefusal.{HartRefusal}
use Rattle.xl_hart_model.specs.Tally.{hart_refusal_place}
use Rattle.xl_hart_model.specs.Harts.{Hart, HartsState, current_hart, hart_at, hart_outcome, hart_reply}
use Rattle.xl_model.specs.Tally.{IsSmall, one_more_at}

-- An event that isn't a fence.
abbrev pub IsNoFence : Event → Type 0
IsNoFence (event.Access va kind) = Unit {0}
IsNoFence (event.Map space va o perm) = Unit {0}
IsNoFence (event.Unmap space va o) = Unit {0}
IsNoFence (event.Protect space va o perm) = Unit {0}
IsNoFence (event.Move space from to o) = Unit {0}
IsNoFence (event.Space space) = Unit {0}
IsNoFence (event.Fence scope) = ⊥

-- An event of harts that may be served: none for the current hart is a fence.
abbrev pub IsServable : HartEvent → Type 0
IsServable (step.Hart n) = Unit {0}
IsServable (step.Take n) = Unit {0}
IsServable (step.Own e) = IsNoFence e

-- The outcome of an event that is served for the current hart.
abbrev pub outcome_of : Event → HartsState → HartOutcome
outcome_of e s = hart_outcome (step.Own e) s

-- Each reply to a hart is small: the physical addresses of a frame in it are below 2^64.
abbrev pub HasSmallReplies : HartsState → Type 0
HasSmallReplies s = (n : ℕ) (va : ℕ) (kind : Kind) → IsSmall (hart_reply (hart_at n s) s.table.leaves va kind)

-- Harts after a refusal, which is counted; nothing else changes.
abbrev pub refused_by : HartRefusal → HartsState → HartsState
refused_by r s = record s { refused = one_more_at (hart_refusal_place r) s.refused }

-- Harts after accesses of the current hart, one after another.
abbrev pub accesses_served : List Access → HartsState → HartsState
accesses_served [] s = s
accesses_served (a ∷ accesses) s = accesses_served accesses (after_own (event.Access a.va a.kind) s)

-- The reply to the last of them; this one where there is none.
abbrev pub last_reply : Reply → List Access → HartsState → Reply
last_reply r [] s = r
last_reply r (a ∷ accesses) s =
    last_reply (hart_reply (current_hart s) s.table.leaves a.va a.kind) accesses (after_own (event.Access a.va a.kind) s)

-- Accesses of the current hart were served: these are the reply to the last one, the table and the hart then.
pub record AreServed (accesses : List Access) (s : HartsState) (r : Reply) (table : TableState) (h : Hart) : Type 0 where
  pub reply_is : r ≡ last_reply reply.Unmapped accesses s
  pub current : IsCurrent (accesses_served accesses s) table h
