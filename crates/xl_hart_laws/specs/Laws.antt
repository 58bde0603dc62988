-- Laws of harts: what holds after every list of events, from the opening.
use Rattle.std.specs.Prelude.{ℕ, ◌≡◌, ◌-◌, ◌<◌, ◌≤◌, true, false, List, ◌∷◌, length, take, None, Some}
use Rattle.std.specs.List.{list_any}
use Rattle.xl_model.specs.declared.address.Kind.{Kind}
use Rattle.xl_model.specs.declared.address.Mode.TheVariants as mode
use Rattle.xl_model.specs.declared.address.Order.{Order}
use Rattle.xl_hart_model.specs.declared.hart.HartEvent.{HartEvent}
use Rattle.xl_hart_model.specs.declared.hart.HartSpec.{HartSpec}
use Rattle.xl_model.specs.declared.leaf.Leaf.{Leaf}
use Rattle.xl_model.specs.declared.leaf.Reply.TheVariants as reply
use Rattle.xl_model.specs.Addresses.{pages_of}
use Rattle.xl_model.specs.Frames.{lowest}
use Rattle.xl_model.specs.declared.event.Event.{Event}
use Rattle.xl_hart_model.specs.declared.hart.HartEvent.TheVariants as step
use Rattle.xl_model.specs.Changes.{Change}
use Rattle.xl_hart_model.specs.Harts.{Hart, HartsState, hart_at, hart_change, hart_refusal, hart_reply, kept_leaves, queue_of, opening_harts, after_hart_event, after_hart_events}
use Rattle.xl_model.specs.Mapping.{flat, holds_frames}
use Rattle.xl_hart_model.specs.Requests.{request_of, older}
use Rattle.xl_model_lemmas.specs.Fresh.{InSets}
use Rattle.xl_hart_laws.specs.Kept.{IsHartSpec}

-- The reply to an access of a hart is that of the flat mapping with `undone` of the hart's newest
-- requests undone: at most all of its queue, so that it is of no mapping before the last request
-- that the hart has taken.
pub record IsOlderReply (h : Hart) (s : HartsState) (va : ℕ) (kind : Kind) : Type 0 where
  pub undone : ℕ
  pub in_queue : undone ≤ length (queue_of h s)
  pub reply_is : hart_reply h s.table.leaves va kind ≡ flat (older undone (queue_of h s) s.table.leaves) mode.Sv39 h.space va kind

-- The block that a map takes: no hart's array has a leaf that holds one of its frames.
abbrev pub IsOutOfReach : HartsState → Type 0
IsOutOfReach s =
    (o : Order) (at : ℕ) → lowest s.spec.frames o (kept_leaves s) ≡ Some at
    → (n : ℕ) (x : Leaf) → InSets x (hart_at n s).array.sets → holds_frames at (pages_of o) x ≡ false

-- A frame in a reply to a hart is in the mapping or held back.
abbrev pub IsFrameKept : Hart → HartsState → Type 0
IsFrameKept h s =
    (va : ℕ) (kind : Kind) (frame : ℕ) → hart_reply h s.table.leaves va kind ≡ reply.Frame frame
    → list_any (holds_frames frame 1) (kept_leaves s) ≡ true

-- What is promised of harts in a state.
pub record IsCoherent (s : HartsState) : Type 0 where
  pub older_replies : (n : ℕ) (va : ℕ) (kind : Kind) → IsOlderReply (hart_at n s) s va kind
  pub out_of_reach : IsOutOfReach s
  pub frames_kept : (n : ℕ) → IsFrameKept (hart_at n s) s

-- After every list of events each reply to a hart is of a mapping that its queue leads back to, no
-- map takes a frame that an array reaches, and each frame of a reply is in the mapping or held
-- back.
abbrev pub HartsAreCoherent : Type 0
HartsAreCoherent = (spec : HartSpec) (events : List HartEvent) → IsHartSpec spec → IsCoherent (after_hart_events events (opening_harts spec))

-- A command that changes the mapping puts its request in front of this hart's queue.
abbrev pub ComesIntoQueue : HartsState → ℕ → Type 0
ComesIntoQueue s n =
    (e : Event) (c : Change) → hart_refusal s (step.Own e) ≡ None → hart_change s e ≡ Some c
    → queue_of (hart_at n (after_hart_event (step.Own e) s)) (after_hart_event (step.Own e) s) ≡ request_of c s.table.leaves ∷ queue_of (hart_at n s) s

-- A hart that takes a request takes the oldest of its queue, and the queues of others stay.
pub record TakesOldest (s : HartsState) (n : ℕ) : Type 0 where
  pub own : queue_of (hart_at n (after_hart_event (step.Take n) s)) (after_hart_event (step.Take n) s) ≡ take (length (queue_of (hart_at n s) s) - 1) (queue_of (hart_at n s) s)
  pub others : (m : ℕ) → (m ≡ n → ⊥) → queue_of (hart_at m (after_hart_event (step.Take n) s)) (after_hart_event (step.Take n) s) ≡ queue_of (hart_at m s) s

-- What is promised of the queues in a state: a request comes into each; one takes its oldest; and
-- what holds frames back are the requests of one of them, which has all that the others have.
pub record AreQueues (s : HartsState) : Type 0 where
  pub comes : (n : ℕ) → n < length s.harts → ComesIntoQueue s n
  pub takes : (n : ℕ) → hart_refusal s (step.Take n) ≡ None → TakesOldest s n
  pub longest : (n : ℕ) × (queue_of (hart_at n s) s ≡ s.requests)

-- One list of requests serves all harts: after every list of events its newest are queues.
abbrev pub OneListServesAllQueues : Type 0
OneListServesAllQueues = (spec : HartSpec) (events : List HartEvent) → IsHartSpec spec → AreQueues (after_hart_events events (opening_harts spec))
