-- One event of a machine.
use Rattle.xl_machine.proofs.Common.{◌≡◌, after_event, after_of, count_refusal, Counts, Event, fence_rule, Kind, nat_lt, None, Option, Order, outcome_of, Perm, refl, Refusal, refused_by, reply_to, Row, rule, rule_of, Scope, Served, served, Some, subst, sym, TableState, TlbState, unless, ℕ}
use Rattle.xl_model.specs.declared.event.Event.TheVariants as event
use Rattle.xl_model.specs.declared.event.Outcome.TheVariants as outcome
use Rattle.xl_model.specs.declared.event.Refusal.TheVariants as refused

-- an event that a rule refuses
pub refused-outcome : (e : Event) (v : Served) (r : Refusal) → rule_of e v ≡ Some r → outcome.Refused r ≡ outcome_of v.row e v.state
unfolding outcome_of
refused-outcome e v r ruled = rw ruled refl

pub refused-after : (e : Event) (v : Served) (r : Refusal) → rule_of e v ≡ Some r → refused_by r v ≡ after_of e v
unfolding after_event
refused-after e v r ruled = rw ruled refl

-- a refusal that is counted
pub refusal-counted : (row : Row) (table : TableState) (space : ℕ) (tlb : TlbState) (counts : Counts) (r : Refusal) → served row table space tlb (count_refusal r counts) ≡ refused_by r (served row table space tlb counts)
unfolding count_refusal
refusal-counted row table space tlb counts r = refl

-- what a command's rule asks
pub protect-rule : (v : Served) (space va : ℕ) (o : Order) (perm : Perm) → rule_of (event.Protect space va o perm) v ≡ rule_of (event.Unmap space va o) v
unfolding rule
protect-rule v space va o perm = refl

pub space-rule : (row : Row) (v : Served) (space : ℕ) (replied : Option Refusal) → row ≡ v.row → replied ≡ unless (nat_lt space row.spaces) refused.BadSpace → rule_of (event.Space space) v ≡ replied
unfolding rule
space-rule row v space replied e is = let P : Row → Type 0 = λ r. unless (nat_lt space r.spaces) refused.BadSpace ≡ replied in subst P e (sym is)

pub fence-rule : (row : Row) (v : Served) (s : Scope) (replied : Option Refusal) → row ≡ v.row → replied ≡ fence_rule row s → rule_of (event.Fence s) v ≡ replied
unfolding rule
fence-rule row v s replied e is = let P : Row → Type 0 = λ r. fence_rule r s ≡ replied in subst P e (sym is)

-- an event that none refuses
pub access-outcome : (va : ℕ) (kind : Kind) (v : Served) → outcome.Replied (reply_to v.row v.state va kind) ≡ outcome_of v.row (event.Access va kind) v.state
unfolding outcome_of rule
access-outcome va kind v = refl

pub space-outcome : (space : ℕ) (v : Served) → rule_of (event.Space space) v ≡ None → outcome.Done ≡ outcome_of v.row (event.Space space) v.state
unfolding outcome_of
space-outcome space v ruled = rw ruled refl

pub fence-outcome : (s : Scope) (v : Served) → rule_of (event.Fence s) v ≡ None → outcome.Done ≡ outcome_of v.row (event.Fence s) v.state
unfolding outcome_of
fence-outcome s v ruled = rw ruled refl
