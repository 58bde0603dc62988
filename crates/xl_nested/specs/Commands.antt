-- What the commands of a guest over a host answer and leave.
use Rattle.std.specs.Prelude.{ℕ, ◌≡◌, ◌+◌, ◌*◌, ◌≤◌, not, ◌||◌, Option, None, Some, Result, Ok, Err}
use Rattle.xl_model.specs.declared.address.Mode.TheVariants as mode
use Rattle.xl_model.specs.declared.address.Order.{Order}
use Rattle.xl_nested_model.specs.declared.nest.NestCounts.{NestCounts}
use Rattle.xl_nested_model.specs.declared.nest.NestEvent.{NestEvent}
use Rattle.xl_nested_model.specs.declared.nest.NestOutcome.{NestOutcome}
use Rattle.xl_nested_model.specs.declared.nest.NestOutcome.TheVariants as outcome
use Rattle.xl_nested_model.specs.declared.nest.NestRefusal.{NestRefusal}
use Rattle.xl_nested_model.specs.declared.nest.NestRefusal.TheVariants as refused
use Rattle.xl_model.specs.Addresses.{is_aligned, is_canonical, pages_of}
use Rattle.xl_nested_model.specs.Tally.{IsSmallOutcome, count_nest_accepted, count_nest_refusal}
use Rattle.xl_nested_model.specs.Rules.{refused_if, is_beyond}
use Rattle.xl_nested_model.specs.Nested.{NestState, after_nest_event, nest_outcome}
use Rattle.xl_nested.specs.Laws.{EventLaws}

-- The place of a block: it begins at a multiple of its size, and ends at a limit or before.
pub record IsPlace (at : ℕ) (o : Order) (limit : ℕ) : Type 0 where
  pub within : at + pages_of o ≤ limit
  pub aligned : (e : ℕ) × (at ≡ e * pages_of o)

-- Refusals 1 and 2 of a guest physical address, and then the next.
abbrev pub gaddr_rule : ℕ → Order → Option NestRefusal → Option NestRefusal
gaddr_rule gaddr o next = refused_if (is_beyond gaddr) refused.BadAddress (refused_if (not (is_aligned o gaddr)) refused.Misaligned next)

-- The same of a virtual address.
abbrev pub va_rule : ℕ → Order → Option NestRefusal → Option NestRefusal
va_rule va o next = refused_if (not (is_canonical mode.Sv39 va)) refused.BadAddress (refused_if (not (is_aligned o va)) refused.Misaligned next)

-- The same of both: 1 of either, then 2 of either.
abbrev pub pair_rule : ℕ → ℕ → Order → Option NestRefusal → Option NestRefusal
pair_rule va gaddr o next =
    refused_if (not (is_canonical mode.Sv39 va) || is_beyond gaddr) refused.BadAddress
    (refused_if (not (is_aligned o va) || not (is_aligned o gaddr)) refused.Misaligned next)

-- A command was done where no refusal holds; or it was refused for the first that holds, and nothing changed.
abbrev pub IsServed : {U A : Type 0} → Option NestRefusal → Result U NestRefusal → A → A → A → Type 0
IsServed rule (Ok u) old after new = (rule ≡ None) × (new ≡ after)
IsServed rule (Err r) old after new = (rule ≡ Some r) × (new ≡ old)

-- The leaf was added; or the table had no room, and it was refused so.
abbrev pub IsAsAdded : {U V E : Type 0} → Result U E → Result V NestRefusal → Type 0
IsAsAdded (Ok u) (Ok v) = Unit {0}
IsAsAdded (Ok u) (Err r) = ⊥
IsAsAdded (Err d) (Ok v) = ⊥
IsAsAdded (Err d) (Err r) = r ≡ refused.NoTable

-- The outcome of a command.
abbrev pub outcome_settled : {U : Type 0} → Result U NestRefusal → NestOutcome
outcome_settled (Ok u) = outcome.Done
outcome_settled (Err r) = outcome.Refused r

-- The counts after a command.
abbrev pub counts_settled : {U : Type 0} → Result U NestRefusal → NestCounts → NestCounts
counts_settled (Ok u) c = count_nest_accepted c
counts_settled (Err r) c = count_nest_refusal r c

-- An event has the outcome and leaves the state that the definitions say.
pub record IsSettled (e : NestEvent) (result : NestOutcome) (old new : NestState) : Type 0 where
  pub small : IsSmallOutcome result
  pub laws : EventLaws e result old new
  pub outcome_is : result ≡ nest_outcome e old
  pub after_is : new ≡ after_nest_event e old
