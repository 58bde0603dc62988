-- The refusals of a machine, and the leaves that its commands name.
use Rattle.std.specs.Prelude.{ℕ, Option}
use Rattle.xl_model.specs.declared.address.Order.{Order}
use Rattle.xl_model.specs.declared.leaf.Leaf.{Leaf}
use Rattle.xl_model.specs.declared.event.Event.{Event}
use Rattle.xl_model.specs.declared.event.Refusal.{Refusal}
use Rattle.xl_model.specs.Addresses.{page_of}
use Rattle.xl_model.specs.Mapping.{leaf_at_page}
use Rattle.xl_model.specs.Rules.{rule, there_rule}
use Rattle.xl_model.specs.Scenes.{Served}

-- The first of refusals 1 to 7 that holds for an event at a machine.
abbrev pub rule_of : Event → Served → Option Refusal
rule_of e v = rule v.row v.state.table.leaves e

-- Refusals 4 and 5 for an address at a machine: exactly the leaf that is named covers its page.
abbrev pub there_of : ℕ → ℕ → Order → Served → Option Refusal
there_of space va o v = there_rule v.row v.state.table.leaves space va o

-- The leaf that covers the page of an address at a machine, if there is one.
abbrev pub leaf_of : ℕ → ℕ → Served → Option Leaf
leaf_of space va v = leaf_at_page space (page_of v.row.mode va) v.state.table.leaves
