-- A worked row of a guest over a host.
use Rattle.std.specs.Prelude.{true, false, refl, List}
use Rattle.xl_model.specs.declared.perm.Perm.{Perm}
use Rattle.xl_nested_model.specs.declared.nest.Nest.{Nest}
use Rattle.xl_nested_model.specs.declared.nest.NestCounts.{NestCounts}
use Rattle.xl_nested_model.specs.declared.nest.NestEvent.{NestEvent}
use Rattle.xl_nested_model.specs.declared.nest.NestOutcome.{NestOutcome}
use Rattle.xl_nested_model.specs.Nested.{nest_counts, nest_outcomes, nest_run, opening_nest}

-- The sizes, the events, and the outcomes and counts that were worked out apart from the
-- definitions.
pub record NestRow : Type 0 where
  pub nest : Nest
  pub events : List NestEvent
  pub outcomes : List NestOutcome
  pub counts : NestCounts

-- The outcomes by the definitions.
abbrev pub outcomes_of : NestRow → List NestOutcome
outcomes_of row = nest_outcomes row.events (opening_nest row.nest)

-- The counts by the definitions.
abbrev pub counts_of : NestRow → NestCounts
counts_of row = nest_counts (nest_run row.events (opening_nest row.nest))

-- Read.
abbrev pub perm_r__u : Perm
perm_r__u = record { r = true; w = false; x = false; u = true; legal = refl }

-- Read and execute.
abbrev pub perm_r_xu : Perm
perm_r_xu = record { r = true; w = false; x = true; u = true; legal = refl }

-- Read and write.
abbrev pub perm_rw_u : Perm
perm_rw_u = record { r = true; w = true; x = false; u = true; legal = refl }

-- Read, write and execute.
abbrev pub perm_rwxu : Perm
perm_rwxu = record { r = true; w = true; x = true; u = true; legal = refl }

-- Execute.
abbrev pub perm___xu : Perm
perm___xu = record { r = false; w = false; x = true; u = true; legal = refl }

-- Read, write and execute, for the supervisor alone.
abbrev pub perm_rwx_ : Perm
perm_rwx_ = record { r = true; w = true; x = true; u = false; legal = refl }
