-- The ends of ranges that no other row tells apart, each worked out by hand: both halves of the addresses, a permission to
-- execute alone, counts at their greatest, the blocks of a command.
use Rattle.std.specs.Prelude.{ℕ, true, false, List, [], ◌∷◌}
use Rattle.std.proofs.Common.{refl}
use Rattle.xl_model.specs.declared.address.Order.TheVariants as order
use Rattle.xl_model.specs.declared.address.Kind.TheVariants as kind
use Rattle.xl_model.specs.declared.event.Event.{Event}
use Rattle.xl_model.specs.declared.event.Event.TheVariants as event
use Rattle.xl_model.specs.declared.perm.Perm.{Perm}
use Rattle.xl_model.specs.Courses.{block_address}
use Rattle.xl_model.specs.Rows.{Row}
use Rattle.xl_model.specs.RowRun.{RowState, opening}
use Rattle.xl_model.specs.Tally.{no_counts}
use Rattle.xl_model.specs.declared.script.Item.{Item}
use Rattle.xl_model.specs.declared.script.Item.TheVariants.{Command, Referenced}
use Rattle.xl_model_rows.specs.Plain.{plain_row, perm_r__u}

-- Page 0 is mapped. The first page of the upper half has another number, 2^26: one load of the root, which has nothing there.
-- Page 0 takes three loads.
abbrev pub both_halves_of_the_addresses_rows : List Row
both_halves_of_the_addresses_rows = plain_row ∷ []

-- What is served then.
abbrev pub both_halves_of_the_addresses_items : List Item
both_halves_of_the_addresses_items =
    (Command (event.Map 0 0 order.K4 perm_r__u)) ∷
    (Referenced 1 18446743798831644672 kind.Load) ∷
    (Referenced 2 0 kind.Load) ∷ []

-- Execute.
abbrev pub perm___xu : Perm
perm___xu = record { r = false; w = false; x = true; u = true; legal = refl }

-- The page may be executed, and neither read nor written: a fetch is served, the load and the store are denied, each after
-- a walk of 3 loads.
abbrev pub a_page_to_execute_rows : List Row
a_page_to_execute_rows = plain_row ∷ []

-- What is served then.
abbrev pub a_page_to_execute_items : List Item
a_page_to_execute_items =
    (Command (event.Map 0 4096 order.K4 perm___xu)) ∷
    (Referenced 1 4096 kind.Load) ∷
    (Referenced 2 4096 kind.Store) ∷
    (Referenced 3 4100 kind.Fetch) ∷ []

-- A row whose counts of accesses, of unmapped ones and of walks are 2^64 - 1.
abbrev pub at_the_greatest : RowState
at_the_greatest = record (opening plain_row) {
  counts = record (no_counts 0) { accesses = 18446744073709551615; unmapped = 18446744073709551615; walks = 18446744073709551615 };
}

-- One access fewer than 2^63.
abbrev pub at_the_half : RowState
at_the_half = record (opening plain_row) { counts = record (no_counts 0) { accesses = 9223372036854775807 } }

-- A map of a 2 MiB leaf, in the block of this number from address 2 MiB on.
abbrev pub map_of_block : ℕ → Event
map_of_block i = event.Map 0 (block_address 2097152 order.M2 i) order.M2 perm_r__u
