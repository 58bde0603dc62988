-- What holds after every list of items, from the opening state: demand is in it.
use Rattle.std.specs.Prelude.{ℕ, ◌≡◌, ◌≤◌, List, length, slice_index_or}
use Rattle.xl_model.specs.declared.address.Kind.{Kind}
use Rattle.xl_model.specs.declared.address.Order.{Order}
use Rattle.xl_model.specs.declared.leaf.Leaf.{Leaf}
use Rattle.xl_model.specs.Addresses.{pages_of}
use Rattle.xl_model.specs.Mapping.{flat}
use Rattle.xl_model.specs.Frames.{lowest}
use Rattle.xl_model.specs.Rows.{Row}
use Rattle.xl_model.specs.RowRun.{RowState, outcome_of}
use Rattle.xl_model.specs.declared.script.Item.{Item}
use Rattle.xl_model.specs.Items.{run}
use Rattle.xl_model_lemmas.specs.Mappings.{IsMapping}
use Rattle.xl_model_lemmas.specs.Lowest.{IsAnswer}
use Rattle.xl_model.specs.declared.event.Event.TheVariants as event
use Rattle.xl_model.specs.declared.event.Outcome.TheVariants as outcome

-- The leaves are a mapping: valid for the row and sorted, no two of a space on one page, no two in
-- one frame.
abbrev pub TheLeavesAreAMapping : Type 0
TheLeavesAreAMapping = (row : Row) (items : List Item) → IsMapping row (run row items).table.leaves

-- An access's reply is that of the flat mapping, whatever the shape, the caches and the arrays
-- hold.
abbrev pub AReplyIsByTheMapping : Type 0
AReplyIsByTheMapping =
    (row : Row) (s : RowState) (va : ℕ) (k : Kind)
    → outcome_of row (event.Access va k) s ≡ outcome.Replied (flat s.table.leaves row.mode s.space va k)

-- The lowest free block is the least multiple of the size whose block lies among the frames and is
-- free; there is none exactly where no such block is free.
abbrev pub TheLowestIsTheLeast : Type 0
TheLowestIsTheLeast =
    (frames : ℕ) (o : Order) (leaves : List Leaf)
    → IsAnswer frames (pages_of o) leaves (lowest frames o leaves)

-- The reads that a row counts are the loads that were made of its table: those of the walks of its
-- accesses.
abbrev pub TheReadsAreTheLoads : Type 0
TheReadsAreTheLoads = (row : Row) (items : List Item) → (run row items).counts.reads ≡ (run row items).table.loads

-- From this place on each count is 0.
abbrev pub IsZeroBeyond : ℕ → List ℕ → Type 0
IsZeroBeyond n counts = (i : ℕ) → n ≤ i → slice_index_or counts i 0 ≡ 0

-- Hits and misses are counted of a row's arrays alone: the places after them are 0.
abbrev pub NothingIsCountedBeyondTheArrays : Type 0
NothingIsCountedBeyondTheArrays =
    (row : Row) (items : List Item) → IsZeroBeyond (length row.tlb) (run row items).counts.hits
    × IsZeroBeyond (length row.tlb) (run row items).counts.misses
