-- The keys of a cuckoo row: its ways have exactly those of its leaves.
use Rattle.std.specs.Prelude.{ℕ, ◌≡◌, ◌≤◌, List}
use Rattle.xl_model.specs.declared.address.Order.{Order}
use Rattle.xl_model.specs.declared.leaf.Leaf.{Leaf}
use Rattle.xl_model.specs.declared.script.Item.{Item}
use Rattle.xl_model.specs.declared.way.Entry.{Entry}
use Rattle.xl_model.specs.Ways.{WayShape, has_key}
use Rattle.xl_model.specs.Shapes.{Shape, Radix, Chained, Cuckoo, Runs, ways_of, leaf_entry}
use Rattle.xl_model.specs.Rows.{Row, IsRow}
use Rattle.xl_model.specs.Items.{run}
use Rattle.xl_list_lemmas.specs.Members.{In}
use Rattle.xl_list_lemmas.specs.Tallies.{tally}
use Rattle.xl_model_lemmas.specs.Sections.{entries_in}

-- each leaf of an order has its key and word in the ways, no other entry is there, and each key is
-- in one way alone
pub record AreEntriesOf (o : Order) (leaves : List Leaf) (ways : List WayShape) : Type 0 where
  pub once : (key : ℕ) → tally (has_key key) (entries_in ways) ≤ 1
  pub there : (leaf : Leaf) → In leaf leaves → leaf.order ≡ o → In (leaf_entry leaf) (entries_in ways)
  pub only : (e : Entry) → In e (entries_in ways) → (leaf : Leaf) × In leaf leaves × (leaf.order ≡ o) × (e ≡ leaf_entry leaf)

-- in a cuckoo row so are the entries of each order
abbrev pub HasEntries : List Leaf → Shape → Type 0
HasEntries leaves (Radix levels spaces nodes) = Unit {0}
HasEntries leaves (Chained group buckets entries tags) = Unit {0}
HasEntries leaves (Cuckoo rules ways) = (o : Order) → AreEntriesOf o leaves (ways_of o ways)
HasEntries leaves (Runs ranges) = Unit {0}

-- After every list of items each leaf of a cuckoo row has its key in one way of its order, and no
-- other key is there.
abbrev pub EachLeafHasItsKey : Type 0
EachLeafHasItsKey =
    (row : Row) (items : List Item) → IsRow row
    → HasEntries (run row items).table.leaves (run row items).table.shape
