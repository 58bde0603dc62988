-- What a change does to the parts of a row before cached sections are compared, and what the comparison does.
use Rattle.std.specs.Prelude.{ℕ, ◌≡◌, ◌+◌, ◌*◌, ◌/◌, ◌^◌, ◌≤◌, ◌==◌, not, nat_le, Bool, true, false, ◌||◌, List, [], ◌∷◌, map, length, Err}
use Rattle.xl_model.specs.declared.address.Order.{Order}
use Rattle.xl_model.specs.declared.leaf.Leaf.{Leaf}
use Rattle.xl_model.specs.declared.way.Entry.{Entry}
use Rattle.xl_model.specs.declared.way.Moves.{Moves}
use Rattle.xl_model.specs.declared.work.Refused.{Refused}
use Rattle.xl_model.specs.Addresses.{level_of, pages_of, same_order}
use Rattle.xl_model.specs.Changes.{Insert}
use Rattle.xl_model.specs.Mapping.{with_leaf, without_leaf}
use Rattle.xl_model.specs.Placing.{Placed, AtCap}
use Rattle.xl_model.specs.Sections.{section_count}
use Rattle.xl_model.specs.Shapes.{ways_of, with_ways, placed_leaf}
use Rattle.xl_model.specs.Structures.{IsChange}
use Rattle.xl_model.specs.Ways.{with_word, without_entry}
use Rattle.xl_model_lemmas.specs.Sections.{key_in}
use Rattle.xl_sections.specs.Counted.{CountState, count_of}
use Rattle.xl_cuckoo.specs.Table.{CuckooState, inserted, SameEntries, AddsEntry, AreOnce}
use Rattle.xl_cuckoo_walk.specs.Parts.{RowParts, Size, Middle, Large, order_of, SizeParts, size_in, counts_of, HoldsLeaves, IsRow, ways_in, leaves_of_ways, rules_in, loads_in, row_state, table_of, with_table}
use Rattle.xl_cuckoo_walk.specs.Plans.{new_word, refreshed, keys_from}

-- The parts with another word for a key of an order.
abbrev pub with_word_in : Order → ℕ → ℕ → RowParts → RowParts
with_word_in o key word p = with_table o (record (table_of o p) { ways = map (with_word key word) (table_of o p).ways }) p

-- The parts without a key of an order.
abbrev pub without_key_in : Order → ℕ → RowParts → RowParts
without_key_in o key p = with_table o (record (table_of o p) { ways = map (without_entry key) (table_of o p).ways }) p

-- The parts with what an insertion leaves in the table of an order.
abbrev pub with_put_in : Order → CuckooState → RowParts → RowParts
with_put_in o t p = with_table o (record (table_of o p) { ways = t.ways; moved = t.moved }) p

-- An entry found a place in the table of an order.
pub record IsPut (o : Order) (x : Entry) (old new : RowParts) (m : Moves) : Type 0 where
  pub placed : inserted (table_of o old) x ≡ Placed (table_of o new).ways (table_of o new).moved m
  pub added : AddsEntry x (table_of o old).ways (table_of o new).ways

-- An entry found no place in the table of an order.
pub record IsCapped (o : Order) (x : Entry) (old new : RowParts) (m : Moves) : Type 0 where
  pub refused : inserted (table_of o old) x ≡ AtCap (table_of o new).ways m
  pub kept : SameEntries (table_of o old).ways (table_of o new).ways

-- There is room for the section of a leaf more: the leaf is larger than the section, or its section
-- has leaves, or not all sections have.
abbrev pub fits_by : Bool → Bool → Bool → Bool
fits_by lies counted full = not lies || (counted || not full)

-- The counts of the sections of a size have room for a leaf.
abbrev pub has_fit : Order → Leaf → CountState → Bool
has_fit size x c = fits_by (nat_le (level_of x.order) (level_of size)) (not (count_of (key_in size x) c.counts == 0)) (length c.counts == c.room)

-- These keys, or none.
abbrev pub keys_if : Bool → List ℕ → List ℕ
keys_if true keys = keys
keys_if false keys = []

-- The key of the section of a page.
abbrev pub page_key : Order → ℕ → ℕ → ℕ
page_key size space page = space * 2 ^ 45 + page / pages_of size

-- The keys of the sections of a page, of each size.
abbrev pub page_keys : ℕ → ℕ → Size → List ℕ
page_keys space page z = page_key (order_of z) space page ∷ []

-- The keys that the last insertion into the table of an order displaced, where sections of this
-- size have their ways.
abbrev pub keys_moved : Order → RowParts → Size → List ℕ
keys_moved o p z = keys_if (same_order (order_of z) o) (keys_from 0 (table_of o p).moved)

-- The word of the section of a key.
abbrev pub word_of_key : Size → RowParts → ℕ → ℕ
word_of_key z p key = new_word (order_of z) key (counts_of p z).counts (ways_of (order_of z) (ways_in p))

-- What is kept of a size after its cached sections of these keys are compared with what they are
-- now.
abbrev pub size_compared : Size → List ℕ → RowParts → SizeParts
size_compared z keys p = record (size_in z p) { cache = refreshed (word_of_key z p) keys (size_in z p).cache }

-- The parts after the cached sections of these keys of each size are compared.
abbrev pub compared : (Size → List ℕ) → RowParts → RowParts
compared keys p = record p { middle = size_compared Middle (keys Middle) p; large = size_compared Large (keys Large) p }

-- The rules, the loads and the cached sections stay.
pub record StaysBeside (old new : RowParts) : Type 0 where
  pub rules : rules_in new ≡ rules_in old
  pub loads : loads_in new.tables ≡ loads_in old.tables
  pub cache : (z : Size) → (size_in z new).cache ≡ (size_in z old).cache

-- A leaf came, and its insertion found a place.
pub record IsEntered (x : Leaf) (old new : RowParts) (m : Moves) : Type 0 where
  pub holds : HoldsLeaves new (with_leaf x (leaves_of_ways (ways_in old)))
  pub beside : StaysBeside old new
  pub room : (z : Size) → nat_le (section_count (order_of z) (with_leaf x (leaves_of_ways (ways_in old)))) (counts_of old z).room ≡ true
  pub ways : ways_in new ≡ with_ways x.order (table_of x.order new).ways (ways_in old)
  pub placed : placed_leaf (rules_in old) (ways_in old) x ≡ Placed (table_of x.order new).ways (table_of x.order new).moved m

-- A leaf was refused: the row is one as before, and has the growths that were forced.
pub record IsRefused (x : Leaf) (old new : RowParts) (r : Refused) : Type 0 where
  pub row : IsRow new
  pub changes : IsChange (Insert x) (row_state old) (Err r) (row_state new)

-- A leaf went.
pub record IsLeft (space first : ℕ) (o : Order) (old new : RowParts) : Type 0 where
  pub holds : HoldsLeaves new (without_leaf space first (leaves_of_ways (ways_in old)))
  pub beside : StaysBeside old new
  pub ways : ways_in new ≡ with_ways o (map (without_entry (page_key o space first)) (ways_of o (ways_in old))) (ways_in old)
  pub moved : (q : Order) → (table_of q new).moved ≡ (table_of q old).moved
