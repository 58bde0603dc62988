-- The sections in which leaves lie, and the entries of cuckoo ways.
use Rattle.std.specs.Prelude.{Bool, List, [], nat_le, ℕ, ◌&&◌, ◌*◌, ◌++◌, ◌+◌, ◌/◌, ◌==◌, ◌∷◌, ◌≡◌}
use Rattle.xl_model.specs.Addresses.{level_of, pages_of, same_order}
use Rattle.xl_model.specs.Sections.{section_key}
use Rattle.xl_model.specs.Ways.{WayShape}
use Rattle.xl_model.specs.declared.address.Order.{Order}
use Rattle.xl_model.specs.declared.leaf.Leaf.{Leaf}
use Rattle.xl_model.specs.declared.way.Entry.{Entry}
use Rattle.xl_model_lemmas.specs.Kept.{IsPlaced}

-- the key of the section of this size in which a leaf begins
abbrev pub key_in : Order → Leaf → ℕ
key_in size leaf = section_key leaf.space (leaf.first / pages_of size)

-- a leaf counts for the section of this key: it lies there, and is not larger than the section
abbrev pub counts_at : Order → ℕ → Leaf → Bool
counts_at size key leaf = nat_le (level_of leaf.order) (level_of size) && (key_in size leaf == key)

-- a leaf of this order counts for the section
abbrev pub of_order : Order → ℕ → Order → Leaf → Bool
of_order size key o leaf = counts_at size key leaf && same_order leaf.order o

-- a leaf at a place that a table of chains or ways has, and at a multiple of its size
pub record IsAligned (leaf : Leaf) : Type 0 where
  pub placed : IsPlaced leaf
  pub aligned : (e : ℕ) × (leaf.first ≡ e * pages_of leaf.order)

-- the entries that are in a way
abbrev pub entries_of : WayShape → List Entry
entries_of w = w.entries

-- the entries of all ways, way by way
abbrev pub entries_in : List WayShape → List Entry
entries_in [] = []
entries_in (w ∷ ways) = w.entries ++ entries_in ways
