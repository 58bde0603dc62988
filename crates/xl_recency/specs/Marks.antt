-- Items in slots, and the order of the slots: what lists keep whose items stay in their places.
use Rattle.std.specs.Prelude.{◌≡◌, ℕ, ◌+◌, ◌/◌, ◌%◌, ◌<◌, ◌==◌, Bool, true, false, List, length, map, slice_index_or}
use Rattle.xl_recency.specs.declared.item.Item.{Item}

-- The item has this tag.
abbrev pub has_tag : ℕ → Item → Bool
has_tag tag i = i.tag == tag

-- The mark of a tag: one byte, by which most tags are told apart.
abbrev pub mark_of : ℕ → ℕ
mark_of tag = (tag / 64 % 256 + tag % 256) % 256

-- The mark of an item.
abbrev pub item_mark : Item → ℕ
item_mark i = mark_of i.tag

-- The item in a slot.
abbrev pub item_in : List Item → ℕ → Item
item_in items slot = slice_index_or items slot (record { tag = 0; word = 0 })

-- The items in the order of their slots.
abbrev pub in_order : List Item → List ℕ → List Item
in_order items slots = map (item_in items) slots

-- Each slot is one of `count`, and has one place.
pub record AreSlots (count : ℕ) (slots : List ℕ) : Type 0 where
  pub within : (k : ℕ) → k < count → slice_index_or slots k 0 < count
  pub apart : (i j : ℕ) → i < count → j < count → slice_index_or slots i 0 ≡ slice_index_or slots j 0 → i ≡ j

-- The marks are those of the items in the order of their slots.
pub record AreMarked (count : ℕ) (marks slots : List ℕ) (items : List Item) : Type 0 where
  pub marks_are : marks ≡ map item_mark (in_order items slots)
  pub slots_are : AreSlots count slots

-- The first of some items that has the tag.
pub record IsFirstTag (tag at : ℕ) (items : List Item) : Type 0 where
  pub has : has_tag tag (item_in items at) ≡ true
  pub before : (k : ℕ) → k < at → has_tag tag (item_in items k) ≡ false

-- None of some items has the tag.
abbrev pub LacksTag : ℕ → List Item → Type 0
LacksTag tag items = (k : ℕ) → k < length items → has_tag tag (item_in items k) ≡ false
