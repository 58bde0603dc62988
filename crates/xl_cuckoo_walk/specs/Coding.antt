-- Sections as items of recency lists: a section's key is the tag, and its bits and way are the word.
use Rattle.std.specs.Prelude.{ℕ, zero, suc, ◌+◌, ◌*◌, ◌/◌, ◌%◌, ◌^◌, ◌==◌, Bool, not, ◌&&◌, map, Option, None, Some}
use Rattle.xl_model.specs.declared.address.Order.{Order}
use Rattle.xl_model.specs.declared.address.Order.TheVariants as order
use Rattle.xl_model.specs.Base.{one_if}
use Rattle.xl_model.specs.Sections.{Section}
use Rattle.xl_model.specs.declared.event.Reach.{Reach}
use Rattle.xl_model.specs.Caches.{Cached, reaches_space}
use Rattle.xl_recency.specs.declared.item.Item.{Item}

-- A way by its code: 0 is none.
abbrev pub way_by : ℕ → Option ℕ
way_by zero = None
way_by (suc n) = Some n

-- The bit of an order in a section's word.
abbrev pub bit_in : ℕ → Order → Bool
bit_in word order.K4 = word % 2 == 1
bit_in word order.M2 = word / 2 % 2 == 1
bit_in word order.G1 = word / 4 % 2 == 1

-- The section of a tag and a word.
abbrev pub section_by : ℕ → ℕ → Section
section_by tag word = record {
  space = tag / 2 ^ 45;
  block = tag % 2 ^ 45;
  has_k4 = bit_in word order.K4;
  has_m2 = bit_in word order.M2;
  has_g1 = bit_in word order.G1;
  way = way_by (word / 8);
}

-- The section of an item.
abbrev pub section_in : Item → Section
section_in i = section_by i.tag i.word

-- The sections that a cache of items holds.
abbrev pub sections_in : Cached Item → Cached Section
sections_in c = record { width = c.width; items = map section_in c.items }

-- An item has this tag.
abbrev pub has_tag : ℕ → Item → Bool
has_tag tag i = i.tag == tag

-- An item has this tag, and isn't as this word says.
abbrev pub is_old : ℕ → ℕ → Item → Bool
is_old tag word i = (i.tag == tag) && not (i.word == word)

-- The word of an item, if there is one.
abbrev pub word_of_item : Option Item → Option ℕ
word_of_item None = None
word_of_item (Some i) = Some i.word

-- The cached section that a cache returns for a tag.
abbrev pub hit_of : ℕ → Option ℕ → Option Section
hit_of tag None = None
hit_of tag (Some word) = Some (section_by tag word)

-- The code of a way.
abbrev pub code_of : Option ℕ → ℕ
code_of None = 0
code_of (Some n) = suc n

-- The word of a section with these bits and this way.
abbrev pub word_by : Bool → Bool → Bool → Option ℕ → ℕ
word_by k4 m2 g1 way = one_if k4 + (2 * one_if m2 + (4 * one_if g1 + 8 * code_of way))

-- A fence reaches the section of an item.
abbrev pub is_reached : Reach → Item → Bool
is_reached to i = reaches_space to (i.tag / 2 ^ 45)
