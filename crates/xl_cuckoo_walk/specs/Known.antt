-- What is known of a cache of sections beside its list.
use Rattle.std.specs.Prelude.{ℕ, ◌≡◌, ◌<◌, Bool, false, List, find, Option, None, Some}
use Rattle.xl_model.specs.Caches.{Cached, empty_cache}
use Rattle.xl_model.specs.Recency.{touched}
use Rattle.xl_recency.specs.declared.item.Item.{Item}
use Rattle.xl_cuckoo_walk.specs.Coding.{has_tag, word_of_item}

-- A touch of a tag finds this word, and moves nothing.
pub record IsFront (tag word : ℕ) (items : List Item) : Type 0 where
  pub found : Some word ≡ word_of_item (find (has_tag tag) items)
  pub stays : items ≡ touched (has_tag tag) items

-- The section of a tag is in front, where its word is known: no section's word is 0.
abbrev pub IsFrontIf : ℕ → ℕ → List Item → Type 0
IsFrontIf tag word items = 0 < word → IsFront tag word items

-- The word of a section that a touch found, 0 where it found none.
abbrev pub word_known : Option ℕ → ℕ
word_known None = 0
word_known (Some word) = word

-- A list that isn't kept is an empty one of width 0, and the section that is known to be in front
-- is.
pub record IsKnown (is_kept : Bool) (tag word : ℕ) (c : Cached Item) : Type 0 where
  pub off : is_kept ≡ false → c ≡ empty_cache 0
  pub front : IsFrontIf tag word c.items
