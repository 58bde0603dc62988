-- A recency list as places with stamps: the newest item has the greatest stamp.
use Rattle.std.specs.Prelude.{◌≡◌, ℕ, ◌<◌, ◌≤◌, Bool, true, false, nat_lt, nat_le, if◌then◌else◌, List, [], ◌∷◌, length, map, count_by, slice_index_or, ◌⊎◌}
use Rattle.xl_recency.specs.declared.item.Item.{Item}
use Rattle.xl_stamped.specs.declared.stamped.Place.{Place}

-- The place is put before the first one with a lesser stamp.
unfoldable pub with_place : Place → List Place → List Place
with_place x [] = x ∷ []
with_place x (y ∷ ys) = if nat_lt y.stamp x.stamp then (x ∷ y ∷ ys) else (y ∷ with_place x ys)

-- The places by their stamps, the greatest first.
unfoldable pub by_stamp : List Place → List Place
by_stamp [] = []
by_stamp (x ∷ xs) = with_place x (by_stamp xs)

-- The item of a place.
abbrev pub item_of : Place → Item
item_of p = p.item

-- The items by the stamps of their places: the recency list, newest first.
unfoldable pub newest_first : List Place → List Item
newest_first places = map item_of (by_stamp places)

-- The claim holds of each place.
unfoldable pub Each : (Place → Type 0) → List Place → Type 0
Each P [] = Unit {0}
Each P (x ∷ xs) = P x × Each P xs

-- No two places have the same stamp.
unfoldable pub Apart : List Place → Type 0
Apart [] = Unit {0}
Apart (x ∷ xs) = Each (λ y. y.stamp ≡ x.stamp → ⊥) xs × Apart xs

-- The stamps are at most `last`, the last one that was given, and no two are the same.
pub record AreStamps (last : ℕ) (places : List Place) : Type 0 where
  pub given : Each (λ y. y.stamp ≤ last) places
  pub apart : Apart places

-- Of the first `count` places this one has the greatest stamp among those for whose items the
-- closure returned true.
pub record IsNewest (answers : Item → Bool → Type 0) (places : List Place) (count at : ℕ) : Type 0 where
  pub meets : (d : Place) → answers (slice_index_or places at d).item true
  pub newest : (k : ℕ) (d : Place) → k < count → answers (slice_index_or places k d).item false ⊎ ((slice_index_or places k d).stamp ≤ (slice_index_or places at d).stamp)

-- The closure returned false for the item of each place.
pub record NoneMeets (answers : Item → Bool → Type 0) (places : List Place) : Type 0 where
  pub fails : (k : ℕ) (d : Place) → k < length places → answers (slice_index_or places k d).item false

-- The rank of a stamp: how many places have a stamp up to this one.
abbrev pub rank_of : List Place → ℕ → ℕ
rank_of places stamp = count_by (λ y. nat_le y.stamp stamp) places

-- The place with the rank of its stamp in place of the stamp.
abbrev pub renumbered : List Place → Place → Place
renumbered places p = record { stamp = rank_of places p.stamp; item = p.item }
