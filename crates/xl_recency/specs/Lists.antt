-- Recency lists (LRU), one alone or many in sets: what their calls answer and what they leave.
use Rattle.std.specs.Prelude.{◌≡◌, ℕ, ◌+◌, ◌<◌, Bool, true, false, List, [], ◌∷◌, length, map, find, drop, slice_index_or, slice_set, Option, option_to_list}
use Rattle.xl_model.specs.Recency.{touched, with_newest, purged}

-- A closure computes this test.
pub record IsTest {A : Type 0} (answers : A → Bool → Type 0) (test : A → Bool) : Type 0 where
  pub same : (x : A) (answer : Bool) → answers x answer → answer ≡ test x

-- This is the first item for which the closure returned true.
pub record IsFirst {A : Type 0} (answers : A → Bool → Type 0) (items : List A) (at : ℕ) : Type 0 where
  pub meets : (d : A) → answers (slice_index_or items at d) true
  pub before : (k : ℕ) (d : A) → k < at → answers (slice_index_or items k d) false

-- The closure returned false for each item.
pub record AllFail {A : Type 0} (answers : A → Bool → Type 0) (items : List A) : Type 0 where
  pub fails : (k : ℕ) (d : A) → k < length items → answers (slice_index_or items k d) false

-- The closure returned false for each of the first `at` items.
pub record FailBefore {A : Type 0} (answers : A → Bool → Type 0) (items : List A) (at : ℕ) : Type 0 where
  pub fails : (k : ℕ) (d : A) → k < at → k < length items → answers (slice_index_or items k d) false

-- A touch returns the newest item that passes the test, and moves it to the front. Where none
-- passes, nothing changes.
pub record Touches {A : Type 0} (test : A → Bool) (old new : List A) (result : Option A) : Type 0 where
  pub found : result ≡ find test old
  pub moved : new ≡ touched test old

-- A fill inserts the item in front of a list of this width, and returns the item evicted, which is
-- the item itself at width 0.
pub record Fills {A : Type 0} (width : ℕ) (item : A) (old new : List A) (result : Option A) : Type 0 where
  pub list : new ≡ with_newest width item old
  pub left : option_to_list result ≡ drop width (item ∷ old)

-- A purge keeps the items that fail the test, in order, and returns how many it removed.
pub record Purges {A : Type 0} (test : A → Bool) (old new : List A) (result : ℕ) : Type 0 where
  pub kept : new ≡ purged test old
  pub count : result + length new ≡ length old

-- The number of items in all sets together.
abbrev pub items_in : {A : Type 0} → List (List A) → ℕ
items_in [] = 0
items_in (set ∷ sets) = length set + items_in sets

-- One set is touched, and the others stay.
pub record TouchesIn {A : Type 0} (test : A → Bool) (set : ℕ) (old new : List (List A)) (result : Option A) : Type 0 where
  pub found : result ≡ find test (slice_index_or old set [])
  pub moved : new ≡ slice_set old set (touched test (slice_index_or old set []))

-- One set is filled, and the others stay.
pub record FillsIn {A : Type 0} (width set : ℕ) (item : A) (old new : List (List A)) (result : Option A) : Type 0 where
  pub list : new ≡ slice_set old set (with_newest width item (slice_index_or old set []))
  pub left : option_to_list result ≡ drop width (item ∷ slice_index_or old set [])

-- One set is purged, and the others stay.
pub record PurgesIn {A : Type 0} (test : A → Bool) (set : ℕ) (old new : List (List A)) (result : ℕ) : Type 0 where
  pub kept : new ≡ slice_set old set (purged test (slice_index_or old set []))
  pub count : result + items_in new ≡ items_in old

-- Every set is purged.
pub record PurgesAll {A : Type 0} (test : A → Bool) (old new : List (List A)) (result : ℕ) : Type 0 where
  pub kept : new ≡ map (purged test) old
  pub count : result + items_in new ≡ items_in old
