-- How many smaller leaves lie in each 2 MiB and each 1 GiB section, and whether only leaves of 4 KiB came. A leaf isn't
-- counted for a section of its own size: such a leaf is found by its tag. So a section counts only where some tag has
-- leaves in it, and each tag's leaves lie in one section.
use Rattle.std.specs.Prelude.{ℕ, ◌≡◌, ◌+◌, ◌*◌, ◌/◌, ◌^◌, ◌==◌, Bool, true, false, not, nat_lt, if◌then◌else◌, List}
use Rattle.xl_model.specs.declared.address.Order.{Order}
use Rattle.xl_model.specs.declared.address.Order.TheVariants as order
use Rattle.xl_model.specs.declared.leaf.Leaf.{Leaf}
use Rattle.xl_model.specs.Addresses.{level_of, pages_of}
use Rattle.xl_list_lemmas.specs.Members.{In}
use Rattle.xl_list_lemmas.specs.Tallies.{tally}
use Rattle.xl_model_lemmas.specs.Sections.{counts_at, of_order}
use Rattle.xl_sections.specs.Counted.{unit, count_of, CountState, AreCounts}
use Rattle.xl_sections.specs.Noted.{share, IsRoomy, IsShared}

-- an order is smaller than a section
abbrev pub is_smaller : Order → Order → Bool
is_smaller size o = nat_lt (level_of o) (level_of size)

-- the word of a section: how many smaller leaves of each order lie in it
abbrev pub smaller_word : Order → ℕ → List Leaf → ℕ
smaller_word order.K4 key leaves = 0
smaller_word order.M2 key leaves = tally (of_order order.M2 key order.K4) leaves
smaller_word order.G1 key leaves =
    tally (of_order order.G1 key order.K4) leaves + tally (of_order order.G1 key order.M2) leaves * 2 ^ 22

-- each section's count is its word, in as much room as this
pub record IsCounted (size : Order) (leaves : List Leaf) (room : ℕ) (c : CountState) : Type 0 where
  pub are : AreCounts c.counts
  pub tied : (key : ℕ) → count_of key c.counts ≡ smaller_word size key leaves
  pub room_is : c.room ≡ room

-- the counts of both sizes of sections, and whether only leaves of 4 KiB were ever counted
pub record SmallerState : Type 0 where
  pub middle : CountState
  pub large : CountState
  pub only_small : Bool

-- both sizes count these leaves, which are all of 4 KiB where only such leaves were counted
pub record AreCounted (leaves : List Leaf) (room : ℕ) (s : SmallerState) : Type 0 where
  pub middle_is : IsCounted order.M2 leaves room s.middle
  pub large_is : IsCounted order.G1 leaves room s.large
  pub small : s.only_small ≡ true → (x : Leaf) → In x leaves → x.order ≡ order.K4

-- a leaf is counted more, where it is smaller
pub record IsMore (size : Order) (leaf : Leaf) (old new : CountState) : Type 0 where
  pub number : (k : ℕ) → count_of k new.counts
      ≡ count_of k old.counts + (if is_smaller size leaf.order then (if counts_at size k leaf then unit leaf.order else 0) else 0)
  pub are : AreCounts new.counts
  pub room : new.room ≡ old.room

-- the leaf at this place is counted no longer, where it is smaller
pub record IsLess (size : Order) (space first : ℕ) (o : Order) (old new : CountState) : Type 0 where
  pub number : (k : ℕ) → count_of k new.counts + (if is_smaller size o then share size k space first o else 0) ≡ count_of k old.counts
  pub are : AreCounts new.counts
  pub room : new.room ≡ old.room

-- there is room to count the leaf, where it is smaller
pub record HasRoom (size : Order) (leaf : Leaf) (c : CountState) : Type 0 where
  pub are : AreCounts c.counts
  pub room : is_smaller size leaf.order ≡ true → IsRoomy size leaf c

-- there is room to count the leaf for both sizes
pub record HaveRoom (leaf : Leaf) (s : SmallerState) : Type 0 where
  pub middle : HasRoom order.M2 leaf s.middle
  pub large : HasRoom order.G1 leaf s.large

-- the counts of a size have the leaf at this place in them, where it is smaller
pub record IsIn (size : Order) (space first : ℕ) (o : Order) (c : CountState) : Type 0 where
  pub are : AreCounts c.counts
  pub within : is_smaller size o ≡ true → IsShared size space first o c

-- both sizes have the leaf at this place in them
pub record AreIn (space first : ℕ) (o : Order) (s : SmallerState) : Type 0 where
  pub middle : IsIn order.M2 space first o s.middle
  pub large : IsIn order.G1 space first o s.large

-- the leaf is counted more for both sizes, and only leaves of 4 KiB were counted where it is one
-- and it was so before
pub record AreMore (leaf : Leaf) (old new : SmallerState) : Type 0 where
  pub middle : IsMore order.M2 leaf old.middle new.middle
  pub large : IsMore order.G1 leaf old.large new.large
  pub small : new.only_small ≡ true → (old.only_small ≡ true) × (leaf.order ≡ order.K4)

-- the leaf at this place is counted less for both sizes, and what was ever counted stays
pub record AreLess (space first : ℕ) (o : Order) (old new : SmallerState) : Type 0 where
  pub middle : IsLess order.M2 space first o old.middle new.middle
  pub large : IsLess order.G1 space first o old.large new.large
  pub small : new.only_small ≡ old.only_small

-- a smaller leaf lies in the block's section
abbrev pub any_smaller : Order → ℕ → ℕ → SmallerState → Bool
any_smaller order.K4 space first s = false
any_smaller order.M2 space first s = not (count_of (space * 2 ^ 45 + first / pages_of order.M2) s.middle.counts == 0)
any_smaller order.G1 space first s = not (count_of (space * 2 ^ 45 + first / pages_of order.G1) s.large.counts == 0)
