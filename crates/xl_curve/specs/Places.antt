-- A recency list with holes: one list of places that represents the lists of all widths.
use Rattle.std.specs.Prelude.{◌≡◌, ◌≢◌, ℕ, zero, suc, ◌+◌, ◌/◌, ◌%◌, ◌==◌, ◌<◌, ◌≤◌, nat_lt, Bool, ◌&&◌, true, false, not, if◌then◌else◌, List, [], ◌∷◌, map, slice_index_or, Option, None, Some}
use Rattle.std.specs.List.{list_all, range_with_len}
use Rattle.xl_model.specs.declared.address.Order.{Order}
use Rattle.xl_model.specs.declared.leaf.Leaf.{Leaf}
use Rattle.xl_model.specs.Addresses.{order_at}
use Rattle.xl_model.specs.LeafWords.{perm_at}
use Rattle.xl_model.specs.Mapping.{is_leaf}
use Rattle.xl_model.specs.Ranges.{same_perm}
use Rattle.xl_curve.specs.declared.place.Place.{Place}

-- Two words have the same frame and permission.
abbrev pub same_words : ℕ → ℕ → Bool
same_words word other = (other / 16 == word / 16) && same_perm (perm_at word) (perm_at other)

-- The place is a hole: its tag is that of no leaf that a place can keep.
abbrev pub is_vacant : Place → Bool
is_vacant p = p.tag == 18446744073709551615

-- The leaf of a place's two words.
unfoldable pub leaf_in : Place → Leaf
leaf_in p = record {
  space = p.tag / 3 % 64;
  first = p.tag / 3 / 64;
  order = order_at (p.tag % 3);
  frame = p.word / 16;
  perm = perm_at p.word;
}

-- The leaf, unless the place is vacant.
abbrev pub unless_vacant : Bool → Leaf → Option Leaf
unless_vacant true leaf = None
unless_vacant false leaf = Some leaf

-- What a place has.
unfoldable pub place_of : Place → Option Leaf
place_of p = unless_vacant (is_vacant p) (leaf_in p)

-- What some places have.
abbrev pub places_of : List Place → List (Option Leaf)
places_of places = map place_of places

-- The mark of a place that is vacant, or has this tag.
abbrev pub mark_unless : Bool → ℕ → ℕ
mark_unless true tag = 255
mark_unless false tag = tag % 251

-- The mark of a place: places of the same leaf have the same, and a hole has another than any leaf.
abbrev pub mark_of : Place → ℕ
mark_of p = mark_unless (is_vacant p) p.tag

-- These are the places' marks.
abbrev pub AreMarks : List ℕ → List Place → Type 0
AreMarks marks places = marks ≡ map mark_of places

-- A mark is neither of these two.
abbrev pub IsNeither : ℕ → ℕ → ℕ → Type 0
IsNeither mark other here = (here ≢ mark) × (here ≢ other)

-- This is the first slot of a rank.
pub record IsFirst (rank slot : ℕ) (ranks : List ℕ) : Type 0 where
  pub is : slice_index_or ranks slot 0 ≡ rank
  pub others : (k : ℕ) → k < slot → slice_index_or ranks k 0 ≢ rank

-- A slot has this rank.
pub record HasRank (ranks : List ℕ) (rank : ℕ) : Type 0 where
  pub slot : ℕ
  pub within : slot < 64
  pub is : slice_index_or ranks slot 0 ≡ rank

-- Each rank below 64 is that of a slot.
abbrev pub AreRanks : List ℕ → Type 0
AreRanks ranks = (rank : ℕ) → rank < 64 → HasRank ranks rank

-- No two slots have the same rank.
abbrev pub AreApart : List ℕ → Type 0
AreApart ranks = (i j : ℕ) → i < 64 → j < 64 → slice_index_or ranks i 0 ≡ slice_index_or ranks j 0 → i ≡ j

-- The marks and ranks of some slots.
pub record IsStack (marks ranks : List ℕ) (slots : List Place) : Type 0 where
  pub marked : AreMarks marks slots
  pub ranked : AreRanks ranks
  pub apart : AreApart ranks

-- A slot has this place.
abbrev pub IsAt : ℕ → Place → List Place → Type 0
IsAt slot place slots = slice_index_or slots slot (record { tag = 0; word = 0 }) ≡ place

-- The slot that a guide has for a mark.
abbrev pub guided : List ℕ → ℕ → ℕ
guided guide mark = slice_index_or guide mark 0 % 64

-- For the mark of each leaf the guide has the slot of the least rank that has the mark.
abbrev pub IsGuide : List ℕ → List ℕ → List ℕ → Type 0
IsGuide guide marks ranks = (slot : ℕ) → slot < 64 → slice_index_or marks slot 0 ≢ 255
    → slice_index_or ranks (guided guide (slice_index_or marks slot 0)) 0 ≤ slice_index_or ranks slot 0

-- No hole has a rank below this one.
abbrev pub IsSolid : ℕ → List ℕ → List ℕ → Type 0
IsSolid rank marks ranks = (slot : ℕ) → slot < 64 → slice_index_or marks slot 0 ≡ 255 → rank ≤ slice_index_or ranks slot 0

-- Each mark is as it was, or a hole's.
abbrev pub AreFewer : List ℕ → List ℕ → Type 0
AreFewer old new = (slot : ℕ) → slot < 64 → slice_index_or new slot 0 ≢ 255 → slice_index_or new slot 0 ≡ slice_index_or old slot 0

-- A rank after the slot of this rank came to the front: those in front of it moved on by one.
abbrev pub moved : ℕ → ℕ → ℕ
moved rank here = if here == rank then 0 else (if nat_lt here rank then here + 1 else here)

-- What is kept at a rank, where these are the ranks of some places.
abbrev pub at_rank : {A : Type 0} → ℕ → List ℕ → List (Option A) → Option A
at_rank k [] places = None
at_rank k (rank ∷ ranks) [] = None
at_rank k (rank ∷ ranks) (place ∷ places) = if rank == k then place else at_rank k ranks places

-- 64 places by their ranks.
unfoldable pub in_turn : {A : Type 0} → List ℕ → List (Option A) → List (Option A)
in_turn ranks places = map (λ k. at_rank k ranks places) (range_with_len 0 64)

-- A place's leaf has this space, first page and order: those of its tag.
pub record IsNamed (space first : ℕ) (order : Order) (p : Place) : Type 0 where
  pub solid : is_vacant p ≡ false
  pub named : (q : Place) → is_leaf space first order (leaf_in q) ≡ (q.tag == p.tag)

-- The recency list of a width: what the first places have, as many as the width says.
abbrev pub held : {A : Type 0} → ℕ → List (Option A) → List A
held zero places = []
held (suc n) [] = []
held (suc n) (None ∷ places) = held n places
held (suc n) (Some x ∷ places) = x ∷ held n places

-- The first item that passes the test leaves a hole.
abbrev pub vacated : {A : Type 0} → (A → Bool) → List (Option A) → List (Option A)
vacated q [] = []
vacated q (None ∷ places) = None ∷ vacated q places
vacated q (Some x ∷ places) = if q x then (None ∷ places) else (Some x ∷ vacated q places)

-- An item moves to the front. Each item gives way to the one before it, as far as the first that
-- passes the test, which is removed, or as far as the first hole, which is filled; then the item
-- that passes the test leaves a hole further back.
abbrev pub shifted : {A : Type 0} → (A → Bool) → A → List (Option A) → List (Option A)
shifted q x [] = Some x ∷ []
shifted q x (None ∷ places) = Some x ∷ vacated q places
shifted q x (Some y ∷ places) = if q y then (Some x ∷ places) else (Some x ∷ shifted q y places)

-- A distance from some places further in front.
abbrev pub further : ℕ → Option ℕ → Option ℕ
further n None = None
further n (Some d) = Some (n + d)

-- A place gives way to an item that moves to the front: it has an item, and that fails the test.
abbrev pub gives_way : {A : Type 0} → (A → Bool) → Option A → Bool
gives_way q None = false
gives_way q (Some x) = not (q x)

-- How many places give way before the first that doesn't, if there is one.
abbrev pub gap : {A : Type 0} → (A → Bool) → List (Option A) → Option ℕ
gap q [] = None
gap q (None ∷ places) = Some 0
gap q (Some x ∷ places) = if q x then Some 0 else further 1 (gap q places)

-- The first place that is a hole or has the item is in this slot.
pub record IsGap (q : Leaf → Bool) (slot : ℕ) (ranks : List ℕ) (slots : List Place) : Type 0 where
  pub within : slot < 64
  pub below : slice_index_or ranks slot 0 < 64
  pub first : IsFirst (slice_index_or ranks slot 0) slot ranks
  pub is : gap q (in_turn ranks (places_of slots)) ≡ Some (slice_index_or ranks slot 0)

-- The stack distance of an item: the number of places in front of the first one whose item passes
-- the test.
abbrev pub distance : {A : Type 0} → (A → Bool) → List (Option A) → Option ℕ
distance q [] = None
distance q (None ∷ places) = further 1 (distance q places)
distance q (Some x ∷ places) = if q x then Some 0 else further 1 (distance q places)

-- A place is as it was, or a hole: what holds of it and of a hole still does.
abbrev pub IsSameOrHole : {A : Type 0} → Option A → Option A → Type 0
IsSameOrHole {A} old new = (t : Option A → Bool) → t None ≡ true → t old ≡ true → t new ≡ true

-- Each of some slots is as it was, or a hole.
abbrev pub AreThinned : {A : Type 0} → List (Option A) → List (Option A) → Type 0
AreThinned {A} old new = (slot : ℕ) → IsSameOrHole (slice_index_or old slot None) (slice_index_or new slot None)

-- Each place is as it was, or a hole: what holds of each place and of a hole still does.
abbrev pub IsThinned : {A : Type 0} → List (Option A) → List (Option A) → Type 0
IsThinned {A} old new = (t : Option A → Bool) → t None ≡ true → list_all t old ≡ true → list_all t new ≡ true

-- The item leaves a hole where the test says so.
abbrev pub hole_where : {A : Type 0} → Bool → A → Option A
hole_where true x = None
hole_where false x = Some x

-- A place without an item that passes the test.
abbrev pub place_without : {A : Type 0} → (A → Bool) → Option A → Option A
place_without q None = None
place_without q (Some x) = hole_where (q x) x
