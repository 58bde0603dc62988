-- What the kind of an access changes: it looks at the arrays that serve it, and all others stay as they are.
use Rattle.std.specs.Prelude.{ℕ, ◌≡◌, Bool, true, false, List, [], ◌∷◌, filter, map, slice_get, slice_index_or, Some}
use Rattle.xl_model.specs.declared.address.Kind.{Kind}
use Rattle.xl_model.specs.declared.address.Kind.TheVariants as kind
use Rattle.xl_model.specs.declared.row.Serves.TheVariants as serves
use Rattle.xl_model.specs.Rows.{Row}
use Rattle.xl_model.specs.RowRun.{RowState, looked, accessed}
use Rattle.xl_model.specs.Tlb.{TlbArray, serves_kind}
use Rattle.xl_list_lemmas.specs.Members.{In}

-- Each of these arrays serves all accesses.
abbrev pub AllServeAll : List TlbArray → Type 0
AllServeAll arrays = (a : TlbArray) → In a arrays → a.spec.serves ≡ serves.All

-- Where each array serves all accesses, the kind of an access changes nothing of its look-up.
abbrev pub ArraysForAllTakeNoNoteOfKinds : Type 0
ArraysForAllTakeNoNoteOfKinds =
    (k other : Kind) (page : ℕ) (s : RowState) → AllServeAll s.arrays → looked k page s ≡ looked other page s

-- A store looks a page up as a load does, whatever the arrays serve.
abbrev pub AStoreLooksUpAsALoad : Type 0
AStoreLooksUpAsALoad = (page : ℕ) (s : RowState) → looked kind.Store page s ≡ looked kind.Load page s

-- The array at this place is there after something too, with the hits and the misses that it had.
pub record StaysAt (place : ℕ) (a : TlbArray) (before after : RowState) : Type 0 where
  pub array : slice_get after.arrays place ≡ Some a
  pub hits : slice_index_or after.counts.hits place 0 ≡ slice_index_or before.counts.hits place 0
  pub misses : slice_index_or after.counts.misses place 0 ≡ slice_index_or before.counts.misses place 0

-- An access leaves each array that does not serve it as it is, and the array's hits and misses.
abbrev pub AnArrayForOthersStays : Type 0
AnArrayForOthersStays =
    (row : Row) (va : ℕ) (k : Kind) (s : RowState) (place : ℕ) (a : TlbArray) → slice_get s.arrays place ≡ Some a
    → serves_kind k a ≡ false → StaysAt place a s (accessed row va k s)

-- The arrays that serve accesses of this kind.
abbrev pub arrays_for : Kind → List TlbArray → List TlbArray
arrays_for k arrays = filter (serves_kind k) arrays

-- A list without what it has at the places marked false; what is after all marks stays.
abbrev pub at_places : List Bool → List ℕ → List ℕ
at_places [] ns = ns
at_places (b ∷ bs) [] = []
at_places (true ∷ bs) (n ∷ ns) = n ∷ at_places bs ns
at_places (false ∷ bs) (n ∷ ns) = at_places bs ns

-- Of counts that are one for each array, those of the arrays that serve accesses of this kind.
abbrev pub counts_for : Kind → List TlbArray → List ℕ → List ℕ
counts_for k arrays ns = at_places (map (serves_kind k) arrays) ns

-- A state with the arrays alone that serve accesses of this kind, and their hits and misses.
abbrev pub alone : Kind → RowState → RowState
alone k s = record s {
  arrays = arrays_for k s.arrays;
  counts = record s.counts { hits = counts_for k s.arrays s.counts.hits; misses = counts_for k s.arrays s.counts.misses };
}

-- An access does in a row what it does in the row with the arrays alone that serve its kind.
abbrev pub AnAccessNeedsItsArraysAlone : Type 0
AnAccessNeedsItsArraysAlone =
    (row : Row) (va : ℕ) (k : Kind) (s : RowState) → alone k (accessed row va k s) ≡ accessed row va k (alone k s)
