-- What an access asks of the arrays.
use Rattle.std.specs.Prelude.{ℕ, ◌≡◌, ◌<◌, ◌^◌, List, count_by, map}
use Rattle.xl_model.specs.declared.address.Kind.{Kind}
use Rattle.xl_model.specs.LeafWords.{small_leaf}
use Rattle.xl_model.specs.Tlb.{TlbArray, filled_for, takes_leaf}
use Rattle.xl_array.specs.declared.lookup.Lookup.{Lookup}
use Rattle.xl_tlb.specs.declared.in_turn.Request.{Request}

-- The space and the page of an access are ones that a leaf can have.
pub record IsRequest (r : Request) : Type 0 where
  pub space_in : r.space < 64
  pub page_in : r.page < 2 ^ 52

-- Each array that serves the access and takes leaves of 4 KiB is filled with the one that is sought, and so many do.
pub record IsFill (k : Kind) (s : Lookup) (word fills : ℕ) (old new : List TlbArray) : Type 0 where
  pub count : fills ≡ count_by (takes_leaf k (small_leaf s.space s.page word)) old
  pub filled : new ≡ map (filled_for k (small_leaf s.space s.page word)) old
