-- Results of a walk in forms made for speed: a leaf of 4 KiB as its word, and a walk that may not be taken.
use Rattle.std.specs.Prelude.{◌≡◌, ℕ, Bool, true, Some}
use Rattle.xl_model.specs.declared.address.Kind.{Kind}
use Rattle.xl_model.specs.declared.work.PageWalk.{PageWalk}
use Rattle.xl_model.specs.declared.work.PageWalk.TheVariants as page_walk
use Rattle.xl_model.specs.declared.work.Walk.{Walk}
use Rattle.xl_model.specs.Addresses.{allows}
use Rattle.xl_model.specs.Base.{one_if}
use Rattle.xl_model.specs.LeafWords.{perm_at, small_leaf}
use Rattle.xl_model.specs.Structures.{IsWalk, TableState}
use Rattle.xl_model.specs.Walks.{walked}

-- The walk of a page by its result, where a leaf of 4 KiB may be returned as its word.
abbrev pub walk_of_page : ℕ → ℕ → PageWalk → Walk
walk_of_page space page (page_walk.Small word cache_hits) = record { leaf = Some (small_leaf space page word); cache_hits = cache_hits }
walk_of_page space page (page_walk.Any walk) = walk

-- The same by the result of a page's walk.
abbrev pub IsPageWalk : ℕ → ℕ → TableState → PageWalk → TableState → Type 0
IsPageWalk space page old result new = IsWalk space page old (walk_of_page space page result) new

-- A walk as the definitions have it, which began at a node that a cache held, or else at the root,
-- and found a leaf of 4 KiB that has this word and allows an access of this kind.
pub record IsAllowedWalk (space page : ℕ) (kind : Kind) (cached : Bool) (word : ℕ) (old new : TableState) : Type 0 where
  pub walks : IsWalk space page old (record { leaf = Some (small_leaf space page word); cache_hits = one_if cached }) new
  pub allowed : allows (perm_at word) kind ≡ true

-- A walk of the page finds what it did before, and leaves the same: at most its own node was
-- touched in a cache.
pub record IsSameWalk (space page : ℕ) (old new : TableState) : Type 0 where
  pub leaves : new.leaves ≡ old.leaves
  pub shape : new.shape ≡ old.shape
  pub loads : new.loads ≡ old.loads
  pub walked_is : walked new.shape new.caches new.leaves space page ≡ walked old.shape old.caches old.leaves space page
