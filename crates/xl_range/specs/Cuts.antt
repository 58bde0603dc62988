-- A leaf cut out of a held range, as the calls of a treap do it.
use Rattle.std.specs.Prelude.{ℕ, zero, suc, ◌+◌, ◌≤◌, List}
use Rattle.xl_model.specs.declared.address.Order.{Order}
use Rattle.xl_model.specs.declared.leaf.Range.{Range}
use Rattle.xl_model.specs.Addresses.{pages_of}
use Rattle.xl_treap.specs.Treaps.{with_range, without_range, resized, IsFit}

-- The held ranges, that of this key with n pages, or without it where it keeps none.
abbrev pub kept_cut : ℕ → ℕ → List Range → List Range
kept_cut zero k held = without_range k held
kept_cut (suc n) k held = resized k (suc n) held

-- The held ranges with what is left after a leaf, if that has pages.
abbrev pub kept_following : ℕ → Range → List Range → List Range
kept_following zero x held = held
kept_following (suc n) x held = with_range x held

-- A block of pages lies inside a range.
pub record IsInside (first : ℕ) (o : Order) (r : Range) : Type 0 where
  pub fit : IsFit r
  pub from : r.start ≤ first
  pub to : first + pages_of o ≤ r.start + r.pages
