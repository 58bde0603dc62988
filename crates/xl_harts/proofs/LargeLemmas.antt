-- A hart's array without leaves above 4 KiB stays so.
use Rattle.xl_harts.proofs.Common.{◌≡◌, All, array_fenced, array_filled, is_equal, IsPageTouch, Leaf, None, Option, Some, subst, sym, TlbArray, ℕ}
use Rattle.xl_array.proofs.SmallLemmas.{filled-small, purged-small, touched-small}
use Rattle.xl_array.specs.Held.{IsSmall}

abbrev pub AreSmall : TlbArray → Type 0
AreSmall a = All (All IsSmall) a.sets

pub small_seen : (space page word : ℕ) (a new : TlbArray) → IsPageTouch space page word a new → AreSmall a → AreSmall new
small_seen space page word a new seen small = subst AreSmall (sym seen.moved) (touched-small space page seen.leaf a small)

pub small_filled : (leaf : Leaf) (a new : TlbArray) → new ≡ array_filled leaf a → IsSmall leaf → AreSmall a → AreSmall new
small_filled leaf a new is one small = subst AreSmall (sym is) (filled-small leaf a one small)

pub small_fenced : (before : Option Leaf) (a new : TlbArray) → new ≡ array_fenced before a → AreSmall a → AreSmall new
small_fenced None a new is small = subst AreSmall (sym is) small
small_fenced (Some leaf) a new is small = subst AreSmall (sym is) (purged-small (is_equal leaf) a small)
