-- Pages that the newest leaves of the first array answer.
use Rattle.std.specs.Prelude.{ℕ, ◌≡◌, ◌<◌, ◌%◌, ◌^◌, ◌*◌, ◌+◌, List, slice_index_or}
use Rattle.xl_model.specs.Tlb.{TlbArray}
use Rattle.xl_model.specs.declared.address.Order.TheVariants as order
use Rattle.xl_array.specs.Coding.{tag_of}
use Rattle.xl_tlb.specs.Fronts.{IsFront}
use Rattle.xl_tlb.specs.declared.newest.MruPages.{MruPages}

-- Empty slot; no tag has this value.
abbrev pub no_key : ℕ
no_key = 18446744073709551615

-- The key is that of the page of the space: the tag of its leaf of 4 KiB.
pub record IsKey (key space page : ℕ) : Type 0 where
  pub space_in : space < 64
  pub page_in : page < 2 ^ 52
  pub is_tag : key ≡ tag_of space page order.K4

-- The place of a page of the first array with this number: by the page's last three bits, beside that of the other first array.
abbrev pub page_place : ℕ → ℕ → ℕ
page_place first page = page % 8 * 2 + first

-- Each page whose key is at its place hits the leaf of the first array with the word beside the key, and that is the newest of its set.
abbrev pub Knows : ℕ → MruPages → List TlbArray → Type 0
Knows first n arrays = (space page : ℕ) → IsKey (slice_index_or n.keys (page_place first page) no_key) space page → IsFront space page (slice_index_or n.words (page_place first page) 0) arrays

-- What is known of other first arrays stays so.
abbrev pub StaysKnown : ℕ → MruPages → MruPages → Type 0
StaysKnown first n new = (other : ℕ) (arrays : List TlbArray) → other < 2 → (other ≡ first → ⊥) → Knows other n arrays → Knows other new arrays
