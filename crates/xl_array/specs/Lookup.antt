-- What is looked for in an array, and what a touch and a fill with its tag do.
use Rattle.std.specs.Prelude.{ℕ, ◌≡◌, ◌+◌, ◌<◌, ◌^◌, Bool, true, Option, IfSome, IfNone}
use Rattle.xl_model.specs.declared.address.Order.{Order}
use Rattle.xl_model.specs.declared.address.Order.TheVariants as order
use Rattle.xl_model.specs.declared.row.TlbSpec.{TlbSpec}
use Rattle.xl_model.specs.Base.{one_if}
use Rattle.xl_model.specs.LeafWords.{leaf_with}
use Rattle.xl_model.specs.Tlb.{TlbArray, array_filled, found_as, leaves_in_sets, set_number, takes_order}
use Rattle.xl_array.specs.Coding.{tag_of}
use Rattle.xl_array.specs.Hits.{word_leaf, word_touched}
use Rattle.xl_array.specs.Touches.{IsFrontHit}
use Rattle.xl_array.specs.declared.lookup.Lookup.{Lookup}

-- The tag is that of the leaf of the order that covers the page.
pub record IsLookup (o : Order) (s : Lookup) : Type 0 where
  pub space_in : s.space < 64
  pub page_in : s.page < 2 ^ 52
  pub tagged : s.tag ≡ tag_of s.space s.page o

-- The leaf is in this set, if it is held, of an array that takes leaves of the order.
pub record IsAt (o : Order) (set : ℕ) (s : Lookup) (spec : TlbSpec) : Type 0 where
  pub lookup : IsLookup o s
  pub takes : takes_order spec o ≡ true
  pub set_is : set ≡ set_number spec o s.page

-- The word is of the newest leaf of the order that covers the page, which moves to the front of its
-- set; without a word there is none, and nothing changes.
pub record IsTouched (o : Order) (s : Lookup) (a : TlbArray) (word : Option ℕ) (new : TlbArray) : Type 0 where
  pub found : word_leaf s.space s.page o word ≡ found_as a s.space s.page o
  pub some : IfSome word (λ w. new ≡ word_touched s.space s.page o w a)
  pub none : IfNone word (new ≡ a)

-- The array is filled with the leaf of the order with this word, whether it holds a leaf more is the result, and of 4 KiB it is the newest of its set.
pub record IsFilled (o : Order) (s : Lookup) (word : ℕ) (a : TlbArray) (grown : Bool) (new : TlbArray) : Type 0 where
  pub array : new ≡ array_filled (leaf_with s.space s.page o word) a
  pub held : leaves_in_sets new.sets ≡ one_if grown + leaves_in_sets a.sets
  pub front : o ≡ order.K4 → IsFrontHit s.space s.page word new
