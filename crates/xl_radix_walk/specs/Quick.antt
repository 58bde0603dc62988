-- What the quick walk finds.
use Rattle.std.specs.Prelude.{ℕ, ◌≡◌, ◌<◌, ◌/◌, ◌%◌, true, List, length, take, slice_index, Option, None, Some}
use Rattle.xl_model.specs.declared.address.Kind.{Kind}
use Rattle.xl_model.specs.Addresses.{allows}
use Rattle.xl_model.specs.LeafWords.{perm_at}
use Rattle.xl_pte.specs.Decode.{decode_of, SaysSmall}
use Rattle.xl_pte.specs.declared.word.Pte.TheVariants as pte
use Rattle.xl_radix.specs.declared.walk_end.WalkEnd.TheVariants as end
use Rattle.xl_radix.specs.Lazy.{IsFront}
use Rattle.xl_radix.specs.Walk.{place_of, is_there, radix_back}
use Rattle.xl_radix_walk.specs.Path.{radix_path}

-- Above level 0 a word points to a node.
abbrev pub Points : ℕ → ℕ → Type 0
Points word next = (level : ℕ) → 0 < level → decode_of word level ≡ pte.Pointer next

-- The word of a page in a node, whose line is all there.
abbrev pub HasWord : List ℕ → ℕ → ℕ → ℕ → ℕ → Type 0
HasWord words level node page word = (is_there words (place_of level node page) ≡ true) × (word ≡ slice_index words (place_of level node page))

-- The walk of a page ends at level 0, at the leaf that has this word.
abbrev pub Finds : List ℕ → ℕ → ℕ → ℕ → ℕ → Type 0
Finds words start node page small = radix_back words start node page ≡ end.Leaf 0 (small / 16) (perm_at small)

-- The walk of a page ends at level 0 at this word: at the leaf that it says, if any.
abbrev pub EndsAt : List ℕ → ℕ → ℕ → ℕ → ℕ → Type 0
EndsAt words start node page word = (small : ℕ) → SaysSmall word small → Finds words start node page small

-- The nodes that the walk of a page enters below its start come first here, in order.
abbrev pub Enters : List ℕ → ℕ → ℕ → ℕ → List ℕ → Type 0
Enters words start node page path = take start path ≡ radix_path words start node page

-- Where a kind is given, the permission in this word allows an access of it.
abbrev pub IsAllowed : Option Kind → ℕ → Type 0
IsAllowed None small = Unit {0}
IsAllowed (Some kind) small = allows (perm_at small) kind ≡ true

-- These are the first of all words, which are whole lines.
abbrev pub AreFirst : List ℕ → List ℕ → Type 0
AreFirst words all = IsFront words all × (length all % 4 ≡ 0)
