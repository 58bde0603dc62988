-- The nodes that a walk enters below its start, and its loads.
use Rattle.std.specs.Prelude.{ℕ, zero, suc, ◌≡◌, ◌-◌, ◌^◌, ◌<◌, if◌then◌else◌, List, [], ◌∷◌, slice_index, Option, None, Some}
use Rattle.xl_pte.specs.Decode.{decode_of}
use Rattle.xl_pte.specs.declared.word.Pte.{Pte}
use Rattle.xl_pte.specs.declared.word.Pte.TheVariants as pte
use Rattle.xl_radix.specs.declared.walk_end.WalkEnd.{WalkEnd}
use Rattle.xl_radix.specs.declared.walk_end.WalkEnd.TheVariants as end
use Rattle.xl_radix.specs.Walk.{end_of, place_of, is_there, radix_back}
use Rattle.xl_radix_walk.specs.declared.step.Step.{Step}
use Rattle.xl_radix_walk.specs.declared.step.Step.TheVariants as step

-- The nodes that a walk enters from a word on: the one that it points to, and those below.
abbrev pub entered : Pte → (ℕ → List ℕ) → List ℕ
entered (pte.Pointer node) on = node ∷ on node
entered pte.Invalid on = []
entered (pte.Leaf frame perm) on = []
entered pte.Reserved on = []
entered pte.Misaligned on = []

-- The same from a node, with this number of levels left.
abbrev pub entering : List ℕ → ℕ → ℕ → ℕ → List ℕ
entering words zero node page = []
entering words (suc level) node page =
    if is_there words (place_of level node page)
    then entered (decode_of (slice_index words (place_of level node page)) level) (λ next. entering words level next page)
    else []

-- The nodes that the walk of a page enters below the one at which it starts, in order.
unfoldable pub radix_path : List ℕ → ℕ → ℕ → ℕ → List ℕ
radix_path words level node page = entering words (suc level) node page

-- What a bus is after `n` loads.
abbrev pub loaded_times : {A : Type 0} → (A → A) → ℕ → A → A
loaded_times loaded zero bus = bus
loaded_times loaded (suc n) bus = loaded (loaded_times loaded n bus)

-- What the word of a page in a node of this level says. None where its line isn't all there.
abbrev pub word_in : List ℕ → ℕ → ℕ → ℕ → Option Pte
word_in words level node page =
    if is_there words (place_of level node page) then Some (decode_of (slice_index words (place_of level node page)) level) else None

-- The node that the walk enters next, or the walk's result.
abbrev pub step_of : Option Pte → ℕ → Step
step_of None level = step.Ends (end.OutOfBus level)
step_of (Some (pte.Pointer node)) level = step.Descends node
step_of (Some pte.Invalid) level = step.Ends (end.Invalid level)
step_of (Some (pte.Leaf frame perm)) level = step.Ends (end.Leaf level frame perm)
step_of (Some pte.Reserved) level = step.Ends (end.Reserved level)
step_of (Some pte.Misaligned) level = step.Ends (end.Misaligned level)

-- A step to a next node: the walk is that from the next node, one level down, which comes first in
-- the path.
pub record GoesTo (words : List ℕ) (level node page next : ℕ) : Type 0 where
  pub above : 0 < level
  pub end : radix_back words level node page ≡ radix_back words (level - 1) next page
  pub path : radix_path words level node page ≡ next ∷ radix_path words (level - 1) next page
  pub small : next < 2 ^ 44

-- A step that ends the walk, at its level.
pub record EndsWith (words : List ℕ) (level node page : ℕ) (e : WalkEnd) : Type 0 where
  pub end : radix_back words level node page ≡ e
  pub path : radix_path words level node page ≡ []
  pub level_is : end_of e ≡ level

-- The step is the one that the words say.
abbrev pub IsStep : List ℕ → ℕ → ℕ → ℕ → Step → Type 0
IsStep words level node page (step.Descends next) = GoesTo words level node page next
IsStep words level node page (step.Ends e) = EndsWith words level node page e
