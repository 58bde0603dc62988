-- What requests say of the mapping, and of the frames that leaves hold.
use Rattle.std.specs.Prelude.{ℕ, ◌≡◌, ◌+◌, true, List, [], ◌∷◌, Some}
use Rattle.xl_hart_model.specs.declared.hart.Request.{Request}
use Rattle.xl_model.specs.declared.leaf.Leaf.{Leaf}
use Rattle.xl_model.specs.Base.{one_if}
use Rattle.xl_model.specs.Mapping.{holds_frames}
use Rattle.xl_hart_model.specs.Requests.{undone}
use Rattle.xl_model.specs.Rows.{Row}
use Rattle.xl_model_lemmas.specs.Mappings.{IsMapping}
use Rattle.xl_list_lemmas.specs.Members.{In}

-- A request fits the mapping after its command: the leaf after is there; where there is a leaf
-- before too, it held the same frames.
pub record IsKnown (r : Request) (leaves : List Leaf) : Type 0 where
  pub there : (x : Leaf) → r.after ≡ Some x → In x leaves
  pub same_order : (x y : Leaf) → r.before ≡ Some x → r.after ≡ Some y → y.order ≡ x.order
  pub same_frame : (x y : Leaf) → r.before ≡ Some x → r.after ≡ Some y → y.frame ≡ x.frame

-- With the newest requests undone, however many, there is a mapping that the next request fits.
abbrev pub IsHistory : Row → List Request → List Leaf → Type 0
IsHistory row [] leaves = IsMapping row leaves
IsHistory row (r ∷ requests) leaves = IsMapping row leaves × IsKnown r leaves × IsHistory row requests (undone r leaves)

-- How many of some leaves hold a frame.
abbrev pub owners : ℕ → List Leaf → ℕ
owners frame [] = 0
owners frame (x ∷ xs) = one_if (holds_frames frame 1 x) + owners frame xs

-- One of some leaves holds a frame.
pub record IsOwned (frame : ℕ) (leaves : List Leaf) : Type 0 where
  pub leaf : Leaf
  pub member : In leaf leaves
  pub holds : holds_frames frame 1 leaf ≡ true
