-- Frames that are given back.
use Rattle.std.specs.Prelude.{ℕ, ◌+◌, ◌-◌, ◌≤◌, Bool, true, false, List, length, nat_lt, slice_index_or, Option, None, Some}
use Rattle.xl_hart_model.specs.declared.hart.Request.{Request}
use Rattle.xl_model.specs.declared.leaf.Leaf.{Leaf}
use Rattle.xl_model.specs.Addresses.{pages_of}
use Rattle.xl_frames.specs.Pool.{marked}

-- A pool with the frames free that a request held back: those of an unmap's leaf.
abbrev pub given_back : Option Leaf → Option Leaf → List Bool → List Bool
given_back (Some leaf) None pool = marked pool leaf.frame (pages_of leaf.order) true
given_back (Some leaf) (Some after) pool = pool
given_back None after pool = pool

-- The pool after a request is dropped.
abbrev pub pool_after : Request → List Bool → List Bool
pool_after r pool = given_back r.before r.after pool

-- The frames of a leaf before are inside the pool.
abbrev pub LeafFits : Option Leaf → List Bool → Type 0
LeafFits None pool = Unit {0}
LeafFits (Some leaf) pool = leaf.frame + pages_of leaf.order ≤ length pool

-- The frames that a request held back are inside the pool.
abbrev pub Fits : Request → List Bool → Type 0
Fits r pool = LeafFits r.before pool

-- A request without a leaf.
abbrev pub nothing : Request
nothing = record { before = None; after = None }

-- The oldest of some requests.
abbrev pub last_of : List Request → Request
last_of requests = slice_index_or requests (length requests - 1) nothing

-- The longest queue has all requests, or all but the oldest; and what that holds back is inside the pool.
pub record IsReleasing (longest : ℕ) (requests : List Request) (pool : List Bool) : Type 0 where
  pub near : length requests ≤ longest + 1
  pub fits : Fits (last_of requests) pool

-- The pool after the oldest request is dropped, if it is.
abbrev pub settled_by : Bool → List Request → List Bool → List Bool
settled_by true requests pool = pool_after (last_of requests) pool
settled_by false requests pool = pool

-- The pool after the oldest request is dropped, where no queue has it any more.
abbrev pub released : ℕ → List Request → List Bool → List Bool
released longest requests pool = settled_by (nat_lt longest (length requests)) requests pool
