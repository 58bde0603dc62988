-- What harts always keep.
use Rattle.std.specs.Prelude.{ℕ, ◌≡◌, ◌<◌, ◌≤◌, ◌^◌, List, length}
use Rattle.xl_hart_model.specs.declared.hart.HartSpec.{HartSpec}
use Rattle.xl_hart_model.specs.declared.hart.Request.{Request}
use Rattle.xl_model.specs.declared.leaf.Leaf.{Leaf}
use Rattle.xl_hart_model.specs.Harts.{Hart, HartsState, array_spec, hart_at, kept_leaves, longest, shared_row}
use Rattle.xl_hart_model.specs.Requests.{older}
use Rattle.xl_model.specs.Shapes.{Shape, Radix, Chained, Cuckoo, Runs}
use Rattle.xl_model_lemmas.specs.Fresh.{InSets}
use Rattle.xl_list_lemmas.specs.Members.{In}
use Rattle.xl_hart_laws.specs.Histories.{IsHistory, owners}

-- The limits of harts.
pub record IsHartSpec (spec : HartSpec) : Type 0 where
  pub some_harts : 1 ≤ spec.harts
  pub few_harts : spec.harts ≤ 8
  pub some_queue : 1 ≤ spec.queue
  pub short_queue : spec.queue ≤ 64
  pub some_frames : 1 ≤ spec.frames
  pub few_frames : spec.frames ≤ 2 ^ 22
  pub some_spaces : 1 ≤ spec.spaces
  pub few_spaces : spec.spaces ≤ 64
  pub some_nodes : spec.spaces ≤ spec.nodes
  pub few_nodes : spec.nodes ≤ 16384
  pub some_sets : 1 ≤ spec.sets
  pub few_sets : spec.sets ≤ 2048

-- A leaf is of the mapping, or of one that was before some of the newest n requests.
abbrev pub IsOfOlder : ℕ → List Request → List Leaf → Leaf → Type 0
IsOfOlder n requests leaves x = (i : ℕ) × (i ≤ n) × In x (older i requests leaves)

-- A hart keeps: its space and its array are ones of the spec, its queue is no longer than the
-- requests, and each leaf of its array is of a mapping that its queue leads back to.
pub record IsHart (spec : HartSpec) (requests : List Request) (leaves : List Leaf) (h : Hart) : Type 0 where
  pub space_in : h.space < spec.spaces
  pub array_is : h.array.spec ≡ array_spec spec
  pub waiting_in : h.waiting ≤ length requests
  pub fresh : (x : Leaf) → InSets x h.array.sets → IsOfOlder h.waiting requests leaves x

-- The shared table is a radix table of three levels for the spaces of the spec.
abbrev pub IsTable : HartSpec → Shape → Type 0
IsTable spec (Radix levels spaces nodes) = (levels ≡ 3) × (spaces ≡ spec.spaces)
IsTable spec (Chained group buckets entries tags) = ⊥
IsTable spec (Cuckoo rules ways) = ⊥
IsTable spec (Runs ranges) = ⊥

-- Harts keep: the requests are the history of the mapping; the harts keep what each keeps; some
-- hart has still to take all of the requests, which are no more than a queue holds; the current
-- hart is there; and no frame is held twice, by leaves of the mapping or held back.
pub record IsKept (s : HartsState) : Type 0 where
  pub spec_is : IsHartSpec s.spec
  pub table_is : IsTable s.spec s.table.shape
  pub history : IsHistory (shared_row s.spec) s.requests s.table.leaves
  pub each : (n : ℕ) → IsHart s.spec s.requests s.table.leaves (hart_at n s)
  pub longest_is : longest s.harts ≡ length s.requests
  pub short : length s.requests ≤ s.spec.queue
  pub count : length s.harts ≡ s.spec.harts
  pub current_in : s.current < length s.harts
  pub alone : (frame : ℕ) → owners frame (kept_leaves s) ≤ 1
