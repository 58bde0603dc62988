-- What callers use: what a marked pool is at each frame, and blocks of one frame, which serve as numbers.
use Rattle.xl_frames.proofs.Common.{◌*◌, ◌++◌, ◌+◌, ◌-◌, ◌<◌, ◌∙◌, ◌≡◌, ◌≤◌, ap, arith, Bool, drop, get_or, get_or-append_right, get_or-drop, get_or-replicate, get_or-take, get_or_append_left, length, length-append, length-drop, length-replicate, length-take, List, marked, replicate, take, ℕ}

pub length-marked : (pool : List Bool) (first count : ℕ) (v : Bool) → first + count ≤ length pool → length (marked pool first count v) ≡ length pool
length-marked pool first count v l =
    omega (
      arith,
      length-append (take first pool) (replicate count v ++ drop (first + count) pool),
      length-append (replicate count v) (drop (first + count) pool),
      length-replicate count v,
      length-take first pool,
      length-drop (first + count) pool,
    )

-- the frames of the block
pub marked_inside : (pool : List Bool) (first count frame : ℕ) (v d : Bool) → first + count ≤ length pool
    → first ≤ frame → frame < first + count → get_or (marked pool first count v) frame d ≡ v
marked_inside pool first count frame v d l from to =
    let n : length (take first pool) ≡ first = omega (arith, length-take first pool) in
    get_or-append_right (take first pool) (replicate count v ++ drop (first + count) pool) first frame d n from
    ∙ get_or_append_left (replicate count v) (drop (first + count) pool) d (frame - first) (omega (arith, length-replicate count v))
    ∙ get_or-replicate count (frame - first) v d (omega arith)

-- all others
pub marked_below : (pool : List Bool) (first count frame : ℕ) (v d : Bool) → first + count ≤ length pool
    → frame < first → get_or (marked pool first count v) frame d ≡ get_or pool frame d
marked_below pool first count frame v d l below =
    let n : length (take first pool) ≡ first = omega (arith, length-take first pool) in
    get_or_append_left (take first pool) (replicate count v ++ drop (first + count) pool) d frame (omega arith)
    ∙ get_or-take first pool frame d below

pub marked_above : (pool : List Bool) (first count frame : ℕ) (v d : Bool) → first + count ≤ length pool
    → first + count ≤ frame → get_or (marked pool first count v) frame d ≡ get_or pool frame d
marked_above pool first count frame v d l above =
    let n : length (take first pool) ≡ first = omega (arith, length-take first pool) in
    let m : length (replicate count v) ≡ count = length-replicate count v in
    let e : (first + count) + ((frame - first) - count) ≡ frame = omega arith in
    get_or-append_right (take first pool) (replicate count v ++ drop (first + count) pool) first frame d n (omega arith)
    ∙ get_or-append_right (replicate count v) (drop (first + count) pool) count (frame - first) d m (omega arith)
    ∙ get_or-drop (first + count) pool ((frame - first) - count) d
    ∙ ap (λ (k : ℕ). get_or pool k d) e
