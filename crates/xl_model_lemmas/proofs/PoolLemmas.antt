-- The lowest free block of a pool is the lowest block that no leaf holds. For the machine.
use Rattle.xl_model_lemmas.proofs.Common.{◌*◌, ◌+◌, ◌-◌, ◌<◌, ◌∙◌, ◌∷◌, ◌≡◌, ◌≤◌, [], any-In, ap, arith, Bool, false, frames_rule, HasNone, holds_frames, In, In-any, IsAnswer, IsFree, IsFreeOf, IsLowest, IsPoolOf, Leaf, length, List, list_any, lowest, nat_le, nat_tests, None, not, Option, Order, pages_of, refl, slice_index_or, Some, subst, suc, sym, true, zero, ℕ}
use Rattle.xl_model_lemmas.proofs.LowestLemmas.{lowest-is-lowest}
use Rattle.xl_model_lemmas.proofs.PlaceLemmas.{pages-some}
use Rattle.xl_model.specs.declared.event.Refusal.TheVariants as refused

-- a leaf that holds a frame of a block holds some frame of it
shared : (at size : ℕ) (x : Leaf) → 0 < size → 0 < pages_of x.order → holds_frames at size x ≡ true → (f : ℕ) × (at ≤ f) × (f < at + size) × (holds_frames f 1 x ≡ true)
shared at size x some own h =
    elim (nat_le at x.frame) as (λ b. nat_le at x.frame ≡ b → (f : ℕ) × (at ≤ f) × (f < at + size) × (holds_frames f 1 x ≡ true)) [
      | true ↦ λ t. (x.frame, low t, below h, mine own)
      | false ↦ λ t. (at, omega arith, omega arith, there t h)
    ] refl
  where
    low : nat_le at x.frame ≡ true → at ≤ x.frame
    low t = grind (arith, nat_tests)

    below : holds_frames at size x ≡ true → x.frame < at + size
    below h = grind (arith, nat_tests)

    mine : 0 < pages_of x.order → holds_frames x.frame 1 x ≡ true
    mine own = grind (arith, nat_tests)

    there : nat_le at x.frame ≡ false → holds_frames at size x ≡ true → holds_frames at 1 x ≡ true
    there t h = grind (arith, nat_tests)

-- a leaf that holds a frame of the block holds a frame of the block's
within : (at size f : ℕ) (x : Leaf) → at ≤ f → f < at + size → holds_frames f 1 x ≡ true → holds_frames at size x ≡ true
within at size f x low high h = grind (arith, nat_tests)

pub no-leaf : (f : ℕ) (leaves : List Leaf) → ((x : Leaf) → In x leaves → holds_frames f 1 x ≡ false) → list_any (holds_frames f 1) leaves ≡ false
no-leaf f leaves none = go (list_any (holds_frames f 1) leaves) refl
  where
    go : (b : Bool) → list_any (holds_frames f 1) leaves ≡ b → list_any (holds_frames f 1) leaves ≡ false
    go true t =
        let found = any-In (holds_frames f 1) leaves t in
        let a : holds_frames f 1 found.0 ≡ true = found.2 in
        let b : holds_frames f 1 found.0 ≡ false = none found.0 found.1 in
        absurd (cc)
    go false t = t

-- free in the pool is free of leaves
pub free-of : (frames at size : ℕ) (leaves : List Leaf) (pool : List Bool) → IsPoolOf frames leaves pool → 0 < size → at + size ≤ frames → IsFree pool at size → IsFreeOf size at leaves
free-of frames at size leaves pool tie some fits free x i = go (holds_frames at size x) refl
  where
    go : (b : Bool) → holds_frames at size x ≡ b → holds_frames at size x ≡ false
    go true t =
        let f = shared at size x some (pages-some x.order) t in
        let held : list_any (holds_frames f.0 1) leaves ≡ true = In-any (holds_frames f.0 1) x leaves i f.3 in
        let flag : slice_index_or pool f.0 false ≡ true = free.each f.0 f.1 f.2 in
        let low : f.0 < frames = let k : f.0 < at + size = f.2 in omega arith in
        let is : slice_index_or pool f.0 false ≡ not (list_any (holds_frames f.0 1) leaves) = tie.each f.0 low in
        let now : slice_index_or pool f.0 false ≡ false = is ∙ ap not held in
        let k : true ≡ false = sym flag ∙ now in
        absurd (cc)
    go false t = t

pub free-in : (frames at size : ℕ) (leaves : List Leaf) (pool : List Bool) → IsPoolOf frames leaves pool → at + size ≤ frames → IsFreeOf size at leaves → IsFree pool at size
free-in frames at size leaves pool tie fits free = record {
  each = λ f low high.
      let none : list_any (holds_frames f 1) leaves ≡ false = no-leaf f leaves (λ x i. go x i f low high (holds_frames f 1 x) refl) in
      tie.each f (omega arith) ∙ ap not none;
}
  where
    go : (x : Leaf) → In x leaves → (f : ℕ) → at ≤ f → f < at + size → (b : Bool) → holds_frames f 1 x ≡ b → holds_frames f 1 x ≡ false
    go x i f low high true t =
        let a : holds_frames at size x ≡ true = within at size f x low high t in
        let b : holds_frames at size x ≡ false = free x i in
        absurd (cc)
    go x i f low high false t = t

lowest-by : (frames : ℕ) (o : Order) (leaves : List Leaf) (pool : List Bool) (at : ℕ) → IsPoolOf frames leaves pool → IsLowest pool (pages_of o) at
    → (m : Option ℕ) → IsAnswer frames (pages_of o) leaves m → m ≡ Some at
lowest-by frames o leaves pool at tie low None is =
    let e = low.aligned in
    let fits : at + pages_of o ≤ frames = let k : at + pages_of o ≤ length pool = low.fits in let s : length pool ≡ frames = tie.size in omega arith in
    let Q : ℕ → Type 0 = λ n. n + pages_of o ≤ frames in
    absurd (is e.0 (subst Q e.1 fits) (subst (λ (n : ℕ). IsFreeOf (pages_of o) n leaves) e.1 (free-of frames at (pages_of o) leaves pool tie (pages-some o) fits low.is_free)))
lowest-by frames o leaves pool at tie low (Some b) is =
    let e = low.aligned in
    let d = is.aligned in
    let fits : at + pages_of o ≤ frames = let k : at + pages_of o ≤ length pool = low.fits in let s : length pool ≡ frames = tie.size in omega arith in
    let P : ℕ → Type 0 = λ n. IsFreeOf (pages_of o) n leaves in
    let Q : ℕ → Type 0 = λ n. n + pages_of o ≤ frames in
    let one : b ≤ e.0 * pages_of o = is.least e.0 (subst Q e.1 fits) (subst P e.1 (free-of frames at (pages_of o) leaves pool tie (pages-some o) fits low.is_free)) in
    let two : at ≤ d.0 * pages_of o = low.least d.0 (subst (λ (n : ℕ). IsFree pool n (pages_of o)) d.1 (free-in frames b (pages_of o) leaves pool tie is.fits is.is_free)) in
    let x : at ≡ e.0 * pages_of o = e.1 in
    let y : b ≡ d.0 * pages_of o = d.1 in
    ap Some (omega arith)

pub lowest-some : (frames : ℕ) (o : Order) (leaves : List Leaf) (pool : List Bool) (at : ℕ) → IsPoolOf frames leaves pool → IsLowest pool (pages_of o) at → lowest frames o leaves ≡ Some at
lowest-some frames o leaves pool at tie low = lowest-by frames o leaves pool at tie low (lowest frames o leaves) (lowest-is-lowest frames o leaves)

none-by : (frames : ℕ) (o : Order) (leaves : List Leaf) (pool : List Bool) → IsPoolOf frames leaves pool → HasNone pool (pages_of o)
    → (m : Option ℕ) → IsAnswer frames (pages_of o) leaves m → m ≡ None
none-by frames o leaves pool tie none None is = refl
none-by frames o leaves pool tie none (Some b) is =
    let d = is.aligned in
    absurd (none.none d.0 (subst (λ (n : ℕ). IsFree pool n (pages_of o)) d.1 (free-in frames b (pages_of o) leaves pool tie is.fits is.is_free)))

pub lowest-none : (frames : ℕ) (o : Order) (leaves : List Leaf) (pool : List Bool) → IsPoolOf frames leaves pool → HasNone pool (pages_of o) → lowest frames o leaves ≡ None
lowest-none frames o leaves pool tie nothing = none-by frames o leaves pool tie nothing (lowest frames o leaves) (lowest-is-lowest frames o leaves)

inside : (pool : List Bool) (f : ℕ) → slice_index_or pool f false ≡ true → f < length pool
inside [] f h = absurd (cc)
inside (x ∷ xs) zero h = omega arith
inside (x ∷ xs) (suc f) h = let k : f < length xs = inside xs f h in omega arith

-- a block that is free in the pool is free of leaves, so that there is a lowest one
pub has-frames : (frames : ℕ) (o : Order) (leaves : List Leaf) (pool : List Bool) → IsPoolOf frames leaves pool
    → (block : ℕ) × IsFree pool (block * pages_of o) (pages_of o) → frames_rule (lowest frames o leaves) ≡ None
has-frames frames o leaves pool tie (block, free) = go (lowest frames o leaves) (lowest-is-lowest frames o leaves)
  where
    some : 0 < pages_of o
    some = pages-some o

    fits : block * pages_of o + pages_of o ≤ frames
    fits =
        let positive = some in
        let size : length pool ≡ frames = tie.size in
        let last : block * pages_of o + pages_of o - 1 < length pool = inside pool (block * pages_of o + pages_of o - 1) (free.each (block * pages_of o + pages_of o - 1) (omega arith) (omega arith)) in
        omega arith

    go : (m : Option ℕ) → IsAnswer frames (pages_of o) leaves m → frames_rule m ≡ None
    go None nothing = absurd (nothing block fits (free-of frames (block * pages_of o) (pages_of o) leaves pool tie some fits free))
    go (Some at) is = refl

pub no-frames : (frames : ℕ) (o : Order) (leaves : List Leaf) (pool : List Bool) → IsPoolOf frames leaves pool → HasNone pool (pages_of o)
    → frames_rule (lowest frames o leaves) ≡ Some refused.NoFrames
no-frames frames o leaves pool tie none = rw (lowest-none frames o leaves pool tie none) refl
