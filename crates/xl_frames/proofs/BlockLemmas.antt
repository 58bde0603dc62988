-- Blocks of free frames.
use Rattle.xl_frames.proofs.Common.{◌*◌, ◌+◌, ◌-◌, ◌/◌, ◌<◌, ◌∙◌, ◌≤◌, arith, Bool, cases_lt, div-add-mod, false, false≢true, get_or-replicate, get_or_past, inl, inr, IsFree, IsLowest, length, List, mul-le-mul_right, mul_comm, refl, replicate, suc, suc-mul, sym, true, ℕ}

-- ---- a block of a size

pub one_more_block : (a b size : ℕ) → a < b → a * size + size ≤ b * size
one_more_block a b size l = omega (arith, mul-le-mul_right {m = suc a} size l, suc-mul a size)

-- ---- free blocks

pub free_fits : (pool : List Bool) (first count : ℕ) → IsFree pool first count → 0 < count → first + count ≤ length pool
free_fits pool first count f pos =
    elim (cases_lt (length pool) (first + count)) [
      | inl short ↦ absurd (false≢true (sym (get_or_past pool (first + count - 1) false (omega arith)) ∙ f.each (first + count - 1) (omega arith) (omega arith)))
      | inr fits ↦ fits
    ]

pub free_all : (n first count : ℕ) → first + count ≤ n → IsFree (replicate n true) first count
free_all n first count fits = record { each = λ frame l u. get_or-replicate n frame true false (omega arith) }

-- ---- a scan over all blocks

-- a block that fits is among the whole blocks
pub block_below : (block size n : ℕ) → 0 < size → block * size + size ≤ n → block < n / size
block_below block size n pos fits =
    elim (cases_lt block (n / size)) [
      | inl l ↦ l
      | inr g ↦ absurd (omega (arith, mul-le-mul_right {m = n / size} size g, mul_comm size (n / size), div-add-mod n size))
    ]

pub lowest_found : (pool : List Bool) (block size : ℕ) → block * size + size ≤ length pool → IsFree pool (block * size) size
    → ((b : ℕ) → b < block → IsFree pool (b * size) size → ⊥) → IsLowest pool size (block * size)
lowest_found pool block size fits f before = record {
  aligned = (block, refl);
  fits = fits;
  is_free = f;
  least = λ b g.
      elim (cases_lt b block) [ inl l ↦ absurd (before b l g) | inr ge ↦ mul-le-mul_right {m = block} size ge ];
}

-- and the whole blocks fit
pub block_fits : (block size n : ℕ) → block < n / size → block * size + size ≤ n
block_fits block size n l =
    omega (arith, one_more_block block (n / size) size l, mul_comm size (n / size), div-add-mod n size)
