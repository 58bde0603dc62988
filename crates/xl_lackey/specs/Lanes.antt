-- Hexadecimal digits side by side.
use Rattle.std.specs.Prelude.{ℕ, ◌+◌, ◌-◌, ◌*◌, ◌%◌, ◌^◌, nat_lt, nat_le, List, [], ◌∷◌, if◌then◌else◌}

-- A byte less another, modulo 2 ^ 8.
abbrev pub less : ℕ → ℕ → ℕ
less a b = (a + (2 ^ 8 - b)) % 2 ^ 8

-- The byte of a mask: all bits are set where a is below b.
abbrev pub is_below : ℕ → ℕ → ℕ
is_below a b = if nat_lt a b then 255 else 0

-- The sum of two bytes, modulo 2 ^ 8.
abbrev pub plus : ℕ → ℕ → ℕ
plus a b = (a + b) % 2 ^ 8

-- The smaller of two bytes, by the mask of their comparison.
abbrev pub smaller : ℕ → ℕ → ℕ
smaller a b = if nat_le 128 (is_below a b) then a else b

-- The larger of two bytes, by the same mask.
abbrev pub larger : ℕ → ℕ → ℕ
larger a b = if nat_le 128 (is_below a b) then b else a

-- The value of a byte as a hexadecimal digit of lower case, and 16 or more where it is none, as it
-- is computed of all bytes side by side: that of a decimal digit, or of a letter, whichever is
-- smaller.
abbrev pub lane_value : ℕ → ℕ
lane_value b = smaller (plus (larger (less b 58) 6) 10) (plus (smaller (less b 97) 118) 10)

-- The number that hexadecimal digits give after those of a value.
abbrev pub number_of : ℕ → List ℕ → ℕ
number_of value [] = value
number_of value (d ∷ ds) = number_of (value * 16 + d) ds
