-- Small words on numbers and tests, which everything else is said with.
use Rattle.std.specs.Prelude.{ℕ, ◌+◌, ◌%◌, ◌^◌, Bool, true, false, not, Option, None, Some}

-- A sum of counts: counts are numbers modulo 2^64.
abbrev pub plus : ℕ → ℕ → ℕ
plus a b = (a + b) % 2 ^ 64

-- One where the test holds, else none.
abbrev pub one_if : Bool → ℕ
one_if true = 1
one_if false = 0

-- The number, or 0 where there is none.
abbrev pub number_or_0 : Option ℕ → ℕ
number_or_0 None = 0
number_or_0 (Some n) = n

-- Two bits are equal.
abbrev pub same_bit : Bool → Bool → Bool
same_bit true b = b
same_bit false b = not b
