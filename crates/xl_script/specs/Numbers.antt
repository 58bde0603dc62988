-- Numbers as scripts write them.
use Rattle.std.specs.Prelude.{ℕ, ◌==◌, ◌&&◌, nat_le, nat_lt, List, [], ◌∷◌, Option, None, Some, if◌then◌else◌}
use Rattle.std.specs.Option.{option_and_then}
use Rattle.xl_text.specs.Numbers.{number_in, address_of}

-- A number below a limit.
abbrev pub below : ℕ → Option ℕ → Option ℕ
below limit None = None
below limit (Some n) = if nat_lt n limit then Some n else None

-- A number from least to most.
abbrev pub within : ℕ → ℕ → ℕ → Option ℕ
within least most n = if nat_le least n && nat_le n most then Some n else None

-- A decimal number: at least one digit, and no zero before other digits.
abbrev pub unsigned : List ℕ → Option ℕ
unsigned [] = None
unsigned (c ∷ []) = number_in 10 (c ∷ [])
unsigned (c ∷ d ∷ cs) = if c == 48 then None else number_in 10 (c ∷ d ∷ cs)

-- A decimal number from least to most.
unfoldable pub decimal_of : ℕ → ℕ → List ℕ → Option ℕ
decimal_of least most word = option_and_then (within least most) (unsigned word)

-- A word without `0x` at its front.
abbrev pub without_prefix : List ℕ → List ℕ
without_prefix [] = []
without_prefix (a ∷ []) = a ∷ []
without_prefix (a ∷ b ∷ bs) = if (a == 48) && (b == 120) then bs else a ∷ b ∷ bs

-- A hexadecimal number of 1 to 16 digits, with or without `0x`.
unfoldable pub hexadecimal_of : List ℕ → Option ℕ
hexadecimal_of word = address_of (without_prefix word)
