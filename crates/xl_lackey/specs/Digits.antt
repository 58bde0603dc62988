-- Hexadecimal digits, read from the front.
use Rattle.std.specs.Prelude.{ℕ, ◌+◌, ◌-◌, ◌*◌, ◌&&◌, nat_le, List, [], ◌∷◌, if◌then◌else◌, Option, None, Some}
use Rattle.std.specs.Option.{option_and_then}
use Rattle.xl_lackey.specs.Lines.{is_digit}

-- The value of a hexadecimal digit of either case.
abbrev pub hex_digit : ℕ → Option ℕ
hex_digit b =
    if is_digit b then Some (b - 48)
    else if nat_le 97 b && nat_le b 102 then Some (b - 87)
    else if nat_le 65 b && nat_le b 70 then Some (b - 55) else None

-- The value of a digit, and 4096 where there is none: more than any place in a page.
abbrev pub digit_or_4096 : Option ℕ → ℕ
digit_or_4096 None = 4096
digit_or_4096 (Some d) = d

-- The value of hexadecimal digits that follow those of a value; None where one of them is no such
-- digit.
abbrev pub hex_value : ℕ → List ℕ → Option ℕ
hex_value value [] = Some value
hex_value value (b ∷ bs) = option_and_then (λ d. hex_value (value * 16 + d) bs) (hex_digit b)
