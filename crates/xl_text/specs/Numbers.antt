-- Numbers by their digits.
use Rattle.std.specs.Prelude.{ℕ, ◌+◌, ◌*◌, ◌^◌, ◌&&◌, nat_le, List, [], ◌∷◌, length, Option, None, Some, if◌then◌else◌}
use Rattle.std.specs.Option.{option_map}
use Rattle.std.specs.Char.{digit_value, is_digit}

-- The number of some digits, each worth as many times a power of the base as digits follow it. None
-- where a byte is no digit of the base.
abbrev pub number_in : ℕ → List ℕ → Option ℕ
number_in base [] = Some 0
number_in base (c ∷ cs) =
    if is_digit c base then option_map (λ rest. digit_value c * base ^ length cs + rest) (number_in base cs) else None

-- An address is 1 to 16 hexadecimal digits of either case.
abbrev pub address_of : List ℕ → Option ℕ
address_of digits = if nat_le 1 (length digits) && nat_le (length digits) 16 then number_in 16 digits else None
