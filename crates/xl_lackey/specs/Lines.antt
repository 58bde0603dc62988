-- One line of a Lackey trace, without the newline that ends it (Valgrind manual, Lackey, `--trace-mem=yes`).
-- A blank is a space or a tab. `#` is 35, `,` is 44.
use Rattle.std.specs.Prelude.{ℕ, ◌+◌, ◌-◌, ◌*◌, ◌^◌, ◌≤◌, ◌==◌, ◌&&◌, ◌||◌, nat_le, nat_lt, max, Bool, true, List, [], ◌∷◌, length, drop, codes, if◌then◌else◌, Option, None, Some}
use Rattle.std.specs.Option.{option_map, option_and_then}
use Rattle.std.specs.List.{starts_with}
use Rattle.xl_text.specs.Texts.{is_blank, without_return}
use Rattle.xl_text.specs.Numbers.{address_of}
use Rattle.xl_lackey.specs.declared.reference.Letter.{Letter}
use Rattle.xl_lackey.specs.declared.reference.Letter.TheVariants as letter
use Rattle.xl_lackey.specs.declared.line.Verdict.{Verdict}
use Rattle.xl_lackey.specs.declared.line.Verdict.TheVariants.{Skipped, Found, Bad}

-- The most bytes of a line that isn't skipped by its first bytes.
abbrev pub longest : ℕ
longest = 256

-- A decimal digit.
abbrev pub is_digit : ℕ → Bool
is_digit b = nat_le 48 b && nat_le b 57

-- The bytes at the front that pass a test.
abbrev pub front : (ℕ → Bool) → List ℕ → List ℕ
front test [] = []
front test (b ∷ bs) = if test b then b ∷ front test bs else []

-- What follows the bytes at the front that pass a test.
abbrev pub after : (ℕ → Bool) → List ℕ → List ℕ
after test [] = []
after test (b ∷ bs) = if test b then after test bs else (b ∷ bs)

-- Whether a line begins with the bytes of those that are skipped, however long they are.
abbrev pub is_remark : List ℕ → Bool
is_remark text =
    starts_with ◌==◌ text (codes "==") || starts_with ◌==◌ text (codes "--") || starts_with ◌==◌ text (codes "**")
    || starts_with ◌==◌ text (codes "SB ") || starts_with ◌==◌ text (codes "#")

-- The letter of a record: an instruction fetch, a load, a store or a modify.
abbrev pub letter_of : ℕ → Option Letter
letter_of b =
    if b == 73 then Some letter.I else if b == 76 then Some letter.L else if b == 83 then Some letter.S
    else if b == 77 then Some letter.M else None

-- The value of decimal digits that follow those of a value.
abbrev pub decimal_value : ℕ → List ℕ → ℕ
decimal_value value [] = value
decimal_value value (b ∷ bs) = decimal_value (value * 10 + (b - 48)) bs

-- A byte in front of the first of two parts.
abbrev pub in_front : ℕ → List ℕ × List ℕ → List ℕ × List ℕ
in_front b parts = (b ∷ parts.0, parts.1)

-- What is before the first byte of a kind, and after it; None where there is none.
abbrev pub parted : ℕ → List ℕ → Option (List ℕ × List ℕ)
parted kind [] = None
parted kind (b ∷ bs) = if b == kind then Some ([], bs) else option_map (in_front b) (parted kind bs)

-- An address, where there is one, and what follows it.
abbrev pub before : List ℕ → Option ℕ → Option (ℕ × List ℕ)
before text None = None
before text (Some addr) = Some (addr, text)

-- The address that the first part is, and the second part.
abbrev pub with_rest : List ℕ × List ℕ → Option (ℕ × List ℕ)
with_rest parts = before parts.1 (address_of parts.0)

-- An address that a comma ends, and what follows the comma.
abbrev pub address_in : List ℕ → Option (ℕ × List ℕ)
address_in text = option_and_then with_rest (parted 44 text)

-- After the letter there is at least one blank, and then the address.
abbrev pub address_after : List ℕ → Option (ℕ × List ℕ)
address_after [] = None
address_after (b ∷ bs) = if is_blank b then address_in (after is_blank bs) else None

-- A size is 1 to 6 decimal digits, with a value of at most 65536.
abbrev pub is_size : List ℕ → Bool
is_size digits = nat_le 1 (length digits) && nat_le (length digits) 6 && nat_le (decimal_value 0 digits) 65536

-- A size at the front, up to what is no digit, and how many digits it has.
abbrev pub size_in : List ℕ → Option (ℕ × ℕ)
size_in text =
    if is_size (front is_digit text)
    then Some (decimal_value 0 (front is_digit text), length (front is_digit text)) else None

-- A record ends at the line's end, or at a `#` and anything.
abbrev pub is_end : List ℕ → Bool
is_end [] = true
is_end (b ∷ bs) = b == 35

-- The bytes touched are those from the address on, at least one; the last of them is at most 2 ^ 64
-- - 1.
abbrev pub fits : ℕ → ℕ → Bool
fits addr size = nat_le (addr + max size 1) (2 ^ 64)

-- What a line is, by its parts from left to right; the reason is that of the first fault. A
-- record whose bytes pass the last address has reason 5.
abbrev pub of_range : Letter → ℕ → ℕ → Verdict
of_range l addr size = if fits addr size then Found l addr size else Bad 5

-- Something else after the size has reason 4.
abbrev pub of_end : Letter → ℕ → ℕ → List ℕ → Verdict
of_end l addr size text = if is_end text then of_range l addr size else Bad 4

-- A size that can't be read has reason 3.
abbrev pub of_size : Letter → ℕ → List ℕ → Option (ℕ × ℕ) → Verdict
of_size l addr text None = Bad 3
of_size l addr text (Some (size, digits)) = of_end l addr size (after is_blank (drop digits text))

-- An address that can't be read has reason 2.
abbrev pub of_address : Letter → Option (ℕ × List ℕ) → Verdict
of_address l None = Bad 2
of_address l (Some (addr, text)) = of_size l addr text (size_in text)

-- Another letter has reason 1.
abbrev pub of_letter : Option Letter → List ℕ → Verdict
of_letter None text = Bad 1
of_letter (Some l) text = of_address l (address_after text)

-- A line with nothing after its blanks but a comment is skipped.
abbrev pub of_words : List ℕ → Verdict
of_words [] = Skipped
of_words (b ∷ bs) = if b == 35 then Skipped else of_letter (letter_of b) bs

-- A line that isn't skipped by its first bytes has reason 6 where it is too long.
abbrev pub of_text : List ℕ → Verdict
of_text text =
    if is_remark text then Skipped
    else if nat_lt longest (length text) then Bad 6
    else of_words (after is_blank text)

-- What a line is, without the newline that ends it.
unfoldable pub judge : List ℕ → Verdict
judge line = of_text (without_return line)

-- A record keeps the two rules of a reference.
abbrev pub IsProper : Verdict → Type 0
IsProper Skipped = Unit {0}
IsProper (Found l addr size) = (size ≤ 65536) × (addr + max size 1 ≤ 2 ^ 64)
IsProper (Bad reason) = Unit {0}
