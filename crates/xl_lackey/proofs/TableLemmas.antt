-- The table of hexadecimal digits says what the rule of digits says.
use Rattle.xl_lackey.proofs.Common.{if◌then◌else◌, ◌+◌, ◌<◌, ◌==◌, ◌∙◌, ◌∷◌, ◌≡◌, ◌≤◌, [], ap, arith, Bool, digit_or_4096, false, get_or, hex_digit, IfSome, length, List, nat_tests, None, Option, refl, Some, suc, true, zero, ℕ}
use Rattle.xl_lackey.specs.declared.digits.TheConstants.{HEX_DIGITS}

-- values of the bytes from one on
abbrev agrees : ℕ → List ℕ → Bool
agrees b [] = true
agrees b (d ∷ ds) = if d == digit_or_4096 (hex_digit b) then agrees (suc b) ds else false

table_agrees : agrees 0 HEX_DIGITS ≡ true
table_agrees = refl

pub both_hold : (t on : Bool) → (if t then on else false) ≡ true → (t ≡ true) × (on ≡ true)
both_hold true on h = (refl, h)
both_hold false on h = cc

at_place : (b : ℕ) (ds : List ℕ) (k : ℕ) → agrees b ds ≡ true → k < length ds → get_or ds k 0 ≡ digit_or_4096 (hex_digit (b + k))
at_place b [] k h l = absurd (omega arith)
at_place b (d ∷ ds) zero h l =
    let t = both_hold (d == digit_or_4096 (hex_digit b)) (agrees (suc b) ds) h in
    let e : d ≡ digit_or_4096 (hex_digit b) = grind (arith, nat_tests, t.0) in
    let z : b + 0 ≡ b = omega arith in rw z e
at_place b (d ∷ ds) (suc k) h l =
    let t = both_hold (d == digit_or_4096 (hex_digit b)) (agrees (suc b) ds) h in
    let s : suc b + k ≡ b + suc k = omega arith in
    at_place (suc b) ds k t.1 (omega arith) ∙ ap (λ (n : ℕ). digit_or_4096 (hex_digit n)) s

pub table_value : (b : ℕ) → b < 256 → get_or HEX_DIGITS b 0 ≡ digit_or_4096 (hex_digit b)
table_value b h =
    let z : 0 + b ≡ b = omega arith in at_place 0 HEX_DIGITS b table_agrees h ∙ ap (λ (n : ℕ). digit_or_4096 (hex_digit n)) z

pub digit_bound : (b : ℕ) → IfSome (hex_digit b) (λ d. d < 16)
digit_bound b = grind (arith, nat_tests)

some_by : (o : Option ℕ) (v : ℕ) → v ≡ digit_or_4096 o → v < 4096 → Some v ≡ o
some_by None v e l = absurd (omega arith)
some_by (Some d) v e l = ap Some e

none_by : (o : Option ℕ) (v : ℕ) → v ≡ digit_or_4096 o → IfSome o (λ d. d < 16) → 16 ≤ v → None ≡ o
none_by None v e s l = refl
none_by (Some d) v e s l = absurd (omega arith)

most_by : (o : Option ℕ) → IfSome o (λ d. d < 16) → digit_or_4096 o ≤ 4096
most_by None s = omega arith
most_by (Some d) s = omega (arith, s)

pub digit_most : (b : ℕ) → digit_or_4096 (hex_digit b) ≤ 4096
digit_most b = most_by (hex_digit b) (digit_bound b)

pub digit_read : (b v : ℕ) → v ≡ digit_or_4096 (hex_digit b) → v < 4096 → Some v ≡ hex_digit b
digit_read b v e l = some_by (hex_digit b) v e l

pub digit_refused : (b v : ℕ) → v ≡ digit_or_4096 (hex_digit b) → 16 ≤ v → None ≡ hex_digit b
digit_refused b v e l = none_by (hex_digit b) v e (digit_bound b) l
