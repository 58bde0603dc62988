-- Numbers are read from the front, one digit after another.
use Rattle.std.proofs.Common.{◌≡◌, ℕ, ◌+◌, ◌*◌, ◌^◌, ◌≤◌, ◌<◌, true, false, List, ◌∷◌, length, Option, Some, None, refl, ap, arith}
use Rattle.std.specs.Option.{option_map}
use Rattle.std.specs.Char.{digit_value, is_digit}
use Rattle.std.proofs.Math.Nat.{pow-suc, add-mul, mul_assoc, mul_comm}
use Rattle.std.proofs.lemmas.Bool.{le-ltb, lt-ltb}
use Rattle.xl_text.specs.Numbers.{number_in}

-- the number of n and then these digits
abbrev pub number_after : ℕ → ℕ → List ℕ → Option ℕ
number_after base n cs = option_map (λ v. n * base ^ length cs + v) (number_in base cs)

after_zero : (p : ℕ) (o : Option ℕ) → option_map (λ v. 0 * p + v) o ≡ o
after_zero p None = refl
after_zero p (Some v) = ap Some (omega arith)

pub none_read : (base : ℕ) (cs : List ℕ) → number_after base 0 cs ≡ number_in base cs
none_read base cs = after_zero (base ^ length cs) (number_in base cs)

shifted : (n base d p v : ℕ) → n * (p * base) + (d * p + v) ≡ (n * base + d) * p + v
shifted n base d p v =
    let one : (n * base + d) * p ≡ n * base * p + d * p = add-mul (n * base) d p in
    let two : n * base * p ≡ n * (base * p) = mul_assoc n base p in
    let three : n * (base * p) ≡ n * (p * base) = ap (λ k. n * k) (mul_comm base p) in
    omega arith

digit_shifted : (n base d p : ℕ) (o : Option ℕ)
    → option_map (λ v. n * (p * base) + v) (option_map (λ v. d * p + v) o) ≡ option_map (λ v. (n * base + d) * p + v) o
digit_shifted n base d p None = refl
digit_shifted n base d p (Some v) = ap Some (shifted n base d p v)

-- one digit more is read
pub digit_read : (base n c : ℕ) (cs : List ℕ) → digit_value c < base
    → number_after base n (c ∷ cs) ≡ number_after base (n * base + digit_value c) cs
digit_read base n c cs small =
    let is : is_digit c base ≡ true = lt-ltb _ _ small in
    rw (is, pow-suc) (digit_shifted n base (digit_value c) (base ^ length cs) (number_in base cs))

-- a byte that is no digit
pub no_digit : (base n c : ℕ) (cs : List ℕ) → base ≤ digit_value c → number_after base n (c ∷ cs) ≡ None
no_digit base n c cs large = let is : is_digit c base ≡ false = le-ltb _ _ large in rw is refl
