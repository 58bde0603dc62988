use Rattle.std.proofs.Common.{◌<◌, ◌^◌, ◌∙◌, ◌≡◌, ◌≤◌, ap, arith, Bool, false, List, sym, true, ℕ}
use Rattle.std.specs.Prelude.{if◌then◌else◌, None, Some}
use Rattle.std.specs.Str.Parse.{digits_value, IsNumeral, without_leading_plus}
use Rattle.std.proofs.lemmas.Bool.{false_from_ne_true}
use Rattle.clap.specs.ValueTests.{is_unsigned_in}
use Rattle.clap.specs.declared.builder.value_parser.ValueParser.TheVariants as parser
use Rattle.clap.proofs.ValueTestLemmas.{Accepts-accepts, accepts-Accepts}
use Rattle.xl_words.specs.Words.{number_of}
use Rattle.xl_words.proofs.words.number.Goals as goal

-- What a text that is read as a number says of the number that it is.
numbered-as : (most : ℕ) (text : List ℕ) (b : Bool) → is_unsigned_in 1 most text ≡ b → number_of most text ≡ (if b then Some (digits_value 10 (without_leading_plus text)) else None)
numbered-as most text b e = ap (λ (t : Bool). if t then Some (digits_value 10 (without_leading_plus text)) else None) e

-- a numeral in range is its number
in-range : (most : ℕ) (text : List ℕ) (n : ℕ) → most < 2 ^ 32 → IsNumeral 10 (without_leading_plus text) → n ≡ digits_value 10 (without_leading_plus text) → 1 ≤ n → n ≤ most → Some n ≡ number_of most text
in-range most text n few is e least fit =
    let v = digits_value 10 (without_leading_plus text) in
    let low : 1 ≤ v = rw (← e) least in
    let high : v ≤ most = rw (← e) fit in
    let fits : v < 2 ^ 64 = omega arith in
    ap (λ (k : ℕ). Some k) e ∙ sym (numbered-as most text true (Accepts-accepts false (parser.Unsigned 1 most) text (is, fits, low, high)))

-- any other text is none
out-of-range : (most : ℕ) (text : List ℕ) → (IsNumeral 10 (without_leading_plus text) → 1 ≤ digits_value 10 (without_leading_plus text) → digits_value 10 (without_leading_plus text) ≤ most → ⊥) → None ≡ number_of most text
out-of-range most text not =
    sym (numbered-as most text false (false_from_ne_true (is_unsigned_in 1 most text)
    (λ yes. let a = accepts-Accepts false (parser.Unsigned 1 most) text yes in not a.0 a.2 a.3)))

pub returns-in_default : goal.returns-in_default
returns-in_default c = out-of-range c.args.most c.args.text.now (λ is low high. c.in_default.ensures.value.0 (is, omega arith))

pub returns : goal.returns
returns c =
    let got = c.in-Ok.ensures.value.0 in
    let low = c.if-number-lt1.false in
    let high = c.if-number-most.false in
    in-range c.args.most c.args.text.now c.in-Ok.number (omega arith) got.0.0 got.1 (omega arith) (omega arith)
