-- How many bytes the parts of the line of an access have.
use Rattle.xl_report.proofs.Common.{◌%◌, ◌++◌, ◌+◌, ◌/◌, ◌<◌, ◌^◌, ◌∙◌, ◌∷◌, ◌≡◌, ◌≤◌, [], ap, arith, code_of, codes, decimal, decimal_digit, decimal_step, hex16, hex_digits, hex_glyph, Kind, kind_letter, length, length-append, List, physical, refl, Reply, suc, sym, with_reply, zero, ℕ}
use Rattle.xl_report.specs.Replies.{reply_size}
use Rattle.xl_model.specs.declared.address.Kind.TheVariants as kind
use Rattle.xl_model.specs.declared.leaf.Reply.TheVariants as reply
unfoldable use Rattle.xl_model.specs.Lines.{answer_line, hex16}

pub one_digit : (n : ℕ) → n < 10 → 1 ≡ length (decimal n)
one_digit n h = sym (ap (λ (ds : List ℕ). length ds) (decimal_digit n h))

-- one digit more than without the last
one_more : (n : ℕ) → 10 ≤ n → n < 2 ^ 64 → length (decimal n) ≡ length (decimal (n / 10)) + 1
one_more n h small = ap (λ (ds : List ℕ). length ds) (decimal_step n h small) ∙ length-append (decimal (n / 10)) ((48 + n % 10) ∷ [])

pub two_digits : (n : ℕ) → 10 ≤ n → n < 100 → 2 ≡ length (decimal n)
two_digits n h k = omega (arith, one_more n h (omega arith), one_digit (n / 10) (omega arith))

pub three_digits : (n : ℕ) → 100 ≤ n → n < 1000 → 3 ≡ length (decimal n)
three_digits n h k = omega (arith, one_more n (omega arith) (omega arith), two_digits (n / 10) (omega arith) (omega arith))

pub four_digits : (n : ℕ) → 1000 ≤ n → n < 10000 → 4 ≡ length (decimal n)
four_digits n h k = omega (arith, one_more n (omega arith) (omega arith), three_digits (n / 10) (omega arith) (omega arith))

pub four_more : (n : ℕ) → 10000 ≤ n → n < 2 ^ 64 → length (decimal n) ≡ length (decimal (n / 10000)) + 4
four_more n h small =
    let last = one_more n (omega arith) small in
    let second = one_more (n / 10) (omega arith) (omega arith) in
    let third = one_more (n / 10 / 10) (omega arith) (omega arith) in
    let fourth = one_more (n / 10 / 10 / 10) (omega arith) (omega arith) in
    let e : n / 10 / 10 / 10 / 10 ≡ n / 10000 = omega arith in
    let left : length (decimal (n / 10 / 10 / 10 / 10)) ≡ length (decimal (n / 10000)) = ap (λ (m : ℕ). length (decimal m)) e in
    omega (arith, last, second, third, fourth, left)

pub length-code : (k : Kind) → length (decimal (code_of k)) ≡ 2
length-code kind.Fetch = sym (two_digits 12 (omega arith) (omega arith))
length-code kind.Load = sym (two_digits 13 (omega arith) (omega arith))
length-code kind.Store = sym (two_digits 15 (omega arith) (omega arith))

length-letter : (k : Kind) → length (kind_letter k) ≡ 3
length-letter kind.Fetch = refl
length-letter kind.Load = refl
length-letter kind.Store = refl

length-hex_digits : (k n : ℕ) → length (hex_digits k n) ≡ k
length-hex_digits zero n = refl
length-hex_digits (suc k) n =
    omega (arith, length-append (hex_digits k (n / 16)) (hex_glyph (n % 16) ∷ []), length-hex_digits k (n / 16))

length-hex : (n : ℕ) → length (hex16 n) ≡ 16
unfolding hex16
length-hex n = length-hex_digits 16 n

length-reply : (line : List ℕ) (k : Kind) (va : ℕ) (r : Reply) → length (with_reply line k va r) ≡ length line + reply_size r
length-reply line k va (reply.Frame frame) =
    omega (arith, length-append (line ++ codes " ok ") (hex16 (physical frame va)), length-append line (codes " ok "), length-hex (physical frame va))
length-reply line k va reply.Unmapped =
    omega (arith, length-append (line ++ codes " unmapped ") (decimal (code_of k)), length-append line (codes " unmapped "), length-code k)
length-reply line k va reply.Denied =
    omega (arith, length-append (line ++ codes " denied ") (decimal (code_of k)), length-append line (codes " denied "), length-code k)
length-reply line k va reply.NotCanonical =
    omega (arith, length-append (line ++ codes " notcanonical ") (decimal (code_of k)), length-append line (codes " notcanonical "), length-code k)

pub length-answer : (name : List ℕ) (number : ℕ) (k : Kind) (space va : ℕ) (r : Reply)
    → length (answer_line name number k space va r) ≡ length name + length (decimal number) + length (decimal space) + reply_size r + 22
unfolding answer_line
length-answer name number k space va r =
    let a = name ++ codes " " in
    let b = a ++ decimal number in
    let c = b ++ kind_letter k in
    let d = c ++ decimal space in
    let e = d ++ codes " " in
    let f = e ++ hex16 va in
    omega (
      arith,
      length-append name (codes " "),
      length-append a (decimal number),
      length-append b (kind_letter k),
      length-append c (decimal space),
      length-append d (codes " "),
      length-append e (hex16 va),
      length-append (with_reply f k va r) (codes "\n"),
      length-letter k,
      length-hex va,
      length-reply f k va r,
    )
