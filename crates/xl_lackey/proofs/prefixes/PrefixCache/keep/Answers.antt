use Rattle.xl_lackey.proofs.Common.{◌*◌, ◌+◌, ◌/◌, ◌<◌, ◌^◌, ◌∙◌, ◌≡◌, ◌≤◌, ap, arith, hex_value, length, length-append, Some, sym, take, usual_front}
use Rattle.xl_lackey.proofs.OwnFormLemmas.{front_length}
use Rattle.xl_lackey.proofs.PageLemmas.{hex_less, hex_next, line_begins}
use Rattle.xl_lackey.proofs.prefixes.PrefixCache.keep.Goals as goal

pub keep_page-requires-clause-begins : goal.keep_page-requires-clause-begins
keep_page-requires-clause-begins c =
    let text = c.args.text.now in
    let numbers = c.in-Some.numbers.now in
    let l = c.in-Some.front.now.letter in
    let eight = c.in-Some-eight_digits.eight in
    let long : 14 ≤ length numbers = omega (arith, c.requires, ap length c.in-Some.ensures.front, length-append (usual_front l) numbers, front_length l) in
    let value : hex_value 0 (take 5 numbers) ≡ Some (eight / 16 / 16 / 16) =
    hex_less numbers 5 (eight / 16 / 16) (hex_less numbers 6 (eight / 16) (hex_less numbers 7 eight c.in-Some-eight_digits.ensures.value (omega (arith, long))) (omega (arith, long))) (omega (arith, long)) in
    let small : eight < 16 ^ 8 = c.in-Some-eight_digits.ensures.small in
    line_begins 0 text numbers l c.in-Some.front.now.kind (eight / 4096) c.in-Some.ensures.front (omega (arith, long)) (value ∙ ap Some (omega arith))
    (omega (arith, small)) c.in-Some.ensures.kind (sym c.in-Some.ensures.modifies ∙ c.if-front.false)

pub keep_page-requires-then-text-eq44-2-clause-begins : goal.keep_page-requires-then-text-eq44-2-clause-begins
keep_page-requires-then-text-eq44-2-clause-begins c =
    let text = c.args.text.now in
    let numbers = c.in-Some.numbers.now in
    let l = c.in-Some.front.now.letter in
    let eight = c.in-Some-eight_digits.eight in
    let long : 14 ≤ length numbers = omega (arith, c.requires, ap length c.in-Some.ensures.front, length-append (usual_front l) numbers, front_length l) in
    let value : hex_value 0 (take 7 numbers) ≡ Some (eight / 16) = hex_less numbers 7 eight c.in-Some-eight_digits.ensures.value (omega (arith, long)) in
    let small : eight < 16 ^ 8 = c.in-Some-eight_digits.ensures.small in
    line_begins 2 text numbers l c.in-Some.front.now.kind (eight / 16) c.in-Some.ensures.front (omega (arith, long)) value
    (omega (arith, small)) c.in-Some.ensures.kind (sym c.in-Some.ensures.modifies ∙ c.if-front.false)

pub keep_page-requires-then-text-eq44-3-clause-begins : goal.keep_page-requires-then-text-eq44-3-clause-begins
keep_page-requires-then-text-eq44-3-clause-begins c =
    let text = c.args.text.now in
    let numbers = c.in-Some.numbers.now in
    let l = c.in-Some.front.now.letter in
    let eight = c.in-Some-eight_digits.eight in
    let long : 16 ≤ length numbers = omega (arith, c.requires, ap length c.in-Some.ensures.front, length-append (usual_front l) numbers, front_length l) in
    let ninth = c.in-Some-hex_digit.ninth in
    let value : hex_value 0 (take 9 numbers) ≡ Some (eight * 16 + ninth) =
    hex_next numbers 8 eight ninth c.in-Some-eight_digits.ensures.value (omega (arith, long)) (sym c.in-Some-hex_digit.ensures.value) in
    let small : eight < 16 ^ 8 = c.in-Some-eight_digits.ensures.small in
    line_begins 4 text numbers l c.in-Some.front.now.kind (eight * 16 + ninth) c.in-Some.ensures.front (omega (arith, long)) value
    (omega (arith, small, c.in-Some-hex_digit.ensures.bound)) c.in-Some.ensures.kind (sym c.in-Some.ensures.modifies ∙ c.if-front.false)

pub bounds-numbers-8 : goal.bounds-numbers-8
bounds-numbers-8 c =
    let numbers = c.in-Some.numbers.now in
    let l = c.in-Some.front.now.letter in
    omega (arith, c.requires, ap length c.in-Some.ensures.front, length-append (usual_front l) numbers, front_length l)
