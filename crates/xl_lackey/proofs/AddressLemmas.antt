-- Addresses and sizes from the left, one digit at a time.
use Rattle.xl_lackey.proofs.Common.{if◌then◌else◌, ◌&&◌, ◌*◌, ◌++◌, ◌+◌, ◌<◌, ◌==◌, ◌^◌, ◌∙◌, ◌∷◌, ◌≡◌, ◌≤◌, ◌⊎◌, [], address_in, ap, ap₂, arith, before, Bool, cases_lt, drop, false, front, hex_digit, hex_value, in_front, inl, inr, le-ltb, length, length-take-le, List, lt-ltb, nat_le, nat_lt, nat_tests, None, number_in, Option, option_and_then, option_map, parted, refl, same_Some, Some, suc, sym, take, take-append-drop, true, with_rest, zero, ℕ}
use Rattle.std.proofs.Math.Nat.{eq-or-lt_of_le, pow-le-pow_right}
use Rattle.std.specs.Char.{digit_value}
use Rattle.xl_text.proofs.DigitLemmas.{digit_read, no_digit, none_read, number_after}
use Rattle.xl_lackey.proofs.ByteLemmas.{differs}

-- a digit read is a digit of base 16
digit_is : (b : ℕ) → hex_digit b ≡ (if nat_lt (digit_value b) 16 then Some (digit_value b) else None)
digit_is b = grind (arith, nat_tests)

by_digit : (value b : ℕ) (bs : List ℕ) → ((v : ℕ) → hex_value v bs ≡ number_after 16 v bs)
    → (digit_value b < 16) ⊎ (16 ≤ digit_value b)
    → option_and_then (λ d. hex_value (value * 16 + d) bs) (if nat_lt (digit_value b) 16 then Some (digit_value b) else None)
    ≡ number_after 16 value (b ∷ bs)
by_digit value b bs h (inl small) =
    ap (λ (t : Bool). option_and_then (λ d. hex_value (value * 16 + d) bs) (if t then Some (digit_value b) else None)) (lt-ltb _ _ small)
    ∙ h (value * 16 + digit_value b) ∙ sym (digit_read 16 value b bs small)
by_digit value b bs h (inr large) =
    ap (λ (t : Bool). option_and_then (λ d. hex_value (value * 16 + d) bs) (if t then Some (digit_value b) else None)) (le-ltb _ _ large)
    ∙ sym (no_digit 16 value b bs large)

value_is : (value : ℕ) (bs : List ℕ) → hex_value value bs ≡ number_after 16 value bs
value_is value [] = let e : value ≡ value * 16 ^ 0 + 0 = omega arith in ap Some e
value_is value (b ∷ bs) =
    ap (option_and_then (λ d. hex_value (value * 16 + d) bs)) (digit_is b)
    ∙ by_digit value b bs (λ v. value_is v bs) (cases_lt (digit_value b) 16)

-- the number of digits read from the front
pub number_is : (bs : List ℕ) → hex_value 0 bs ≡ number_in 16 bs
number_is bs = value_is 0 bs ∙ none_read 16 bs

-- an address from the left: its value so far, and how many digits it has so far
abbrev pub hex_at : ℕ → ℕ → List ℕ → Option (ℕ × List ℕ)
hex_at value count [] = None
hex_at value count (b ∷ bs) =
    if b == 44 then (if count == 0 then None else Some (value, bs))
    else option_and_then (λ d. if count == 16 then None else hex_at (value * 16 + d) (count + 1) bs) (hex_digit b)

-- the result for the rest of an address and what follows it, where it has n digits so far
abbrev is_length : ℕ → Bool
is_length n = nat_le 1 n && nat_le n 16

abbrev ended : ℕ → ℕ → List ℕ × List ℕ → Option (ℕ × List ℕ)
ended value count parts =
    before parts.1 (if is_length (count + length parts.0) then hex_value value parts.0 else None)

-- at the comma
at_comma : (value count : ℕ) (bs : List ℕ) → count ≤ 16
    → if◌then◌else◌ {A = Option (ℕ × List ℕ)} (count == 0) None (Some (value, bs)) ≡ ended value count ([], bs)
at_comma value zero bs h = refl
at_comma value (suc count) bs h =
    let e : is_length (suc count + length {A = ℕ} []) ≡ true = grind (arith, nat_tests) in
    let u : (suc count == 0) ≡ false = grind (arith, nat_tests) in
    ap (λ (t : Bool). if◌then◌else◌ {A = Option (ℕ × List ℕ)} t None (Some (value, bs))) u
    ∙ sym (ap (λ (t : Bool). before bs (if t then Some value else None)) e)

-- a digit before it, where it is one too many and where it isn't
full : (value count d : ℕ) (ds rest : List ℕ) (on : Option (ℕ × List ℕ)) → count ≡ 16
    → (if count == 16 then None else on)
    ≡ before rest (if is_length (count + suc (length ds)) then hex_value (value * 16 + d) ds else None)
full value count d ds rest on e =
    let t : is_length (count + suc (length ds)) ≡ false = grind (arith, nat_tests) in
    let u : (count == 16) ≡ true = grind (arith, nat_tests) in
    ap (λ (b : Bool). if b then None else on) u
    ∙ sym (ap (λ (b : Bool). before rest (if b then hex_value (value * 16 + d) ds else None)) t)

not_full : (value count d : ℕ) (ds rest : List ℕ) (on : Option (ℕ × List ℕ))
    → (count + 1 ≤ 16 → on ≡ ended (value * 16 + d) (count + 1) (ds, rest)) → count < 16
    → (if count == 16 then None else on)
    ≡ before rest (if is_length (count + suc (length ds)) then hex_value (value * 16 + d) ds else None)
not_full value count d ds rest on h l =
    let u : (count == 16) ≡ false = grind (arith, nat_tests) in
    let e : count + 1 + length ds ≡ count + suc (length ds) = omega arith in
    ap (λ (b : Bool). if b then None else on) u ∙ h (omega arith)
    ∙ ap (λ (n : ℕ). before rest (if is_length n then hex_value (value * 16 + d) ds else None)) e

at_digit : (value count d : ℕ) (ds rest : List ℕ) (on : Option (ℕ × List ℕ))
    → (count + 1 ≤ 16 → on ≡ ended (value * 16 + d) (count + 1) (ds, rest)) → count ≤ 16
    → (if count == 16 then None else on)
    ≡ before rest (if is_length (count + suc (length ds)) then hex_value (value * 16 + d) ds else None)
at_digit value count d ds rest on h k =
    elim (eq-or-lt_of_le {n = count} {m = 16} k) [ inl e ↦ full value count d ds rest on e | inr l ↦ not_full value count d ds rest on h l ]

none_either : (test : Bool) (rest : List ℕ) → before rest (if test then None else None) ≡ None
none_either true rest = refl
none_either false rest = refl

none_full : (count : ℕ) (on : Option (ℕ × List ℕ)) → count ≡ 16 → (if count == 16 then None else on) ≡ None
none_full count on e =
    let u : (count == 16) ≡ true = grind (arith, nat_tests) in ap (λ (b : Bool). if b then None else on) u

none_more : (count : ℕ) (on : Option (ℕ × List ℕ)) → count < 16 → on ≡ None → (if count == 16 then None else on) ≡ None
none_more count on l e =
    let u : (count == 16) ≡ false = grind (arith, nat_tests) in ap (λ (b : Bool). if b then None else on) u ∙ e

none_on : (count : ℕ) (on : Option (ℕ × List ℕ)) → count ≤ 16 → (count + 1 ≤ 16 → on ≡ None) → (if count == 16 then None else on) ≡ None
none_on count on h k = elim (eq-or-lt_of_le {n = count} {m = 16} h) [ inl e ↦ none_full count on e | inr l ↦ none_more count on l (k (omega arith)) ]

-- at a byte before it
at_byte : (value count b : ℕ) (parts : Option (List ℕ × List ℕ)) (on : ℕ → Option (ℕ × List ℕ)) → count ≤ 16
    → ((d : ℕ) → count + 1 ≤ 16 → on d ≡ option_and_then (ended (value * 16 + d) (count + 1)) parts)
    → option_and_then (λ d. if count == 16 then None else on d) (hex_digit b)
    ≡ option_and_then (ended value count) (option_map (in_front b) parts)
at_byte value count b None on h k =
    elim (hex_digit b) as (λ r. option_and_then (λ d. if count == 16 then None else on d) r ≡ None)
    [ None ↦ refl | Some d ↦ none_on count (on d) h (k d) ]
at_byte value count b (Some parts) on h k =
    elim (hex_digit b) as (λ r. option_and_then (λ d. if count == 16 then None else on d) r
    ≡ before parts.1 (if is_length (count + suc (length parts.0)) then option_and_then (λ d. hex_value (value * 16 + d) parts.0) r else None)) [
      | None ↦ sym (none_either (is_length (count + suc (length parts.0))) parts.1)
      | Some d ↦ at_digit value count d parts.0 parts.1 (on d) (k d) h
    ]

pub hex_at_is : (bs : List ℕ) (value count : ℕ) → count ≤ 16 → hex_at value count bs ≡ option_and_then (ended value count) (parted 44 bs)
hex_at_is [] value count h = refl
hex_at_is (b ∷ bs) value count h =
    let step = at_byte value count b (parted 44 bs) (λ d. hex_at (value * 16 + d) (count + 1) bs) h
    (λ d k. hex_at_is bs (value * 16 + d) (count + 1) k) in
    elim (b == 44) as (λ t.
    (if t then (if count == 0 then None else Some (value, bs))
    else option_and_then (λ d. if count == 16 then None else hex_at (value * 16 + d) (count + 1) bs) (hex_digit b))
    ≡ option_and_then (ended value count) (if t then Some ([], bs) else option_map (in_front b) (parted 44 bs)))
    [ true ↦ at_comma value count bs h | false ↦ step ]

with_rest_is : (parts : Option (List ℕ × List ℕ)) → option_and_then (ended 0 0) parts ≡ option_and_then with_rest parts
with_rest_is None = refl
with_rest_is (Some parts) =
    let e : 0 + length parts.0 ≡ length parts.0 = omega arith in
    ap (λ (n : ℕ). before parts.1 (if is_length n then hex_value 0 parts.0 else None)) e
    ∙ ap (λ (v : Option ℕ). before parts.1 (if is_length (length parts.0) then v else None)) (number_is parts.0)

pub whole_address : (text : List ℕ) → hex_at 0 0 text ≡ address_in text
whole_address text = hex_at_is text 0 0 (omega arith) ∙ with_rest_is (parted 44 text)

pub digit_and_rest : (o : Option ℕ) (on : ℕ → Option ℕ) (v : ℕ) → option_and_then on o ≡ Some v → (d : ℕ) × (o ≡ Some d) × (on d ≡ Some v)
digit_and_rest None on v h = cc
digit_and_rest (Some d) on v h = (d, refl, h)

-- one digit more at the right
pub hex_more : (value v : ℕ) (bs : List ℕ) (b d : ℕ) → hex_value value bs ≡ Some v → hex_digit b ≡ Some d → hex_value value (bs ++ b ∷ []) ≡ Some (v * 16 + d)
hex_more value v [] b d h e =
    ap (option_and_then (λ k. Some (value * 16 + k))) e ∙ ap (λ (n : ℕ). Some (n * 16 + d)) (same_Some value v h)
hex_more value v (c ∷ cs) b d h e =
    let parts = digit_and_rest (hex_digit c) (λ k. hex_value (value * 16 + k) cs) v h in
    ap (option_and_then (λ k. hex_value (value * 16 + k) (cs ++ b ∷ []))) parts.1 ∙ hex_more (value * 16 + parts.0) v cs b d parts.2 e

-- an address continues after its first digits
pub hex_front : (value v count : ℕ) (bs rest : List ℕ) → hex_value value bs ≡ Some v → count + length bs ≤ 16
    → hex_at value count (bs ++ rest) ≡ hex_at v (count + length bs) rest
hex_front value v count [] rest h few =
    let z : count ≡ count + 0 = omega arith in ap₂ (λ (n m : ℕ). hex_at n m rest) (same_Some value v h) z
hex_front value v count (b ∷ bs) rest h few =
    let parts = digit_and_rest (hex_digit b) (λ d. hex_value (value * 16 + d) bs) v h in
    let other : (b == 44) ≡ false = differs hex_digit b 44 (Some parts.0) None parts.1 refl (λ e. cc) in
    let less : (count == 16) ≡ false = grind (arith, nat_tests) in
    let s : count + 1 + length bs ≡ count + suc (length bs) = omega arith in
    ap (λ (t : Bool). if t then (if count == 0 then None else Some (value, bs ++ rest))
    else option_and_then (λ d. if count == 16 then None else hex_at (value * 16 + d) (count + 1) (bs ++ rest)) (hex_digit b)) other
    ∙ ap (option_and_then (λ d. if count == 16 then None else hex_at (value * 16 + d) (count + 1) (bs ++ rest))) parts.1
    ∙ ap (λ (t : Bool). if t then None else hex_at (value * 16 + parts.0) (count + 1) (bs ++ rest)) less
    ∙ hex_front (value * 16 + parts.0) v (count + 1) bs rest parts.2 (omega arith) ∙ ap (λ (n : ℕ). hex_at v n rest) s

pub after_first : (text : List ℕ) (v count : ℕ) → hex_value 0 (take count text) ≡ Some v → count ≤ length text → count ≤ 16
    → hex_at v count (drop count text) ≡ address_in text
after_first text v count h within few =
    let size : length (take count text) ≡ count = length-take-le count text within in
    let n : 0 + length (take count text) ≡ count = omega (arith, size) in
    sym (ap (λ (k : ℕ). hex_at v k (drop count text)) n) ∙ sym (hex_front 0 v 0 (take count text) (drop count text) h (omega (arith, size)))
    ∙ ap (hex_at 0 0) (take-append-drop count text) ∙ whole_address text

pub hex_small : (count value : ℕ) → count ≤ 15 → value < 16 ^ count → value < 2 ^ 60
hex_small count value h k = omega (arith, pow-le-pow_right {n = 16} (omega arith) {i = count} {j = 15} h)

pub decimal_small : (count value : ℕ) → count ≤ 6 → value < 10 ^ count → value < 1000001
decimal_small count value h k = omega (arith, pow-le-pow_right {n = 10} (omega arith) {i = count} {j = 6} h)

pub length_front : (test : ℕ → Bool) (bs : List ℕ) → length (front test bs) ≤ length bs
length_front test [] = omega arith
length_front test (b ∷ bs) =
    elim (test b) as (λ t. length (if t then b ∷ front test bs else []) ≤ suc (length bs))
    [ true ↦ omega (arith, length_front test bs) | false ↦ omega arith ]
