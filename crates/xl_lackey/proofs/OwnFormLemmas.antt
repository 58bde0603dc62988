-- A line in Lackey's own form is the first of its text, and is the record that its parts give.
use Rattle.xl_lackey.proofs.Common.{if◌then◌else◌, ◌&&◌, ◌*◌, ◌++◌, ◌+◌, ◌-◌, ◌<◌, ◌==◌, ◌∙◌, ◌∷◌, ◌≡◌, ◌≤◌, [], address_in, address_of, after, ap, append_assoc, ap₂, arith, Bad, before, Bool, decimal_value, drop, drop-append-add, drop-drop, drop-length, drop_more, eqb_tells, false, fits, Found, front, hex_digit, hex_value, in_front, inl, inr, is_blank, is_digit, is_size, judge, judged, judged_line, length, length-append, Letter, List, nat_le, nat_lt, nat_tests, None, number_in, of_address, of_end, of_size, of_text, Option, option_and_then, option_map, parted, refl, same_Some, size_in, slice_index, Some, subst, suc, sym, take, true, usual_front, Verdict, with_rest, without_return, zero, ℕ}
use Rattle.xl_lackey.proofs.AddressLemmas.{digit_and_rest, number_is}
use Rattle.xl_lackey.proofs.ByteLemmas.{differs}
use Rattle.xl_lackey.specs.declared.reference.Letter.TheVariants as letter

-- no byte of a list is this one
abbrev avoids : ℕ → List ℕ → Bool
avoids k [] = true
avoids k (b ∷ bs) = if b == k then false else avoids k bs

avoids_both : (k : ℕ) (xs ys : List ℕ) → avoids k xs ≡ true → avoids k ys ≡ true → avoids k (xs ++ ys) ≡ true
avoids_both k [] ys h g = g
avoids_both k (x ∷ xs) ys h g =
    elim (x == k) as (λ t. (if t then false else avoids k xs) ≡ true → (if t then false else avoids k (xs ++ ys)) ≡ true)
    [ true ↦ λ e. e | false ↦ λ e. avoids_both k xs ys e g ] h

parted_over : (k : ℕ) (xs ys : List ℕ) → avoids k xs ≡ true → parted k (xs ++ k ∷ ys) ≡ Some (xs, ys)
parted_over k [] ys h =
    let e : (k == k) ≡ true = grind (arith, nat_tests) in
    ap (λ (t : Bool). if t then Some ([], ys) else option_map (in_front k) (parted k ys)) e
parted_over k (x ∷ xs) ys h =
    elim (x == k) as (λ t. (if t then false else avoids k xs) ≡ true
    → (if t then Some ([], xs ++ k ∷ ys) else option_map (in_front x) (parted k (xs ++ k ∷ ys))) ≡ Some (x ∷ xs, ys))
    [ true ↦ λ e. cc | false ↦ λ e. ap (option_map (in_front x)) (parted_over k xs ys e) ] h

skips : (k b : ℕ) (bs : List ℕ) → (b == k) ≡ false → avoids k (b ∷ bs) ≡ avoids k bs
skips k b bs h = ap (λ (t : Bool). if t then false else avoids k bs) h

hex_avoids : (k : ℕ) → hex_digit k ≡ None → (value : ℕ) (bs : List ℕ) (v : ℕ) → hex_value value bs ≡ Some v → avoids k bs ≡ true
hex_avoids k none value [] v h = refl
hex_avoids k none value (b ∷ bs) v h =
    let parts = digit_and_rest (hex_digit b) (λ d. hex_value (value * 16 + d) bs) v h in
    skips k b bs (differs hex_digit b k (Some parts.0) None parts.1 none (λ e. cc)) ∙ hex_avoids k none (value * 16 + parts.0) bs v parts.2

digits_avoid : (k : ℕ) → is_digit k ≡ false → (bs : List ℕ) → avoids k (front is_digit bs) ≡ true
digits_avoid k other [] = refl
digits_avoid k other (b ∷ bs) =
    elim (is_digit b) as (λ t. is_digit b ≡ t → avoids k (if t then b ∷ front is_digit bs else []) ≡ true)
    [ true ↦ λ e. skips k b (front is_digit bs) (differs is_digit b k true false e other (λ f. cc)) ∙ digits_avoid k other bs | false ↦ λ e. refl ] refl

-- no carriage return is cut off
no_return : (xs : List ℕ) (i : ℕ) → avoids 13 xs ≡ true → (slice_index xs i == 13) ≡ false
no_return [] i h = refl
no_return (x ∷ xs) zero h =
    elim (x == 13) as (λ t. (if t then false else avoids 13 xs) ≡ true → t ≡ false) [ true ↦ λ e. cc | false ↦ λ e. refl ] h
no_return (x ∷ xs) (suc i) h =
    elim (x == 13) as (λ t. (if t then false else avoids 13 xs) ≡ true → (slice_index xs i == 13) ≡ false)
    [ true ↦ λ e. cc | false ↦ λ e. no_return xs i e ] h

front_again : (test : ℕ → Bool) (bs : List ℕ) → front test (front test bs) ≡ front test bs
front_again test [] = refl
front_again test (b ∷ bs) =
    elim (test b) as (λ t. test b ≡ t → front test (if t then b ∷ front test bs else []) ≡ (if t then b ∷ front test bs else []))
    [ true ↦ λ e. ap (λ (t : Bool). if t then b ∷ front test (front test bs) else []) e ∙ ap (λ (xs : List ℕ). b ∷ xs) (front_again test bs) | false ↦ λ e. refl ] refl

front_and_rest : (test : ℕ → Bool) (bs : List ℕ) → bs ≡ front test bs ++ drop (length (front test bs)) bs
front_and_rest test [] = refl
front_and_rest test (b ∷ bs) =
    elim (test b) as (λ t. b ∷ bs ≡ (if t then b ∷ front test bs else []) ++ drop (length (if t then b ∷ front test bs else [])) (b ∷ bs))
    [ true ↦ ap (λ (xs : List ℕ). b ∷ xs) (front_and_rest test bs) | false ↦ refl ]

-- what is around the first byte of a kind
abbrev is_around : ℕ → List ℕ → Option (List ℕ × List ℕ) → Type 0
is_around k text None = Unit {0}
is_around k text (Some parts) = text ≡ parts.0 ++ k ∷ parts.1

around_more : (k b : ℕ) (bs : List ℕ) (o : Option (List ℕ × List ℕ)) → is_around k bs o → is_around k (b ∷ bs) (option_map (in_front b) o)
around_more k b bs None h = tt
around_more k b bs (Some parts) h = ap (λ (xs : List ℕ). b ∷ xs) h

around_of : (k : ℕ) (text : List ℕ) → is_around k text (parted k text)
around_of k [] = tt
around_of k (b ∷ bs) =
    let more = around_more k b bs (parted k bs) (around_of k bs) in
    let P : Bool → Type 0 = λ t. is_around k (b ∷ bs) (if t then Some ([], bs) else option_map (in_front b) (parted k bs)) in
    elim (eqb_tells b k) [
      | inl p ↦ subst P (sym p.0) (ap (λ (n : ℕ). n ∷ bs) p.1)
      | inr p ↦ subst P (sym p.0) more
    ]

around : (k : ℕ) (text xs ys : List ℕ) → parted k text ≡ Some (xs, ys) → text ≡ xs ++ k ∷ ys
around k text xs ys h = let P : Option (List ℕ × List ℕ) → Type 0 = λ o. is_around k text o in subst P h (around_of k text)

checked : {A : Type 0} (t : Bool) (o : Option A) (v : A) → (if t then o else None) ≡ Some v → (t ≡ true) × (o ≡ Some v)
checked true o v h = (refl, h)
checked false o v h = cc

-- the digits of an address, and what follows its comma
pub record IsAddress (text digits rest : List ℕ) (addr : ℕ) : Type 0 where
  pub whole : text ≡ digits ++ 44 ∷ rest
  pub some : 1 ≤ length digits
  pub few : length digits ≤ 16
  pub value : hex_value 0 digits ≡ Some addr
  pub is_address : address_of digits ≡ Some addr

within_16 : (n : ℕ) → (nat_le 1 n && nat_le n 16) ≡ true → (1 ≤ n) × (n ≤ 16)
within_16 n h = (grind (arith, nat_tests), grind (arith, nat_tests))

address_by : (text digits later rest : List ℕ) (addr : ℕ) (o : Option ℕ) → parted 44 text ≡ Some (digits, later) → address_of digits ≡ o
    → before later o ≡ Some (addr, rest) → IsAddress text digits rest addr
address_by text digits later rest addr None h g e = cc
address_by text digits later rest addr (Some a) h g e =
    let both : (a, later) ≡ (addr, rest) = same_Some (a, later) (addr, rest) e in
    let value : a ≡ addr = ap (λ (p : ℕ × List ℕ). p.0) both in
    let same : later ≡ rest = ap (λ (p : ℕ × List ℕ). p.1) both in
    let is : address_of digits ≡ Some addr = g ∙ ap Some value in
    let parts = checked (nat_le 1 (length digits) && nat_le (length digits) 16) (number_in 16 digits) addr is in
    let few = within_16 (length digits) parts.0 in record {
      whole = around 44 text digits later h ∙ ap (λ (xs : List ℕ). digits ++ 44 ∷ xs) same;
      some = few.0;
      few = few.1;
      value = number_is digits ∙ parts.1;
      is_address = is;
    }

address_parts : (text rest : List ℕ) (addr : ℕ) (o : Option (List ℕ × List ℕ)) → parted 44 text ≡ o → option_and_then with_rest o ≡ Some (addr, rest)
    → (digits : List ℕ) × IsAddress text digits rest addr
address_parts text rest addr None h e = cc
address_parts text rest addr (Some parts) h e = (parts.0, address_by text parts.0 parts.1 rest addr (address_of parts.0) h refl e)

not_blank : (digits rest : List ℕ) (addr : ℕ) → 1 ≤ length digits → hex_value 0 digits ≡ Some addr → after is_blank (digits ++ rest) ≡ digits ++ rest
not_blank [] rest addr h e = absurd (omega arith)
not_blank (b ∷ bs) rest addr h e =
    let parts = digit_and_rest (hex_digit b) (λ d. hex_value (0 * 16 + d) bs) addr e in
    let other : is_blank b ≡ false =
    rw (differs hex_digit b 32 (Some parts.0) None parts.1 refl (λ f. cc), differs hex_digit b 9 (Some parts.0) None parts.1 refl (λ f. cc)) refl in
    ap (λ (t : Bool). if t then after is_blank (bs ++ rest) else (b ∷ bs) ++ rest) other

front_avoids : (l : Letter) → (avoids 10 (usual_front l) ≡ true) × (avoids 13 (usual_front l) ≡ true)
front_avoids letter.I = (refl, refl)
front_avoids letter.L = (refl, refl)
front_avoids letter.S = (refl, refl)
front_avoids letter.M = (refl, refl)

-- a text that begins as Lackey writes it continues with its address
begun : (l : Letter) (text : List ℕ) → of_text (usual_front l ++ text)
    ≡ (if nat_lt 256 (length (usual_front l ++ text)) then Bad 6 else of_address l (address_in (after is_blank text)))
begun letter.I text = refl
begun letter.L text = refl
begun letter.S text = refl
begun letter.M text = refl

pub front_length : (l : Letter) → length (usual_front l) ≡ 3
front_length letter.I = refl
front_length letter.L = refl
front_length letter.S = refl
front_length letter.M = refl

of_front : (l : Letter) (text : List ℕ) → length text ≤ 253 → after is_blank text ≡ text → of_text (usual_front l ++ text) ≡ of_address l (address_in text)
of_front l text h e =
    let size : length (usual_front l ++ text) ≤ 256 = omega (arith, length-append (usual_front l) text, front_length l) in
    let few : nat_lt 256 (length (usual_front l ++ text)) ≡ false = grind (arith, nat_tests) in
    begun l text ∙ ap (λ (t : Bool). if t then Bad 6 else of_address l (address_in (after is_blank text))) few
    ∙ ap (λ (xs : List ℕ). of_address l (address_in xs)) e

abbrev sized : List ℕ → Option (ℕ × ℕ)
sized digits = if is_size digits then Some (decimal_value 0 digits, length digits) else None

-- the whole line, from its parts
line_is : (l : Letter) (digits size_digits : List ℕ) (addr size : ℕ) → 1 ≤ length digits → length digits ≤ 16 → hex_value 0 digits ≡ Some addr
    → address_of digits ≡ Some addr → length size_digits ≤ 6 → avoids 13 size_digits ≡ true → size_in size_digits ≡ Some (size, length size_digits)
    → fits addr size ≡ true → judge (usual_front l ++ (digits ++ 44 ∷ size_digits)) ≡ Found l addr size
unfolding judge
line_is l digits sd addr size some few value address few_sizes plain sizes within =
    let line = usual_front l ++ (digits ++ 44 ∷ sd) in
    let clean : avoids 13 line ≡ true =
    avoids_both 13 (usual_front l) (digits ++ 44 ∷ sd) (front_avoids l).1 (avoids_both 13 digits (44 ∷ sd) (hex_avoids 13 refl 0 digits addr value) plain) in
    let whole : without_return line ≡ line =
    ap (λ (t : Bool). if t then take (length line - 1) line else line) (no_return line (length line - 1) clean) in
    let size_of : length (digits ++ 44 ∷ sd) ≤ 253 = omega (arith, length-append digits (44 ∷ sd)) in
    let apart : parted 44 (digits ++ 44 ∷ sd) ≡ Some (digits, sd) = parted_over 44 digits sd (hex_avoids 44 refl 0 digits addr value) in
    let read : address_in (digits ++ 44 ∷ sd) ≡ Some (addr, sd) = ap (option_and_then with_rest) apart ∙ ap (before sd) address in
    ap of_text whole ∙ of_front l (digits ++ 44 ∷ sd) size_of (not_blank digits (44 ∷ sd) addr some value)
    ∙ ap (of_address l) read ∙ ap (of_size l addr sd) sizes
    ∙ ap (λ (xs : List ℕ). of_end l addr size (after is_blank xs)) (drop-length sd)
    ∙ ap (λ (t : Bool). if t then Found l addr size else Bad 5) within

own_parts : (l : Letter) (text digits u rest : List ℕ) (addr size n : ℕ) → IsAddress text digits u addr → size_in u ≡ Some (size, n)
    → drop n u ≡ 10 ∷ rest → fits addr size ≡ true → judged_line (usual_front l ++ text) ≡ Some (rest, Found l addr size)
own_parts l text digits u rest addr size n is sizes newline within =
    let sd = front is_digit u in
    let read = checked (is_size sd) (Some (decimal_value 0 sd, length sd)) (size, n) sizes in
    let count : length sd ≡ n = ap (λ (p : ℕ × ℕ). p.1) (same_Some (decimal_value 0 sd, length sd) (size, n) read.1) in
    let few : length sd ≤ 6 = grind (arith, nat_tests, read.0) in
    let again : size_in sd ≡ Some (size, length sd) =
    ap sized (front_again is_digit u) ∙ sizes ∙ ap (λ (k : ℕ). Some (size, k)) (sym count) in
    let tail : drop (length sd) u ≡ 10 ∷ rest = ap (λ (k : ℕ). drop k u) count ∙ newline in
    let u_is : u ≡ sd ++ 10 ∷ rest = front_and_rest is_digit u ∙ ap (λ (xs : List ℕ). sd ++ xs) tail in
    let line = usual_front l ++ (digits ++ 44 ∷ sd) in
    let text_is : usual_front l ++ text ≡ line ++ 10 ∷ rest =
    ap (λ (xs : List ℕ). usual_front l ++ xs) (is.whole ∙ ap (λ (xs : List ℕ). digits ++ 44 ∷ xs) u_is ∙ sym (append_assoc digits (44 ∷ sd) (10 ∷ rest)))
    ∙ sym (append_assoc (usual_front l) (digits ++ 44 ∷ sd) (10 ∷ rest)) in
    let clean : avoids 10 line ≡ true =
    avoids_both 10 (usual_front l) (digits ++ 44 ∷ sd) (front_avoids l).0
    (avoids_both 10 digits (44 ∷ sd) (hex_avoids 10 refl 0 digits addr is.value) (digits_avoid 10 refl u)) in
    ap judged_line text_is ∙ ap (option_map judged) (parted_over 10 line rest clean)
    ∙ ap (λ (v : Verdict). Some (rest, v)) (line_is l digits sd addr size is.some is.few is.value is.is_address few (digits_avoid 13 refl u) again within)

pub own_line : (l : Letter) (text u rest : List ℕ) (addr size n : ℕ) → address_in text ≡ Some (addr, u) → size_in u ≡ Some (size, n)
    → drop n u ≡ 10 ∷ rest → fits addr size ≡ true → judged_line (usual_front l ++ text) ≡ Some (rest, Found l addr size)
own_line l text u rest addr size n h sizes newline within =
    let parts = address_parts text u addr (parted 44 text) refl h in
    own_parts l text parts.0 u rest addr size n parts.1 sizes newline within

after_front : (l : Letter) (text : List ℕ) (n : ℕ) → drop (3 + n) (usual_front l ++ text) ≡ drop n text
after_front l text n = ap (λ (k : ℕ). drop (k + n) (usual_front l ++ text)) (sym (front_length l)) ∙ drop-append-add (usual_front l) text n

-- the line by the places of its parts
pub own_at : (l : Letter) (text numbers u : List ℕ) (addr comma size digits : ℕ) → text ≡ usual_front l ++ numbers → u ≡ drop (comma + 1) numbers
    → Some (addr, drop (comma + 1) numbers) ≡ address_in numbers → Some (size, digits) ≡ size_in u → digits < length u → slice_index u digits ≡ 10
    → fits addr size ≡ true → judged_line text ≡ Some (drop (comma + digits + 5) text, Found l addr size)
own_at l text numbers u addr comma size digits h e address sizes within newline fit =
    let next : drop digits u ≡ 10 ∷ drop (digits + 1) u = drop_more u digits 0 within ∙ ap (λ (b : ℕ). b ∷ drop (digits + 1) u) newline in
    let tail : drop (digits + 1) u ≡ drop (comma + digits + 5) text =
    ap (drop (digits + 1)) e ∙ drop-drop (digits + 1) (comma + 1) numbers ∙ ap (λ (n : ℕ). drop n numbers) (omega arith)
    ∙ sym (after_front l numbers (comma + digits + 2)) ∙ ap₂ (λ (n : ℕ) (xs : List ℕ). drop n xs) (omega arith) (sym h) in
    let address_is : address_in numbers ≡ Some (addr, u) = sym address ∙ ap (λ (xs : List ℕ). Some (addr, xs)) (sym e) in
    ap judged_line h ∙ own_line l numbers u (drop (digits + 1) u) addr size digits address_is (sym sizes) next fit
    ∙ ap (λ (xs : List ℕ). Some (xs, Found l addr size)) tail
