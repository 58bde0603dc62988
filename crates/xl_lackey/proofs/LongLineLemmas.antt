-- A line that no newline ends yet, and how much of it decides what it is.
use Rattle.xl_lackey.proofs.Common.{if◌then◌else◌, ◌++◌, ◌-◌, ◌<◌, ◌==◌, ◌∙◌, ◌∷◌, ◌≡◌, [], after, ap, arith, Bad, Bool, cases_lt, ended_lines, false, in_first, in_front, inl, inr, is_blank, is_remark, judge, length, length-append, length-take-le, lines_by, lines_of, List, nat_lt, nat_tests, next_line, None, of_text, of_words, Option, option_map, parted, records, refl, Skipped, slice_index, Some, suc, sym, take, take_all, true, Verdict, with_verdict, zero, ℕ}

-- a line without a newline, at the front of other lines
abbrev joined : Bool → List ℕ → List (List ℕ) → List (List ℕ)
joined last l (k ∷ ks) = (l ++ k) ∷ ks
joined true l [] = l ∷ []
joined false l [] = []

by_test : (t : Bool) (parts : Option (List ℕ × List ℕ)) (b : ℕ) (bs : List ℕ) → (if t then Some ([], bs) else option_map (in_front b) parts) ≡ None
    → (t ≡ false) × (parts ≡ None)
by_test true parts b bs h = cc
by_test false None b bs h = (refl, refl)
by_test false (Some p) b bs h = cc

no_newline : (b : ℕ) (bs : List ℕ) → parted 10 (b ∷ bs) ≡ None → ((b == 10) ≡ false) × (parted 10 bs ≡ None)
no_newline b bs h = by_test (b == 10) (parted 10 bs) b bs h

one_byte : (last : Bool) (b : ℕ) (ls : List (List ℕ)) → in_first last b ls ≡ joined last (b ∷ []) ls
one_byte true b [] = refl
one_byte false b [] = refl
one_byte last b (k ∷ ks) = refl

more_bytes : (last : Bool) (b : ℕ) (l : List ℕ) (ls : List (List ℕ)) → in_first last b (joined last l ls) ≡ joined last (b ∷ l) ls
more_bytes true b l [] = refl
more_bytes false b l [] = refl
more_bytes last b l (k ∷ ks) = refl

lines_joined : (last : Bool) (l rest : List ℕ) → parted 10 l ≡ None → 0 < length l → lines_by last (l ++ rest) ≡ joined last l (lines_by last rest)
lines_joined last [] rest h k = absurd (omega arith)
lines_joined last (b ∷ []) rest h k =
    let no = no_newline b [] h in
    ap (λ (t : Bool). if t then ([] ∷ lines_by last rest) else in_first last b (lines_by last rest)) no.0 ∙ one_byte last b (lines_by last rest)
lines_joined last (b ∷ c ∷ l) rest h k =
    let no = no_newline b (c ∷ l) h in
    ap (λ (t : Bool). if t then ([] ∷ lines_by last ((c ∷ l) ++ rest)) else in_first last b (lines_by last ((c ∷ l) ++ rest))) no.0
    ∙ ap (in_first last b) (lines_joined last (c ∷ l) rest no.1 (omega arith)) ∙ more_bytes last b (c ∷ l) (lines_by last rest)

-- the last line, where no newline ends it
pub last_line : (l : List ℕ) → parted 10 l ≡ None → 0 < length l → lines_of (l ++ []) ≡ l ∷ []
last_line l h k = lines_joined true l [] h k

-- where such a line doesn't count, there is none
pub none_ended : (l : List ℕ) → parted 10 l ≡ None → ended_lines (l ++ []) ≡ []
none_ended [] h = refl
none_ended (b ∷ bs) h = lines_joined false (b ∷ bs) [] h (omega arith)

-- a line of more than 257 bytes is judged by its first three
known_by : ℕ → ℕ → ℕ → Verdict
known_by a b c = if is_remark (a ∷ b ∷ c ∷ []) then Skipped else Bad 6

long_text : (a b c : ℕ) (ys : List ℕ) → 253 < length ys → of_text (a ∷ b ∷ c ∷ ys) ≡ known_by a b c
unfolding known_by
long_text a b c ys h =
    let e : nat_lt 256 (length (a ∷ b ∷ c ∷ ys)) ≡ true = grind (arith, nat_tests) in
    ap (λ (t : Bool). if is_remark (a ∷ b ∷ c ∷ []) then Skipped else if t then Bad 6 else of_words (after is_blank (a ∷ b ∷ c ∷ ys))) e

cut_long : (a b c : ℕ) (xs : List ℕ) → 254 < length xs → of_text (take (length (a ∷ b ∷ c ∷ xs) - 1) (a ∷ b ∷ c ∷ xs)) ≡ known_by a b c
cut_long a b c xs h =
    let e : length (a ∷ b ∷ c ∷ xs) - 1 ≡ suc (suc (suc (length xs - 1))) = omega arith in
    let k : 253 < length (take (length xs - 1) xs) = omega (arith, length-take-le (length xs - 1) xs (omega arith)) in
    rw e (long_text a b c (take (length xs - 1) xs) k)

judge_long : (a b c : ℕ) (xs : List ℕ) → 254 < length xs → judge (a ∷ b ∷ c ∷ xs) ≡ known_by a b c
unfolding judge
judge_long a b c xs h =
    elim (slice_index (a ∷ b ∷ c ∷ xs) (length (a ∷ b ∷ c ∷ xs) - 1) == 13) as (λ t. of_text (if t then take (length (a ∷ b ∷ c ∷ xs) - 1) (a ∷ b ∷ c ∷ xs) else (a ∷ b ∷ c ∷ xs)) ≡ known_by a b c)
    [ true ↦ cut_long a b c xs h | false ↦ long_text a b c xs (omega arith) ]

-- so all but its first bytes can be dropped
records_joined : (last : Bool) (n a b c : ℕ) (xs ys : List ℕ) (ls : List (List ℕ)) → 254 < length xs → 254 < length ys
    → records n (joined last (a ∷ b ∷ c ∷ xs) ls) ≡ records n (joined last (a ∷ b ∷ c ∷ ys) ls)
records_joined true n a b c xs ys [] h k =
    ap (λ (v : Verdict). with_verdict (next_line n) v ([], None)) (judge_long a b c xs h ∙ sym (judge_long a b c ys k))
records_joined false n a b c xs ys [] h k = refl
records_joined last n a b c xs ys (l ∷ ls) h k =
    ap (λ (v : Verdict). with_verdict (next_line n) v (records (next_line n) ls))
    (judge_long a b c (xs ++ l) (omega (arith, length-append xs l)) ∙ sym (judge_long a b c (ys ++ l) (omega (arith, length-append ys l))))

pub parted_take : (n : ℕ) (l : List ℕ) → parted 10 l ≡ None → parted 10 (take n l) ≡ None
parted_take zero l h = refl
parted_take (suc n) [] h = refl
parted_take (suc n) (b ∷ bs) h =
    let no = no_newline b bs h in
    ap (λ (t : Bool). if t then Some ([], take n bs) else option_map (in_front b) (parted 10 (take n bs))) no.0
    ∙ ap (option_map (in_front b)) (parted_take n bs no.1)

let_long_go : (last : Bool) (n : ℕ) (held rest : List ℕ) → parted 10 held ≡ None → 258 < length held
    → records n (lines_by last (take 258 held ++ rest)) ≡ records n (lines_by last (held ++ rest))
let_long_go last n [] rest h l = absurd (omega arith)
let_long_go last n (a ∷ []) rest h l = absurd (omega arith)
let_long_go last n (a ∷ b ∷ []) rest h l = absurd (omega arith)
let_long_go last n (a ∷ b ∷ c ∷ xs) rest h l =
    let size : length (take 255 xs) ≡ 255 = length-take-le 255 xs (omega arith) in
    ap (records n) (lines_joined last (take 258 (a ∷ b ∷ c ∷ xs)) rest (parted_take 258 (a ∷ b ∷ c ∷ xs) h) (omega arith))
    ∙ records_joined last n a b c (take 255 xs) xs (lines_by last rest) (omega arith) (omega arith)
    ∙ sym (ap (records n) (lines_joined last (a ∷ b ∷ c ∷ xs) rest h (omega arith)))

pub let_go : (last : Bool) (n : ℕ) (held rest : List ℕ) → parted 10 held ≡ None
    → records n (lines_by last (take 258 held ++ rest)) ≡ records n (lines_by last (held ++ rest))
let_go last n held rest h =
    elim (cases_lt 258 (length held)) [
      | inl l ↦ let_long_go last n held rest h l
      | inr l ↦ ap (λ (kept : List ℕ). records n (lines_by last (kept ++ rest))) (take_all 258 held l)
    ]
