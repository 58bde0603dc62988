-- A text and the first line that a newline ends in it.
use Rattle.xl_lackey.proofs.Common.{if◌then◌else◌, ◌++◌, ◌+◌, ◌<◌, ◌==◌, ◌∙◌, ◌∷◌, ◌≡◌, ◌≢◌, [], ap, append-nil, arith, Bad, Bool, drop, drop-drop, ended_lines, false, first_due, Found, in_first, in_front, judge, judged, judged_line, Left, length, lines_by, List, next_line, None, of_due, Option, option_map, parted, records, refl, same_Some, Skipped, slice_index, Some, subst, suc, sym, take, true, Verdict, with_verdict, zero, ℕ}
use Rattle.memchr.specs.Find.{is_byte, IsFirstByte}
use Rattle.xl_lackey.proofs.LongLineLemmas.{none_ended}

-- the first line that a newline ends, and what follows it, put into a text's lines
abbrev starts : Bool → Option (List ℕ × List ℕ) → List ℕ → List (List ℕ) → Type 0
starts last None rest lines = Unit {0}
starts last (Some parts) rest lines = lines ≡ parts.0 ∷ lines_by last (parts.1 ++ rest)

by_part : (last : Bool) (b : ℕ) (parts : Option (List ℕ × List ℕ)) (rest : List ℕ) (lines : List (List ℕ)) → starts last parts rest lines
    → starts last (option_map (in_front b) parts) rest (in_first last b lines)
by_part last b None rest lines h = tt
by_part last b (Some parts) rest lines h = ap (in_first last b) h

lines_from : (last : Bool) (text rest : List ℕ) → starts last (parted 10 text) rest (lines_by last (text ++ rest))
lines_from last [] rest = tt
lines_from last (b ∷ bs) rest =
    elim (b == 10) as (λ t. starts last (if t then Some ([], bs) else option_map (in_front b) (parted 10 bs)) rest
    (if t then ([] ∷ lines_by last (bs ++ rest)) else in_first last b (lines_by last (bs ++ rest))))
    [ true ↦ refl | false ↦ by_part last b (parted 10 bs) rest (lines_by last (bs ++ rest)) (lines_from last bs rest) ]

-- the first line of a text that a newline ends, and what is left after it
pub lines_first : (last : Bool) (text rest line after : List ℕ) → parted 10 text ≡ Some (line, after)
    → lines_by last (text ++ rest) ≡ line ∷ lines_by last (after ++ rest)
lines_first last text rest line after h =
    let P : Option (List ℕ × List ℕ) → Type 0 = λ parts. starts last parts rest (lines_by last (text ++ rest)) in subst P h (lines_from last text rest)

ended_first : (text line after : List ℕ) → parted 10 text ≡ Some (line, after) → ended_lines text ≡ line ∷ ended_lines after
ended_first text line after h =
    let all = λ (bs : List ℕ). append-nil bs in
    sym (ap ended_lines (all text)) ∙ lines_first false text [] line after h ∙ ap (λ (bs : List ℕ). line ∷ ended_lines bs) (all after)

pub ended_none : (text : List ℕ) → parted 10 text ≡ None → ended_lines text ≡ []
ended_none text h = sym (ap ended_lines (append-nil text)) ∙ none_ended text h

-- one step of the reading, by what the line is
pub due_step : (n m : ℕ) (text line after : List ℕ) (v : Verdict) (due : ℕ × Verdict) → parted 10 text ≡ Some (line, after)
    → first_due n (ended_lines text) ≡ due → m ≡ next_line n → v ≡ judge line → of_due m v (first_due m (ended_lines after)) ≡ due
due_step n m text line after v due h k e f =
    rw (e, f) (sym (ap (first_due n) (ended_first text line after h)) ∙ k)

pub records_step : (last : Bool) (n m : ℕ) (text rest line after : List ℕ) (v : Verdict) (left : Left) → parted 10 text ≡ Some (line, after)
    → records n (lines_by last (text ++ rest)) ≡ left → m ≡ next_line n → v ≡ judge line
    → with_verdict m v (records m (lines_by last (after ++ rest))) ≡ left
records_step last n m text rest line after v left h k e f =
    rw (e, f) (sym (ap (records n) (lines_first last text rest line after h)) ∙ k)

pub due_found : (n : ℕ) (v : Verdict) (later : ℕ × Verdict) → v ≢ Skipped → of_due n v later ≡ (n, v)
due_found n Skipped later h = absurd (h refl)
due_found n (Found l a s) later h = refl
due_found n (Bad why) later h = refl

false_of_not : (t : Bool) → ¬ (t ≡ true) → t ≡ false
false_of_not true h = absurd (h refl)
false_of_not false h = refl

-- the first newline, as the search returns it
some_first : (text : List ℕ) (at : ℕ) → at < length text → (slice_index text at == 10) ≡ true
    → ((k : ℕ) → k < at → ¬ ((slice_index text k == 10) ≡ true)) → parted 10 text ≡ Some (take at text, drop (at + 1) text)
some_first [] at h e before = absurd (omega arith)
some_first (b ∷ bs) zero h e before =
    ap (λ (t : Bool). if t then Some ([], bs) else option_map (in_front b) (parted 10 bs)) e
some_first (b ∷ bs) (suc at) h e before =
    let no : (b == 10) ≡ false = false_of_not (b == 10) (before 0 (omega arith)) in
    let on = some_first bs at (omega arith) e (λ k l. before (suc k) (omega arith)) in
    let s : suc at + 1 ≡ suc (at + 1) = omega arith in
    ap (λ (t : Bool). if t then Some ([], bs) else option_map (in_front b) (parted 10 bs)) no
    ∙ ap (option_map (in_front b)) on ∙ rw s refl

none_first : (text : List ℕ) → ((k : ℕ) → k < length text → ¬ ((slice_index text k == 10) ≡ true)) → parted 10 text ≡ None
none_first [] before = refl
none_first (b ∷ bs) before =
    let no : (b == 10) ≡ false = false_of_not (b == 10) (before 0 (omega arith)) in
    ap (λ (t : Bool). if t then Some ([], bs) else option_map (in_front b) (parted 10 bs)) no
    ∙ ap (option_map (in_front b)) (none_first bs (λ k l. before (suc k) (omega arith)))

-- the first line of a text, and what it is, by the place of its newline
pub line_none : (text : List ℕ) → IsFirstByte (is_byte 10) text None → None ≡ judged_line text
line_none text h = sym (ap (option_map judged) (none_first text (λ k l. h k (omega arith) l)))

pub line_some : (text : List ℕ) (at : ℕ) → IsFirstByte (is_byte 10) text (Some at)
    → Some (drop (at + 1) text, judge (take at text)) ≡ judged_line text
line_some text at first =
    sym (ap (option_map judged) (some_first text at first.0.high first.1 (λ k l. first.0.before k (omega arith) l)))

-- the line of a text of which it is known what it is and what follows it
pub record IsFirst (text after : List ℕ) (v : Verdict) : Type 0 where
  pub line : List ℕ
  pub parts : parted 10 text ≡ Some (line, after)
  pub verdict : v ≡ judge line

first_by : (text after : List ℕ) (v : Verdict) (o : Option (List ℕ × List ℕ)) → parted 10 text ≡ o → option_map judged o ≡ Some (after, v) → IsFirst text after v
first_by text after v None h e = cc
first_by text after v (Some (line, rest)) h e =
    let both : (rest, judge line) ≡ (after, v) = same_Some (rest, judge line) (after, v) e in record {
      line = line;
      parts = h ∙ ap (λ (xs : List ℕ). Some (line, xs)) (ap (λ (p : List ℕ × Verdict). p.0) both);
      verdict = sym (ap (λ (p : List ℕ × Verdict). p.1) both);
    }

pub first_is : (text after : List ℕ) (v : Verdict) → judged_line text ≡ Some (after, v) → IsFirst text after v
first_is text after v h = first_by text after v (parted 10 text) refl h

pub none_is : (text : List ℕ) (o : Option (List ℕ × List ℕ)) → parted 10 text ≡ o → option_map judged o ≡ None → parted 10 text ≡ None
none_is text None h e = h
none_is text (Some parts) h e = cc

-- a line that was read from a place on
pub on_from : (used count : ℕ) (text : List ℕ) {v : Verdict} → judged_line (drop used text) ≡ Some (drop count (drop used text), v)
    → judged_line (drop used text) ≡ Some (drop (used + count) text, v)
on_from used count text {v} h =
    h ∙ ap (λ (bs : List ℕ). Some (bs, v)) (drop-drop count used text ∙ ap (λ (n : ℕ). drop n text) (omega arith))
