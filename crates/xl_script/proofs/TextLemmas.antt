-- Laws of lines and words.
use Rattle.xl_script.proofs.Common.{if◌then◌else◌, ◌+◌, ◌-◌, ◌<◌, ◌==◌, ◌∙◌, ◌∷◌, ◌≡◌, ◌≤◌, [], add-one, add-zero, ap, ap₂, arith, Bool, cond, drop, drop-drop, drop_all, eqb-true, false, get_or, get_or-drop, IsFirstByte, length, length-drop, length-take, List, map, ne_eqb, None, not, one-add, onto, Option, pieces, position, position_or_len, prefix_len-le-length, prefix_len_is, prefix_len_stops, refl, script_lines, slice_range, Some, suc, sym, take, take-take, to_newline, true, up_to_comment, words_of, ℕ}
use Rattle.xl_model.proofs.BoolLemmas.{not-so}
use Rattle.std.proofs.lemmas.Bool.Decides.{nat_tests}
use Rattle.xl_text.specs.Texts.{in_first, is_blank, lines_of, without_return}

-- a place is within the list
pub place_within : {X : Type 0} (p : X → Bool) (xs : List X) → position_or_len p xs ≤ length xs
place_within p xs = prefix_len-le-length (λ x. not (p x)) xs

skip_all : (bs : List ℕ) → words_of (drop (position_or_len (λ b. not (is_blank b)) bs) bs) ≡ words_of bs
unfolding words_of
skip_all [] = refl
skip_all (b ∷ bs) = elim (is_blank b) as (λ v. is_blank b ≡ v →
    up_to_comment (pieces (drop (cond (not (not v)) (1 + position_or_len (λ x. not (is_blank x)) bs) 0) (b ∷ bs)))
    ≡ up_to_comment (pieces (b ∷ bs))) [
      | true ↦ λ is. rw (is, one-add) (skip_all bs)
      | false ↦ λ is. refl
    ] refl

abbrev pub blanks : List ℕ → ℕ
blanks bs = position_or_len (λ b. not (is_blank b)) bs

-- blanks at the front part no words
pub skip_blanks : (bs : List ℕ) (n : ℕ) → n ≡ blanks bs → words_of (drop n bs) ≡ words_of bs
skip_blanks bs n is = rw is (skip_all bs)

-- what follows the first piece of a line
abbrev pub later_pieces : List ℕ → List (List ℕ)
later_pieces [] = []
later_pieces (b ∷ bs) = pieces bs

abbrev pub word_end : List ℕ → ℕ
word_end bs = position_or_len is_blank bs

-- the first piece ends at the first blank
first_piece : (bs : List ℕ) → pieces bs ≡ take (word_end bs) bs ∷ later_pieces (drop (word_end bs) bs)
first_piece [] = refl
first_piece (b ∷ bs) = elim (is_blank b) as (λ v.
    (if v then [] ∷ pieces bs else onto b (pieces bs))
    ≡ take (cond (not v) (1 + word_end bs) 0) (b ∷ bs) ∷ later_pieces (drop (cond (not v) (1 + word_end bs) 0) (b ∷ bs))) [
      | true ↦ refl
      | false ↦ rw one-add (ap (onto b) (first_piece bs))
    ]

-- what follows the first piece has the later words
later_words : (bs : List ℕ) → up_to_comment (later_pieces (drop (word_end bs) bs)) ≡ words_of (drop (word_end bs) bs)
unfolding words_of
later_words [] = refl
later_words (b ∷ bs) = elim (is_blank b) as (λ v.
    (is_blank b ≡ v) → up_to_comment (later_pieces (drop (cond (not v) (1 + word_end bs) 0) (b ∷ bs)))
    ≡ up_to_comment (pieces (drop (cond (not v) (1 + word_end bs) 0) (b ∷ bs)))) [
      | true ↦ λ is. rw is refl
      | false ↦ λ is. rw one-add (later_words bs)
    ] refl

twice_not : (v : Bool) → not (not v) ≡ false → v ≡ false
twice_not true h = h
twice_not false h = refl

comment : (ps : List (List ℕ)) → up_to_comment (onto 35 ps) ≡ []
comment [] = refl
comment (p ∷ ps) = refl

-- after the blanks at the front is no blank
pub blanks_end : (bs : List ℕ) (n : ℕ) → n ≡ blanks bs → 0 < length (drop n bs) → is_blank (get_or (drop n bs) 0 0) ≡ false
blanks_end bs n is some =
    let short : blanks bs < length bs = omega (arith, some, is, length-drop n bs) in
    let stops : is_blank (get_or bs (blanks bs) 0) ≡ false = twice_not _ (prefix_len_stops (λ x. not (not (is_blank x))) bs 0 short) in
    rw (is, get_or-drop, add-zero) stops

-- a line's first word and what follows it, where the line begins with neither a blank nor a comment
first_word : (line : List ℕ) → 0 < length line → is_blank (get_or line 0 0) ≡ false → (get_or line 0 0 == 35) ≡ false
    → words_of line ≡ take (word_end line) line ∷ words_of (drop (word_end line) line)
unfolding words_of
first_word [] some plain other = absurd (omega arith)
first_word (b ∷ bs) some plain other =
    ap up_to_comment (first_piece (b ∷ bs))
    ∙ rw (plain, one-add, other) (ap (λ ws. (b ∷ take (word_end bs) bs) ∷ ws) (later_words bs))

pub word_first : (line : List ℕ) (n : ℕ) → n ≡ word_end line → 0 < length line → is_blank (get_or line 0 0) ≡ false
    → (get_or line 0 0 ≡ 35 → ⊥) → words_of line ≡ take n line ∷ words_of (drop n line)
word_first line n is some plain other = rw is (first_word line some plain (ne_eqb _ _ other))

pub empty_line : (line : List ℕ) → true ≡ (length line == 0) → words_of line ≡ []
unfolding words_of
empty_line [] is = refl
empty_line (b ∷ bs) is = let none : suc (length bs) ≡ 0 = eqb-true _ _ (sym is) in absurd (omega arith)

-- a comment has no words
pub comment_first : (line : List ℕ) → 0 < length line → get_or line 0 0 ≡ 35 → words_of line ≡ []
unfolding words_of
comment_first [] some is = absurd (omega arith)
comment_first (b ∷ bs) some is = let hash : b ≡ 35 = is in rw hash (comment (pieces bs))

-- a text's first line ends at its first newline
line_first : (b : ℕ) (bs : List ℕ)
    → lines_of (b ∷ bs) ≡ take (to_newline (b ∷ bs)) (b ∷ bs) ∷ lines_of (drop (to_newline (b ∷ bs)) bs)
line_first b [] = elim (b == 10) as (λ v. (if v then [] ∷ [] else (b ∷ []) ∷ [])
    ≡ take (cond (not v) (1 + 0) 0) (b ∷ []) ∷ lines_of (drop (cond (not v) (1 + 0) 0) []))
    [ true ↦ refl | false ↦ refl ]
line_first b (c ∷ cs) = elim (b == 10) as (λ v. (if v then [] ∷ lines_of (c ∷ cs) else in_first true b (lines_of (c ∷ cs)))
    ≡ take (cond (not v) (1 + to_newline (c ∷ cs)) 0) (b ∷ c ∷ cs)
    ∷ lines_of (drop (cond (not v) (1 + to_newline (c ∷ cs)) 0) (c ∷ cs))) [
      | true ↦ refl
      | false ↦ rw one-add (ap (in_first true b) (line_first c cs))
    ]

lines_at : (text : List ℕ) → 0 < length text
    → script_lines text ≡ without_return (take (to_newline text) text) ∷ script_lines (drop (to_newline text + 1) text)
unfolding script_lines
lines_at [] some = absurd (omega arith)
lines_at (b ∷ bs) some = rw add-one (ap (map without_return) (line_first b bs))

-- the first line of a text that isn't empty, and the lines after it
pub lines_first : (text : List ℕ) (n : ℕ) → 0 < length text → n ≡ to_newline text
    → script_lines text ≡ without_return (take n text) ∷ script_lines (drop (n + 1) text)
lines_first text n some is = rw is (lines_at text some)

-- past a text's end is no line
pub no_lines : (text : List ℕ) (at : ℕ) → length text ≤ at → script_lines (drop at text) ≡ []
unfolding script_lines
no_lines text at past = rw (drop_all at text past) refl

module _ (text : List ℕ) (at n : ℕ) (front : List ℕ) where
  -- front is what is before the newline, without a carriage return
  pub record IsFront : Type 0 where
    pub value : front ≡ without_return (take n (drop at text))
    pub first : front ≡ take (length front) (take n (drop at text))
    pub within : length front ≤ length (take n (drop at text))

  fronts : IsFront → without_return (take n (drop at text)) ≡ slice_range text at (at + length front)
  fronts h =
      let short : length front ≤ n = omega (arith, h.within, length-take n (drop at text)) in
      let k : at + length front - at ≡ length front = omega arith in
      sym h.value ∙ h.first ∙ take-take (length front) n (drop at text) short ∙ sym (ap (λ m. take m (drop at text)) k)

  -- a line that a newline ends
  pub line_found : at < length text → n ≡ to_newline (drop at text) → IsFront
      → script_lines (drop at text) ≡ slice_range text at (at + length front) ∷ script_lines (drop (at + n + 1) text)
  line_found some value h =
      let tail : drop (n + 1) (drop at text) ≡ drop (at + n + 1) text =
      drop-drop (n + 1) at text ∙ ap (λ k. drop k text) (omega arith) in
      lines_first (drop at text) n (omega (arith, length-drop at text)) value
      ∙ ap₂ (λ a b. a ∷ script_lines b) (fronts h) tail

  -- a last line that no newline ends
  pub line_last : at < length text → n ≡ to_newline (drop at text) → length (drop at text) ≤ n → IsFront
      → script_lines (drop at text) ≡ slice_range text at (at + length front) ∷ script_lines (drop (length text) text)
  line_last some value unended h =
      let tail : drop (n + 1) (drop at text) ≡ drop (length text) text =
      drop_all (n + 1) (drop at text) (omega arith) ∙ sym (drop_all (length text) text (omega arith)) in
      lines_first (drop at text) n (omega (arith, length-drop at text)) value
      ∙ ap₂ (λ a b. a ∷ script_lines b) (fronts h) tail

-- the first place that a search finds is the first place
pub first_place : (test : ℕ → Bool) (text : List ℕ) (found : Option ℕ) → IsFirstByte test text found → found ≡ position test text
first_place test text None nowhere =
    let none : position_or_len test text ≡ length text =
    prefix_len_is (λ b. not (test b)) text (length text) 0 (omega arith) (λ k less. not-so (test (get_or text k 0)) (nowhere k (omega arith) less)) (λ less. absurd (omega (arith, less))) in
    grind (arith, nat_tests, none)
first_place test text (Some k) here =
    let first : position_or_len test text ≡ k =
    prefix_len_is (λ b. not (test b)) text k 0 (omega (arith, here.0.high)) (λ i less. not-so (test (get_or text i 0)) (here.0.before i (omega arith) less)) (λ less. ap not here.1) in
    grind (arith, nat_tests, first, here.0.high)
