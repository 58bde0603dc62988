-- A text is read to its end, and what a run's script keeps.
use Rattle.xl_script.proofs.Common.{if◌then◌else◌, ◌&&◌, ◌+◌, ◌^◌, ◌∙◌, ◌∷◌, ◌≡◌, ◌≤◌, [], after, All, and_then, ap, append-nil, arith, cond, count_by, counted, drop, Err, false, leb-true, length, lines_read, List, list_all, ltb-true, nat_le, nat_lt, None, numbered, Ok, plain_said, Reading, refl, Result, Said, script_lines, Some, subst, sum_by-cons, sym, text_read, true, words_of, ℕ}
use Rattle.std.proofs.lemmas.List.Elements.{All-cons, All-nil}
use Rattle.xl_model.specs.declared.script.Command.{Command}
use Rattle.xl_script.proofs.TextLemmas.{no_lines}
use Rattle.xl_script.specs.Commands.{command_of, named, placed}
use Rattle.xl_script.specs.Placing.{AreInMemory, ends_of, is_area, IsPlaced}
use Rattle.xl_script.specs.Reading.{◌>>=◌}
use Rattle.xl_script.specs.declared.reason.Reason.{Reason}
use Rattle.xl_script.specs.declared.reason.Reason.TheVariants.{PastTheEnd, TooManyAreas}
use Rattle.xl_script.specs.declared.fault.ScriptFault.TheVariants as fault

-- commands before those of an end of the text
pub at_end : {S C : Type 0} (said : S → List (List ℕ) → Said S C) (s : S) (number at : ℕ) (text : List ℕ) (items : List C) (whole : Reading S C)
    → length text ≤ at → after items (lines_read said s number (script_lines (drop at text))) ≡ whole → whole ≡ Ok (s, items)
at_end said s number at text items whole past kept =
    sym kept ∙ ap (λ lines. after items (lines_read said s number lines)) (no_lines text at past) ∙ ap (λ cs. Ok (s, cs)) (append-nil items)

-- what a command of a run's script keeps
abbrev Good : Result Command Reason → Type 0
Good (Ok c) = IsPlaced c
Good (Err why) = Unit {0}

pub in_memory : (es : List ℕ) → list_all (λ e. nat_le e (2 ^ 64)) es ≡ true → AreInMemory es
in_memory [] h = tt
in_memory (e ∷ es) h =
    elim (nat_le e (2 ^ 64)) as (λ v. nat_le e (2 ^ 64) ≡ v → (v && list_all (λ d. nat_le d (2 ^ 64)) es) ≡ true → (e ≤ 2 ^ 64) × AreInMemory es)
    [ true ↦ λ is all. (leb-true e (2 ^ 64) is, in_memory es all) | false ↦ λ is all. cc ] refl h

placed_good : (c : Command) → Good (placed c)
unfolding placed
placed_good c =
    elim (list_all (λ e. nat_le e (2 ^ 64)) (ends_of c)) as (λ v. list_all (λ e. nat_le e (2 ^ 64)) (ends_of c) ≡ v → Good (if v then Ok c else Err PastTheEnd))
    [ true ↦ λ is. in_memory (ends_of c) is | false ↦ λ is. tt ] refl

then_good : (r : Result Command Reason) → Good (r >>= placed)
then_good (Ok c) = placed_good c
then_good (Err why) = tt

-- what a line keeps after `areas` areas
abbrev Says : ℕ → Said ℕ Command → Type 0
Says areas (Ok (t, None)) = t ≡ areas
Says areas (Ok (t, Some c)) = IsPlaced c × (t ≡ cond (is_area c) 1 0 + areas) × (t ≤ 256)
Says areas (Err why) = Unit {0}

counted_says : (areas : ℕ) (c : Command) → areas ≤ 256 → IsPlaced c → Says areas (numbered (counted areas c))
counted_says areas c few h =
    elim (is_area c) as (λ v. is_area c ≡ v → Says areas (numbered (if v then (if nat_lt areas 256 then Ok (areas + 1, c) else Err TooManyAreas) else Ok (areas, c)))) [
      | true ↦ λ is.
          elim (nat_lt areas 256) as (λ w. nat_lt areas 256 ≡ w → Says areas (numbered (if w then Ok (areas + 1, c) else Err TooManyAreas)))
          [ true ↦ λ less. rw is (h, omega arith, omega (arith, ltb-true areas 256 less)) | false ↦ λ less. tt ] refl
      | false ↦ λ is. rw is (h, omega arith, few)
    ] refl

line_says : (areas : ℕ) (r : Result Command Reason) → areas ≤ 256 → Good r → Says areas (numbered (r >>= counted areas))
line_says areas (Ok c) few h = counted_says areas c few h
line_says areas (Err why) few h = tt

words_say : (areas : ℕ) (words : List (List ℕ)) → areas ≤ 256 → Says areas (plain_said areas words)
words_say areas [] few = refl
words_say areas (first ∷ rest) few = line_says areas (command_of first rest) few (then_good (named first rest))

-- what lines after `areas` areas keep
abbrev Keeps : ℕ → Reading ℕ Command → Type 0
Keeps areas (Ok (t, commands)) = All IsPlaced commands × (count_by is_area commands + areas ≡ t) × (t ≤ 256)
Keeps areas (Err f) = Unit {0}

more_areas : (areas one n m t u : ℕ) → m ≡ one + n → t ≡ one + areas → n + t ≡ u → m + areas ≡ u
more_areas areas one n m t u more e k = omega arith

with_command : (areas t : ℕ) (c : Command) (r : Reading ℕ Command) → IsPlaced c → t ≡ cond (is_area c) 1 0 + areas → Keeps t r → Keeps areas (after (c ∷ []) r)
with_command areas t c (Ok (u, cs)) h e k =
    let more : count_by is_area (c ∷ cs) ≡ cond (is_area c) 1 0 + count_by is_area cs = sum_by-cons (λ x. cond (is_area x) 1 0) c cs in
    (All-cons IsPlaced c cs h k.0, more_areas areas (cond (is_area c) 1 0) (count_by is_area cs) (count_by is_area (c ∷ cs)) t u more e k.1, k.2)
with_command areas t c (Err f) h e k = tt

line_keeps : (areas number : ℕ) (said : Said ℕ Command) (later : ℕ → Reading ℕ Command) → areas ≤ 256 → Says areas said
    → ((t : ℕ) → t ≤ 256 → Keeps t (later t)) → Keeps areas (and_then number said later)
line_keeps areas number (Ok (t, None)) later few h k = let P : ℕ → Type 0 = λ n. Keeps n (later t) in subst P h (k t (omega (arith, h)))
line_keeps areas number (Ok (t, Some c)) later few h k = with_command areas t c (later t) h.0 h.1 (k t h.2)
line_keeps areas number (Err why) later few h k = tt

lines_keep : (areas number : ℕ) (lines : List (List ℕ)) → areas ≤ 256 → Keeps areas (lines_read plain_said areas number lines)
lines_keep areas number [] few = (All-nil IsPlaced, omega arith, few)
lines_keep areas number (line ∷ lines) few =
    line_keeps areas number (plain_said areas (words_of line)) (λ t. lines_read plain_said t (number + 1) lines) few (words_say areas (words_of line) few)
    (λ t less. lines_keep t (number + 1) lines less)

text_keeps : (text : List ℕ) → Keeps 0 (text_read plain_said 0 text)
unfolding text_read
text_keeps text =
    elim (nat_lt 1048576 (length text)) as (λ v. Keeps 0 (if v then Err fault.TooLong else lines_read plain_said 0 1 (script_lines text)))
    [ true ↦ tt | false ↦ lines_keep 0 1 (script_lines text) (omega arith) ]

-- all that a script's commands name lies in 64 bits, and at most 256 of them declare an area
pub script_keeps : (text : List ℕ) (t : ℕ) (commands : List Command) → text_read plain_said 0 text ≡ Ok (t, commands)
    → (All IsPlaced commands) × (count_by is_area commands ≤ 256)
script_keeps text t commands h =
    let P : Reading ℕ Command → Type 0 = λ r. Keeps 0 r in
    let k : Keeps 0 (Ok (t, commands)) = subst P h (text_keeps text) in
    (k.0, omega (arith, k.1, k.2))
