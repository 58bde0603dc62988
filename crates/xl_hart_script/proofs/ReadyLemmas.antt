-- What the commands of a script keep: all that they name lies in 64 bits, and their events are no fences.
use Rattle.std.proofs.Common.{◌+◌, ◌∷◌, ◌≡◌, [], Bool, Err, false, is_some, length, List, nat_lt, None, Ok, Option, refl, Some, subst, true, ℕ}
use Rattle.std.proofs.lemmas.List.Elements.{All-cons, All-nil}
use Rattle.std.specs.Prelude.{if◌then◌else◌, All, codes, Result}
use Rattle.std.specs.Str.{bytes_eq}
use Rattle.xl_hart_model.specs.declared.hart.HartSpec.{HartSpec}
use Rattle.xl_script.specs.Scripts.{after, and_then, lines_read, Reading, Said, text_read}
use Rattle.xl_script.specs.Texts.{script_lines, words_of}
use Rattle.xl_hart_script.specs.Lines.{fits_command, hart_line, head_line, in_turn, leaves_line, line_named, line_of, map_line, move_line, move_words, name_of, only_number, own_line, placed, protect_line, run_line, space_line, take_line, unmap_line, unmap_words}
use Rattle.xl_hart_script.specs.Scripts.{AreServable, harts_said, IsReady, said_by}
use Rattle.xl_script.specs.Reading.{◌>>=◌, address_in, count_in, last_count, number, order_in, short_in}
use Rattle.xl_hart_script.specs.declared.command.HartCommand.{HartCommand}
use Rattle.xl_hart_script.specs.declared.command.Line.{Line}
use Rattle.xl_hart_script.specs.declared.lines.Name.{Name}
use Rattle.xl_script.specs.declared.reason.Reason.{Reason}
use Rattle.xl_script.specs.declared.fault.ScriptFault.TheVariants as fault
use Rattle.xl_hart_script.specs.declared.command.HartCommand.TheVariants as command
use Rattle.xl_hart_script.specs.declared.command.Line.TheVariants as line
use Rattle.xl_hart_script.specs.declared.lines.Name.TheVariants as name
use Rattle.xl_script.specs.declared.reason.Reason.TheVariants as reason

-- a reading after another keeps what each answer of the second does
bind : {A B : Type 0} (P : Result B Reason → Type 0) → ((e : Reason) → P (Err e)) → (r : Result A Reason) (f : A → Result B Reason) → ((a : A) → P (f a)) → P (r >>= f)
bind P bad (Ok a) f h = h a
bind P bad (Err e) f h = bad e

-- a command that was read
abbrev Served : Result HartCommand Reason → Type 0
Served (Ok c) = AreServable c
Served (Err why) = Unit {0}

unmap-served : (space addr size n : List ℕ) → Served (unmap_words space addr size n)
unfolding unmap_words
unmap-served space addr size n =
    bind Served (λ e. tt) (short_in space) _ (λ s. bind Served (λ e. tt) (address_in addr) _ (λ va. bind Served (λ e. tt) (order_in size) _ (λ o.
    bind Served (λ e. tt) (count_in n) _ (λ k. tt))))

move-served : (space from to size n : List ℕ) → Served (move_words space from to size n)
unfolding move_words
move-served space from to size n =
    bind Served (λ e. tt) (short_in space) _ (λ s. bind Served (λ e. tt) (address_in from) _ (λ a. bind Served (λ e. tt) (address_in to) _ (λ b.
    bind Served (λ e. tt) (order_in size) _ (λ o. bind Served (λ e. tt) (count_in n) _ (λ k. tt)))))

-- the lines of commands
unmap-line : (rest : List (List ℕ)) → Served (unmap_line rest)
unmap-line [] = tt
unmap-line (a ∷ []) = tt
unmap-line (a ∷ b ∷ []) = tt
unmap-line (a ∷ b ∷ d ∷ rest) = bind Served (λ e. tt) (last_count rest) (λ n. unmap_words a b d n) (λ n. unmap-served a b d n)

move-line : (rest : List (List ℕ)) → Served (move_line rest)
move-line [] = tt
move-line (a ∷ []) = tt
move-line (a ∷ b ∷ []) = tt
move-line (a ∷ b ∷ d ∷ []) = tt
move-line (a ∷ b ∷ d ∷ e ∷ rest) = bind Served (λ e. tt) (last_count rest) (λ n. move_words a b d e n) (λ n. move-served a b d e n)

map-line : (rest : List (List ℕ)) → Served (map_line rest)
map-line rest = bind Served (λ e. tt) (leaves_line rest) _ (λ l. tt)

protect-line : (rest : List (List ℕ)) → Served (protect_line rest)
protect-line rest = bind Served (λ e. tt) (leaves_line rest) _ (λ l. tt)

space-line : (rest : List (List ℕ)) → Served (space_line rest)
space-line rest = bind Served (λ e. tt) (only_number rest) _ (λ s. tt)

hart-line : (rest : List (List ℕ)) → Served (hart_line rest)
hart-line rest = bind Served (λ e. tt) (only_number rest) _ (λ h. tt)

take-line : (rest : List (List ℕ)) → Served (take_line rest)
take-line rest = bind Served (λ e. tt) (only_number rest) _ (λ h. tt)

run-by : (b : Bool) (r : Result ℕ Reason) → Served (if b then Ok command.RunRest else (r >>= (λ k. Ok (command.Run k))))
run-by true r = tt
run-by false r = bind Served (λ e. tt) r _ (λ k. tt)

run-served : (rest : List (List ℕ)) → Served (run_line rest)
run-served [] = tt
run-served (a ∷ []) = run-by (bytes_eq a (codes "rest")) (number 1 4294967295 a)
run-served (a ∷ b ∷ rest) = tt

-- a line that was read
abbrev Good : Result Line Reason → Type 0
Good (Ok (line.Head spec)) = Unit {0}
Good (Ok (line.Own c)) = IsReady c
Good (Err why) = Unit {0}

own-good : (c : HartCommand) → AreServable c → Good (own_line c)
unfolding placed
own-good c served =
    elim (fits_command c) as (λ v. fits_command c ≡ v → Good ((if v then Ok c else Err reason.PastTheEnd) >>= (λ d. Ok (line.Own d))))
    [ true ↦ λ is. (is, served) | false ↦ λ is. tt ] refl

then-good : (r : Result HartCommand Reason) → Served r → Good (r >>= own_line)
then-good (Ok c) served = own-good c served
then-good (Err why) served = tt

named-good : (n : Name) (rest : List (List ℕ)) → Good (line_named n rest)
named-good name.Harts rest = bind Good (λ e. tt) (head_line rest) _ (λ spec. tt)
named-good name.Hart rest = then-good (hart_line rest) (hart-line rest)
named-good name.Take rest = then-good (take_line rest) (take-line rest)
named-good name.Map rest = then-good (map_line rest) (map-line rest)
named-good name.Unmap rest = then-good (unmap_line rest) (unmap-line rest)
named-good name.Protect rest = then-good (protect_line rest) (protect-line rest)
named-good name.Move rest = then-good (move_line rest) (move-line rest)
named-good name.Space rest = then-good (space_line rest) (space-line rest)
named-good name.Run rest = then-good (run_line rest) (run-served rest)

line-good : (opened : Bool) (first : List ℕ) (rest : List (List ℕ)) → Good (line_of opened first rest)
unfolding line_of
line-good opened first rest = bind Good (λ e. tt) (name_of first >>= in_turn opened) (λ n. line_named n rest) (λ n. named-good n rest)

-- what a line keeps
abbrev Says : Said (Option HartSpec) HartCommand → Type 0
Says (Ok (t, None)) = Unit {0}
Says (Ok (t, Some c)) = IsReady c
Says (Err why) = Unit {0}

said-keeps : (head : Option HartSpec) (r : Result Line Reason) → Good r → Says (said_by head r)
said-keeps head (Ok (line.Head spec)) good = tt
said-keeps head (Ok (line.Own c)) good = good
said-keeps head (Err why) good = tt

words-say : (head : Option HartSpec) (words : List (List ℕ)) → Says (harts_said head words)
words-say head [] = tt
words-say head (first ∷ rest) = said-keeps head (line_of (is_some head) first rest) (line-good (is_some head) first rest)

-- what lines keep
abbrev Keeps : Reading (Option HartSpec) HartCommand → Type 0
Keeps (Ok (t, commands)) = All IsReady commands
Keeps (Err f) = Unit {0}

with-command : (c : HartCommand) (r : Reading (Option HartSpec) HartCommand) → IsReady c → Keeps r → Keeps (after (c ∷ []) r)
with-command c (Ok (t, cs)) ready k = All-cons IsReady c cs ready k
with-command c (Err f) ready k = tt

line-keeps : (number : ℕ) (said : Said (Option HartSpec) HartCommand) (later : Option HartSpec → Reading (Option HartSpec) HartCommand) → Says said → ((t : Option HartSpec) → Keeps (later t))
    → Keeps (and_then number said later)
line-keeps number (Ok (t, None)) later says k = k t
line-keeps number (Ok (t, Some c)) later says k = with-command c (later t) says (k t)
line-keeps number (Err why) later says k = tt

lines-keep : (head : Option HartSpec) (number : ℕ) (lines : List (List ℕ)) → Keeps (lines_read harts_said head number lines)
lines-keep head number [] = All-nil IsReady
lines-keep head number (l ∷ ls) =
    line-keeps number (harts_said head (words_of l)) (λ t. lines_read harts_said t (number + 1) ls) (words-say head (words_of l)) (λ t. lines-keep t (number + 1) ls)

text-keeps : (text : List ℕ) → Keeps (text_read harts_said None text)
unfolding text_read
text-keeps text =
    elim (nat_lt 1048576 (length text)) as (λ v. Keeps (if v then Err fault.TooLong else lines_read harts_said None 1 (script_lines text)))
    [ true ↦ tt | false ↦ lines-keep None 1 (script_lines text) ]

-- all commands of a script are ready
pub script-keeps : (text : List ℕ) (t : Option HartSpec) (commands : List HartCommand) → text_read harts_said None text ≡ Ok (t, commands) → All IsReady commands
script-keeps text t commands h =
    let P : Reading (Option HartSpec) HartCommand → Type 0 = λ r. Keeps r in
    subst P h (text-keeps text)
