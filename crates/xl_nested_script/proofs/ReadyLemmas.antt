-- What the commands of a script keep: all that they name lies in 64 bits, and a map at the host is for users.
use Rattle.std.proofs.Common.{◌&&◌, ◌+◌, ◌^◌, ◌∷◌, ◌≡◌, ◌≤◌, [], Bool, Err, false, is_some, length, List, nat_le, nat_lt, None, Ok, Option, refl, Some, subst, true, ℕ}
use Rattle.std.proofs.lemmas.List.Elements.{All-cons, All-nil}
use Rattle.std.specs.List.{list_all}
use Rattle.std.specs.Prelude.{if◌then◌else◌, All, Result}
use Rattle.xl_model.specs.declared.perm.Perm.{Perm}
use Rattle.xl_nested_model.specs.declared.nest.Nest.{Nest}
use Rattle.xl_script.proofs.ScriptLemmas.{in_memory}
use Rattle.xl_script.specs.Scripts.{after, and_then, lines_read, Reading, Said, text_read}
use Rattle.xl_script.specs.Texts.{script_lines, words_of}
use Rattle.xl_nested_script.specs.Lines.{ends_of, gmap_line, gmap_words, gunmap_line, gunmap_words, head_line, in_turn, line_named, line_of, name_of, own_line, placed, run_line, user_perm, user_perm_in, vmap_line, vmap_words, vunmap_line, vunmap_words}
use Rattle.xl_nested_script.specs.Scripts.{HasUsers, IsReady, nest_said, said_by}
use Rattle.xl_script.specs.Reading.{◌>>=◌, address_in, count_in, last_count, number, order_in, perm_in}
use Rattle.xl_nested_script.specs.declared.command.Line.{Line}
use Rattle.xl_nested_script.specs.declared.command.NestCommand.{NestCommand}
use Rattle.xl_nested_script.specs.declared.lines.Name.{Name}
use Rattle.xl_script.specs.declared.reason.Reason.{Reason}
use Rattle.xl_script.specs.declared.fault.ScriptFault.TheVariants as fault
use Rattle.xl_nested_script.specs.declared.command.Line.TheVariants as line
use Rattle.xl_nested_script.specs.declared.command.NestCommand.TheVariants as command
use Rattle.xl_nested_script.specs.declared.lines.Name.TheVariants as name
use Rattle.xl_script.specs.declared.reason.Reason.TheVariants as reason

-- a reading after another keeps what each answer of the second does
bind : {A B : Type 0} (P : Result B Reason → Type 0) → ((e : Reason) → P (Err e)) → (r : Result A Reason) (f : A → Result B Reason) → ((a : A) → r ≡ Ok a → P (f a)) → P (r >>= f)
bind P bad (Ok a) f h = h a refl
bind P bad (Err e) f h = bad e

-- a command that was read
abbrev Users : Result NestCommand Reason → Type 0
Users (Ok c) = HasUsers c
Users (Err why) = Unit {0}

users-of : (p q : Perm) → user_perm q ≡ Ok p → p.u ≡ true
users-of p q e =
    elim (q.u) as (λ b. q.u ≡ b → (if b then Ok q else Err reason.Perm) ≡ Ok p → p.u ≡ true)
    [ true ↦ λ is same. let k : q ≡ p = cc in subst (λ (x : Perm). x.u ≡ true) k is | false ↦ λ is same. absurd (cc) ] refl e

users-in : (r : Result Perm Reason) (p : Perm) → (r >>= user_perm) ≡ Ok p → p.u ≡ true
users-in (Ok q) p e = users-of p q e
users-in (Err why) p e = absurd (cc)

gmap-words : (gaddr size perm n : List ℕ) → Users (gmap_words gaddr size perm n)
unfolding gmap_words
gmap-words gaddr size perm n =
    bind Users (λ e. tt) (address_in gaddr) _ (λ g a. bind Users (λ e. tt) (order_in size) _ (λ o b. bind Users (λ e. tt) (user_perm_in perm) _ (λ p u.
    bind Users (λ e. tt) (count_in n) _ (λ k d. users-in (perm_in perm) p u))))

gunmap-words : (gaddr size n : List ℕ) → Users (gunmap_words gaddr size n)
unfolding gunmap_words
gunmap-words gaddr size n =
    bind Users (λ e. tt) (address_in gaddr) _ (λ g a. bind Users (λ e. tt) (order_in size) _ (λ o b. bind Users (λ e. tt) (count_in n) _ (λ k d. tt)))

vmap-words : (va size gaddr perm n : List ℕ) → Users (vmap_words va size gaddr perm n)
unfolding vmap_words
vmap-words va size gaddr perm n =
    bind Users (λ e. tt) (address_in va) _ (λ v a. bind Users (λ e. tt) (order_in size) _ (λ o b. bind Users (λ e. tt) (address_in gaddr) _ (λ g d.
    bind Users (λ e. tt) (perm_in perm) _ (λ p f. bind Users (λ e. tt) (count_in n) _ (λ k h. tt)))))

vunmap-words : (va size n : List ℕ) → Users (vunmap_words va size n)
unfolding vunmap_words
vunmap-words va size n =
    bind Users (λ e. tt) (address_in va) _ (λ v a. bind Users (λ e. tt) (order_in size) _ (λ o b. bind Users (λ e. tt) (count_in n) _ (λ k d. tt)))

-- the words of a command after its number
counted : (r : Result (List ℕ) Reason) (f : List ℕ → Result NestCommand Reason) → ((n : List ℕ) → Users (f n)) → Users (r >>= f)
counted (Ok n) f h = h n
counted (Err why) f h = tt

gmap-users : (rest : List (List ℕ)) → Users (gmap_line rest)
gmap-users [] = tt
gmap-users (a ∷ []) = tt
gmap-users (a ∷ b ∷ []) = tt
gmap-users (a ∷ b ∷ d ∷ rest) = counted (last_count rest) (λ n. gmap_words a b d n) (λ n. gmap-words a b d n)

gunmap-users : (rest : List (List ℕ)) → Users (gunmap_line rest)
gunmap-users [] = tt
gunmap-users (a ∷ []) = tt
gunmap-users (a ∷ b ∷ rest) = counted (last_count rest) (λ n. gunmap_words a b n) (λ n. gunmap-words a b n)

vmap-users : (rest : List (List ℕ)) → Users (vmap_line rest)
vmap-users [] = tt
vmap-users (a ∷ []) = tt
vmap-users (a ∷ b ∷ []) = tt
vmap-users (a ∷ b ∷ d ∷ []) = tt
vmap-users (a ∷ b ∷ d ∷ e ∷ rest) = counted (last_count rest) (λ n. vmap_words a b d e n) (λ n. vmap-words a b d e n)

vunmap-users : (rest : List (List ℕ)) → Users (vunmap_line rest)
vunmap-users [] = tt
vunmap-users (a ∷ []) = tt
vunmap-users (a ∷ b ∷ rest) = counted (last_count rest) (λ n. vunmap_words a b n) (λ n. vunmap-words a b n)

run-number : (r : Result ℕ Reason) → Users (r >>= (λ k. Ok (command.Run k)))
run-number (Ok k) = tt
run-number (Err why) = tt

run-by : (b : Bool) (r : Result ℕ Reason) → Users (if b then Ok command.RunRest else (r >>= (λ k. Ok (command.Run k))))
run-by true r = tt
run-by false r = run-number r

run-users : (rest : List (List ℕ)) → Users (run_line rest)
run-users [] = tt
run-users (a ∷ []) = run-by _ (number 1 4294967295 a)
run-users (a ∷ b ∷ rest) = tt

-- a line that was read
abbrev Good : Result Line Reason → Type 0
Good (Ok (line.Head nest)) = Unit {0}
Good (Ok (line.Own c)) = IsReady c
Good (Err why) = Unit {0}

own-good : (c : NestCommand) → HasUsers c → Good (own_line c)
unfolding placed
own-good c users =
    elim (list_all (λ e. nat_le e (2 ^ 64)) (ends_of c)) as (λ v. list_all (λ e. nat_le e (2 ^ 64)) (ends_of c) ≡ v → Good ((if v then Ok c else Err reason.PastTheEnd) >>= (λ d. Ok (line.Own d))))
    [ true ↦ λ is. (in_memory (ends_of c) is, users) | false ↦ λ is. tt ] refl

then-good : (r : Result NestCommand Reason) → Users r → Good (r >>= own_line)
then-good (Ok c) users = own-good c users
then-good (Err why) users = tt

head-good : (r : Result Nest Reason) → Good (r >>= (λ nest. Ok (line.Head nest)))
head-good (Ok nest) = tt
head-good (Err why) = tt

named-good : (n : Name) (rest : List (List ℕ)) → Good (line_named n rest)
named-good name.Guest rest = head-good (head_line rest)
named-good name.GMap rest = then-good (gmap_line rest) (gmap-users rest)
named-good name.GUnmap rest = then-good (gunmap_line rest) (gunmap-users rest)
named-good name.VMap rest = then-good (vmap_line rest) (vmap-users rest)
named-good name.VUnmap rest = then-good (vunmap_line rest) (vunmap-users rest)
named-good name.Run rest = then-good (run_line rest) (run-users rest)

line-good : (opened : Bool) (first : List ℕ) (rest : List (List ℕ)) → Good (line_of opened first rest)
unfolding line_of
line-good opened first rest = bind Good (λ e. tt) (name_of first >>= in_turn opened) (λ n. line_named n rest) (λ n e. named-good n rest)

-- what a line keeps
abbrev Says : Said (Option Nest) NestCommand → Type 0
Says (Ok (t, None)) = Unit {0}
Says (Ok (t, Some c)) = IsReady c
Says (Err why) = Unit {0}

said-keeps : (head : Option Nest) (r : Result Line Reason) → Good r → Says (said_by head r)
said-keeps head (Ok (line.Head nest)) good = tt
said-keeps head (Ok (line.Own c)) good = good
said-keeps head (Err why) good = tt

words-say : (head : Option Nest) (words : List (List ℕ)) → Says (nest_said head words)
words-say head [] = tt
words-say head (first ∷ rest) = said-keeps head (line_of (is_some head) first rest) (line-good (is_some head) first rest)

-- what lines keep
abbrev Keeps : Reading (Option Nest) NestCommand → Type 0
Keeps (Ok (t, commands)) = All IsReady commands
Keeps (Err f) = Unit {0}

with-command : (c : NestCommand) (r : Reading (Option Nest) NestCommand) → IsReady c → Keeps r → Keeps (after (c ∷ []) r)
with-command c (Ok (t, cs)) ready k = All-cons IsReady c cs ready k
with-command c (Err f) ready k = tt

line-keeps : (number : ℕ) (said : Said (Option Nest) NestCommand) (later : Option Nest → Reading (Option Nest) NestCommand) → Says said → ((t : Option Nest) → Keeps (later t))
    → Keeps (and_then number said later)
line-keeps number (Ok (t, None)) later says k = k t
line-keeps number (Ok (t, Some c)) later says k = with-command c (later t) says (k t)
line-keeps number (Err why) later says k = tt

lines-keep : (head : Option Nest) (number : ℕ) (lines : List (List ℕ)) → Keeps (lines_read nest_said head number lines)
lines-keep head number [] = All-nil IsReady
lines-keep head number (l ∷ ls) =
    line-keeps number (nest_said head (words_of l)) (λ t. lines_read nest_said t (number + 1) ls) (words-say head (words_of l)) (λ t. lines-keep t (number + 1) ls)

text-keeps : (text : List ℕ) → Keeps (text_read nest_said None text)
unfolding text_read
text-keeps text =
    elim (nat_lt 1048576 (length text)) as (λ v. Keeps (if v then Err fault.TooLong else lines_read nest_said None 1 (script_lines text)))
    [ true ↦ tt | false ↦ lines-keep None 1 (script_lines text) ]

-- all commands of a script are ready
pub script-keeps : (text : List ℕ) (t : Option Nest) (commands : List NestCommand) → text_read nest_said None text ≡ Ok (t, commands) → All IsReady commands
script-keeps text t commands h =
    let P : Reading (Option Nest) NestCommand → Type 0 = λ r. Keeps r in
    subst P h (text-keeps text)
