-- What the reading of a file says of its text.
use Rattle.xl_serving.proofs.Common.{if◌then◌else◌, ◌+◌, ◌<◌, ◌∙◌, ◌≡◌, [], ap, arith, Bool, cases_lt, Command, commands_said, config_fault, Err, Finds, inl, InputFault, inr, length, length-take, List, lt-ltb, nat_lt, None, Ok, Option, ReadsWhole, refl, Result, rows_said, said_by, said_in, script_fault, Some, Stop, subst, sym, take, take_all, ℕ}
use Rattle.std.specs.declared.alloc.Global.{Global}
use Rattle.std.specs.declared.vec.Vec.{Vec}
use Rattle.xl_config.specs.Config.{config, config_by, document_of}
use Rattle.xl_script.specs.Plain.{commands_in, plain_said, script_of}
use Rattle.xl_script.specs.Scripts.{lines_read, text_read}
use Rattle.xl_script.specs.Texts.{script_lines}
use Rattle.xl_script.specs.declared.fault.ScriptFault.{ScriptFault}
use Rattle.xl_script.specs.declared.fault.ScriptFault.TheVariants as script

pub longer : (limit : ℕ) (text : List ℕ) → limit < length text → limit < length (take (limit + 1) text)
longer limit text h = let e = length-take (limit + 1) text in grind arith

-- a text of which one byte more than the limit was read is too long as it was
abbrev judged : Bool → List ℕ → Result (List Command) ScriptFault
judged long text = commands_in (if long then Err script.TooLong else lines_read plain_said 0 1 (script_lines text))

script_cut : (text : List ℕ) → script_of (take 1048577 text) ≡ script_of text
unfolding script_of text_read
script_cut text = elim (cases_lt 1048576 (length text)) [
  | inl h ↦ ap (λ b. judged b (take 1048577 text)) (lt-ltb 1048576 (length (take 1048577 text)) (longer 1048576 text h)) ∙ sym (ap (λ b. judged b text) (lt-ltb 1048576 (length text) h))
  | inr h ↦ ap (λ bytes. judged (nat_lt 1048576 (length bytes)) bytes) (take_all 1048577 text (omega arith))
]

config_cut : (text : List ℕ) → config (take 65537 text) ≡ config text
unfolding config
config_cut text = elim (cases_lt 65536 (length text)) [
  | inl h ↦ ap (λ b. config_by b (document_of (take 65537 text))) (lt-ltb 65536 (length (take 65537 text)) (longer 65536 text h)) ∙ sym (ap (λ b. config_by b (document_of text)) (lt-ltb 65536 (length text) h))
  | inr h ↦ ap (λ bytes. config_by (nat_lt 65536 (length bytes)) (document_of bytes)) (take_all 65537 text (omega arith))
]

pub commands_cut : (text : List ℕ) → commands_said (take 1048577 text) ≡ commands_said text
commands_cut text = ap (said_by script_fault) (script_cut text)

pub rows_cut : (text : List ℕ) → rows_said (take 65537 text) ≡ rows_said text
rows_cut text = ap (said_by config_fault) (config_cut text)

-- the file was read, and its text
pub finds_text : {A B : Type 0} (view : A → B) (says : List ℕ → Result B InputFault) (limit : ℕ) (file : Option (List ℕ)) (text : Vec ℕ Global) (bytes : List ℕ) (r : Result A Stop)
    → ((xs : List ℕ) → says (take (limit + 1) xs) ≡ says xs)
    → ReadsWhole file limit (Ok text) → bytes ≡ text.items → Finds view r (says bytes) → Finds view r (said_in says file)
finds_text view says limit None text bytes r cut h b f = absurd h
finds_text view says limit (Some file) text bytes r cut h b f =
    subst (Finds view r) (ap says (b ∙ h) ∙ cut file) f

-- a script that isn't named has no commands
pub none_said : commands_said [] ≡ Ok []
unfolding script_of text_read script_lines
none_said = refl
