-- The words of the command line, by the matches of a simple command.
use Rattle.std.specs.Prelude.{◌≡◌, ℕ, pos, if◌then◌else◌, Bool, true, false, List, [], ◌∷◌, drop, codes, Option, None, Some, option_map, unwrap_or, Result, Ok, Err}
use Rattle.std.specs.Str.{bytes_eq}
use Rattle.std.specs.Str.Parse.{digits_value, without_leading_plus}
use Rattle.clap.specs.declared.builder.action.ArgAction.TheVariants.{Set, SetTrue}
use Rattle.clap.specs.ValueTests.{is_unsigned_in}
use Rattle.clap.specs.declared.builder.value_parser.ValueParser.TheVariants as parser
use Rattle.clap.specs.Words.{App, Kinds, Row, Rule, new_app, new_rule, with_rule, fault_of, matches_of, first_of}
use Rattle.clap.specs.Words.{found_of, rows_of}
use Rattle.clap.specs.declared.parser.matches.ArgMatches.{ArgMatches}
use Rattle.xl_words.specs.declared.words.Form.{Form}
use Rattle.xl_words.specs.declared.words.Form.TheVariants as form
use Rattle.xl_words.specs.declared.words.Plain.{Plain}
use Rattle.xl_words.specs.declared.words.Pair.{Pair}
use Rattle.xl_words.specs.declared.words.CurveWords.{CurveWords}
use Rattle.xl_words.specs.declared.words.Words.{Words}
use Rattle.xl_words.specs.declared.words.Words.TheVariants as words
use Rattle.xl_words.specs.declared.words.WordsFault.{WordsFault}
use Rattle.xl_words.specs.declared.words.WordsFault.TheVariants as fault

-- An option that has a value.
abbrev pub option_rule : List ℕ → Rule
option_rule name = record (new_rule name) { long = Some name; action = Some Set }

-- An option that has a value, and that may not be left out.
abbrev pub needed_rule : List ℕ → Rule
needed_rule name = record (option_rule name) { required = true }

-- A flag.
abbrev pub flag_rule : List ℕ → Rule
flag_rule name = record (new_rule name) { long = Some name; action = Some SetTrue }

-- An option that has a number from 1 to 1,048,576.
abbrev pub number_rule : List ℕ → Rule
number_rule name = record (option_rule name) { parser = Some (parser.Signed (pos 1) (pos 1048576)) }

-- An option that has a number from 1 to 256, and that may not be left out.
abbrev pub sets_rule : List ℕ → Rule
sets_rule name = record (needed_rule name) { parser = Some (parser.Signed (pos 1) (pos 256)) }

-- The command with the options that name a file: `--config`, which is needed, `--script` and
-- `--trace`.
unfoldable pub file_app : App
file_app =
    with_rule (with_rule (with_rule (new_app (codes "xlate"))
    (needed_rule (codes "config"))) (option_rule (codes "script"))) (option_rule (codes "trace"))

-- The command of the plain form: the same, with the option `--make` and the flags `--answers`,
-- `--image` and `--json`.
unfoldable pub app : App
app =
    with_rule (with_rule (with_rule (with_rule file_app (number_rule (codes "make")))
    (flag_rule (codes "answers"))) (flag_rule (codes "image"))) (flag_rule (codes "json"))

-- The command of the forms `nested` and `harts`: `--script` and `--trace`, which are needed, and
-- the flag `--answers`.
unfoldable pub pair_app : App
pair_app =
    with_rule (with_rule (with_rule (new_app (codes "xlate"))
    (needed_rule (codes "script"))) (needed_rule (codes "trace"))) (flag_rule (codes "answers"))

-- The command of the form `curve`: the options that name a file, and `--sets`, which is needed.
unfoldable pub curve_app : App
curve_app = with_rule file_app (sets_rule (codes "sets"))

-- What the words of the plain form ask for: the names of its files; for how many records script and
-- trace are made, where they are; whether a line is wanted for each access and command; whether the
-- words of radix tables are; and whether the rows are wanted as JSON.
pub record AskedPlain : Type 0 where
  pub config : List ℕ
  pub script : Option (List ℕ)
  pub trace : Option (List ℕ)
  pub made : Option ℕ
  pub answers : Bool
  pub image : Bool
  pub json : Bool

-- What the words of the forms `nested` and `harts` ask for: the names of the script and the trace,
-- and whether a line is wanted for each access.
pub record AskedPair : Type 0 where
  pub script : List ℕ
  pub trace : List ℕ
  pub answers : Bool

-- What the words of the form `curve` ask for: how many sets the array of each curve has, and the
-- names of its files.
pub record AskedCurve : Type 0 where
  pub sets : ℕ
  pub config : List ℕ
  pub script : Option (List ℕ)
  pub trace : Option (List ℕ)

-- What the words ask for, in each form of the program.
pub data Asked : Type 0 where
  Plainly : AskedPlain → Asked
  Nestedly : AskedPair → Asked
  Hartly : AskedPair → Asked
  Curved : AskedCurve → Asked

-- Whether a flag is among the words.
abbrev pub is_on : Option (List ℕ) → Bool
is_on None = false
is_on (Some text) = bytes_eq text (codes "true")

-- The number from 1 to `most` that a text is; none where it is no such number.
abbrev pub number_of : ℕ → List ℕ → Option ℕ
number_of most text = if is_unsigned_in 1 most text then Some (digits_value 10 (without_leading_plus text)) else None

-- For how many records script and trace are made, by the text of the number, where it is given, and
-- the names of a script and a trace. With one of these none are made, and the words ask for
-- nothing.
abbrev pub made_by : Option (List ℕ) → Option (List ℕ) → Option (List ℕ) → Option (Option ℕ)
made_by None script trace = Some None
made_by (Some text) None None = option_map Some (number_of 1048576 text)
made_by (Some text) script trace = None

-- The number of sets, by its text.
abbrev pub sets_by : Option (List ℕ) → Option ℕ
sets_by None = None
sets_by (Some text) = number_of 256 text

-- What is asked for by some matches of the plain form, where `made` records are made.
abbrev pub plain_with : List Row → Option ℕ → AskedPlain
plain_with rows made = record {
  config = unwrap_or (first_of (codes "config") rows) [];
  script = first_of (codes "script") rows;
  trace = first_of (codes "trace") rows;
  made = made;
  answers = is_on (first_of (codes "answers") rows);
  image = is_on (first_of (codes "image") rows);
  json = is_on (first_of (codes "json") rows);
}

-- What is asked for by some matches of the plain form; nothing where records are to be made beside
-- a script or a trace.
abbrev pub plain_in : List Row → Option AskedPlain
plain_in rows =
    option_map (plain_with rows)
    (made_by (first_of (codes "make") rows) (first_of (codes "script") rows) (first_of (codes "trace") rows))

-- What is asked for by some matches of the forms `nested` and `harts`.
abbrev pub pair_in : List Row → Option AskedPair
pair_in rows = Some (record {
  script = unwrap_or (first_of (codes "script") rows) [];
  trace = unwrap_or (first_of (codes "trace") rows) [];
  answers = is_on (first_of (codes "answers") rows);
})

-- What is asked for by some matches of the form `curve`, with `sets` sets.
abbrev pub curve_with : List Row → ℕ → AskedCurve
curve_with rows sets = record {
  sets = sets;
  config = unwrap_or (first_of (codes "config") rows) [];
  script = first_of (codes "script") rows;
  trace = first_of (codes "trace") rows;
}

-- What is asked for by some matches of the form `curve`. The command has none without a number of
-- sets.
abbrev pub curve_in : List Row → Option AskedCurve
curve_in rows = option_map (curve_with rows) (sets_by (first_of (codes "sets") rows))

-- What is read of a command's matches, where it has any.
abbrev pub read_where : {A : Type 0} → Kinds → Option A → Option A
read_where [] asked = asked
read_where (kind ∷ kinds) asked = None

-- What is asked for by the words, as a command reads them; nothing where it has no matches for
-- them.
abbrev pub read_by : {A : Type 0} → App → (List Row → Option A) → List (List ℕ) → Option A
read_by app in' words = read_where (fault_of app words) (in' (matches_of app words))

-- The form of this name; any other word is the plain form's.
abbrev pub form_named : List ℕ → Form
form_named word =
    if bytes_eq word (codes "nested") then form.Nested
    else if bytes_eq word (codes "harts") then form.Harts
    else if bytes_eq word (codes "curve") then form.Curve
    else form.Plain

-- The form that the first word after the program's name asks for.
abbrev pub form_of : List (List ℕ) → Form
form_of [] = form.Plain
form_of (program ∷ []) = form.Plain
form_of (program ∷ word ∷ words) = form_named word

-- What the words ask for in a form. The command of a form that is named reads the words from that
-- name on, which is in the place of the program's name.
abbrev pub asked_as : Form → List (List ℕ) → Option Asked
asked_as form.Plain words = option_map Plainly (read_by app plain_in words)
asked_as form.Nested words = option_map Nestedly (read_by pair_app pair_in (drop 1 words))
asked_as form.Harts words = option_map Hartly (read_by pair_app pair_in (drop 1 words))
asked_as form.Curve words = option_map Curved (read_by curve_app curve_in (drop 1 words))

-- What the words ask for; nothing exactly where the command of their form has no matches for them,
-- or, in the plain form, records are to be made beside a script or a trace.
abbrev pub asked : List (List ℕ) → Option Asked
asked words = asked_as (form_of words) words

-- What words of the plain form ask for, as they were read.
abbrev pub plain_of : Plain → AskedPlain
plain_of w = record {
  config = w.config.now;
  script = option_map (λ s. s.now) w.script;
  trace = option_map (λ s. s.now) w.trace;
  made = w.made;
  answers = w.answers;
  image = w.image;
  json = w.json;
}

-- What words of the forms `nested` and `harts` ask for, as they were read.
abbrev pub pair_of : Pair → AskedPair
pair_of w = record { script = w.script.now; trace = w.trace.now; answers = w.answers }

-- What words of the form `curve` ask for, as they were read.
abbrev pub curve_of : CurveWords → AskedCurve
curve_of w = record {
  sets = w.sets;
  config = w.config.now;
  script = option_map (λ s. s.now) w.script;
  trace = option_map (λ s. s.now) w.trace;
}

-- What words ask for, as they were read.
abbrev pub asked_of : Words → Asked
asked_of (words.Plain w) = Plainly (plain_of w)
asked_of (words.Nested w) = Nestedly (pair_of w)
asked_of (words.Harts w) = Hartly (pair_of w)
asked_of (words.Curve w) = Curved (curve_of w)

-- What a reading of the words returns: what they ask for, or that they ask for nothing, or that
-- there is no memory.
abbrev pub Asks : {W A : Type 0} → (W → A) → Result W WordsFault → Option A → Type 0
Asks of (Ok w) read = read ≡ Some (of w)
Asks of (Err fault.Usage) read = read ≡ None
Asks of (Err fault.NoMemory) read = Unit {0}

-- What the matching of the words returns, by why there are no matches, and the matches.
abbrev pub Matches : Kinds → List Row → Result ArgMatches WordsFault → Type 0
Matches kinds rows (Ok m) = (kinds ≡ []) × (rows_of (found_of m) ≡ rows)
Matches kinds rows (Err fault.Usage) = kinds ≡ [] → ⊥
Matches kinds rows (Err fault.NoMemory) = Unit {0}
