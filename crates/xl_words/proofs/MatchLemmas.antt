-- What a parse of a simple command says of the words.
use Rattle.std.proofs.Common.{◌≡◌, ℕ, List, [], ◌∷◌, true, refl, ap, subst, sym, ◌∙◌, inl, inr}
use Rattle.std.specs.Prelude.{◌⊎◌, Option, Result, Ok, Err}
use Rattle.clap.specs.Faults.{fault_of, is_simple_and_free}
use Rattle.clap.specs.Simple.{App, is_simple, matches_of}
use Rattle.clap.specs.Walk.{Row}
use Rattle.clap.specs.Words.{found_of, rows_of}
use Rattle.clap.specs.declared.parser.matches.ArgMatches.{ArgMatches}
use Rattle.clap.specs.Kinds.{Kinds, IsAmong}
use Rattle.clap.specs.declared.error.kind.ErrorKind.{ErrorKind}
use Rattle.clap.specs.declared.error.kind.ErrorKind.TheVariants as kind
use Rattle.xl_words.specs.declared.words.WordsFault.{WordsFault}
use Rattle.xl_words.specs.declared.words.WordsFault.TheVariants as fault
use Rattle.xl_words.specs.Words.{app, file_app, pair_app, curve_app, Asks, Matches, read_where, read_by}

pub plain-free : (c : App) → c ≡ app → is_simple_and_free c ≡ true
unfolding app file_app
plain-free c e = ap is_simple_and_free e ∙ refl

pub plain-simple : (c : App) → c ≡ app → is_simple c ≡ true
unfolding app file_app
plain-simple c e = ap is_simple e ∙ refl

pub pair-free : (c : App) → c ≡ pair_app → is_simple_and_free c ≡ true
unfolding pair_app
pair-free c e = ap is_simple_and_free e ∙ refl

pub pair-simple : (c : App) → c ≡ pair_app → is_simple c ≡ true
unfolding pair_app
pair-simple c e = ap is_simple e ∙ refl

pub curve-free : (c : App) → c ≡ curve_app → is_simple_and_free c ≡ true
unfolding curve_app file_app
curve-free c e = ap is_simple_and_free e ∙ refl

pub curve-simple : (c : App) → c ≡ curve_app → is_simple c ≡ true
unfolding curve_app file_app
curve-simple c e = ap is_simple e ∙ refl

-- what is among some kinds is not among none
none_among : (k : ErrorKind) (kinds : Kinds) → IsAmong k kinds → kinds ≡ [] → ⊥
none_among k [] among e = among
none_among k (x ∷ xs) among e = cc

pub some_refused : (c : App) (words : List (List ℕ)) (k : ErrorKind) → is_simple_and_free c ≡ true → (k ≡ kind.OutOfMemory → ⊥)
    → (is_simple_and_free c ≡ true → (k ≡ kind.OutOfMemory) ⊎ IsAmong k (fault_of c words)) → fault_of c words ≡ [] → ⊥
some_refused c words k free not h none = elim (h free) [
  | inl memory ↦ not memory
  | inr among ↦ none_among k (fault_of c words) among none
]

-- where the command has no matches, nothing is asked for
refused : {W A : Type 0} (of : W → A) (f : WordsFault) (kinds : Kinds) (rows : List Row) (got : Option A) → Matches kinds rows (Err f) → Asks of (Err f) (read_where kinds got)
refused of fault.NoMemory kinds rows got h = tt
refused of fault.Usage [] rows got h = absurd (h refl)
refused of fault.Usage (k ∷ kinds) rows got h = refl

pub refused_by : {W A : Type 0} (of : W → A) (in' : List Row → Option A) (f : WordsFault) (c a : App) (words : List (List ℕ)) → c ≡ a → Matches (fault_of c words) (matches_of c words) (Err f)
    → Asks of (Err f) (read_by a in' words)
refused_by of in' f c a words e h =
    subst (λ (b : App). Asks of (Err f) (read_by b in' words)) e (refused of f (fault_of c words) (matches_of c words) (in' (matches_of c words)) h)

-- where the command has matches, what they ask for is asked for
matched : {W A : Type 0} (of : W → A) (kinds : Kinds) (got : Option A) (r : Result W WordsFault) → kinds ≡ [] → Asks of r got → Asks of r (read_where kinds got)
matched of kinds got r e h = subst (λ (ks : Kinds). Asks of r (read_where ks got)) (sym e) h

pub matched_by : {W A : Type 0} (of : W → A) (in' : List Row → Option A) (r : Result W WordsFault) (m : ArgMatches) (c a : App) (words : List (List ℕ)) → c ≡ a
    → Matches (fault_of c words) (matches_of c words) (Ok m) → Asks of r (in' (rows_of (found_of m))) → Asks of r (read_by a in' words)
matched_by of in' r m c a words e h asks =
    subst (λ (b : App). Asks of r (read_by b in' words)) e (matched of (fault_of c words) (in' (matches_of c words)) r h.0
    (subst (λ (rows : List Row). Asks of r (in' rows)) h.1 asks))
