use Rattle.std.proofs.Common.{◌<◌, ◌∙◌, ◌∷◌, ◌≡◌, ◌≤◌, ◌⊎◌, [], ap, arith, Bool, false, inl, List, map, refl, subst, sym, true, ℕ}
use Rattle.std.specs.Option.{IfSome}
use Rattle.std.specs.Prelude.{if◌then◌else◌, codes, drop, Err, None, Option, option_map, Some, string_bytes, unwrap_or}
use Rattle.std.specs.Str.Parse.{digits_value, without_leading_plus}
use Rattle.clap.proofs.ValueTestLemmas.{accepts-Accepts}
use Rattle.clap.specs.ValueTests.{is_unsigned_in}
use Rattle.clap.specs.Words.{fault_of, first_of, Kinds, matches_of, Row}
use Rattle.xl_course.proofs.KnownLemmas.{known_one}
use Rattle.xl_course.specs.Accounts.{Ends, SaysOfWords}
use Rattle.xl_course.specs.Stops.{status_at}
use Rattle.xl_curving.specs.Curving.{curve_account, curve_rows}
use Rattle.xl_serving.specs.Inputs.{of_words_fault}
use Rattle.xl_serving.specs.Plain.{plain_account, plain_rows}
use Rattle.xl_words.specs.Words.{Asked, asked, asked_as, asked_of, AskedCurve, AskedPair, AskedPlain, Asks, curve_app, curve_in, curve_of, curve_with, Curved, form_of, Hartly, Nestedly, number_of, plain_of, Plainly, read_where, sets_by}
use Rattle.xl_words.specs.declared.words.Form.{Form}
use Rattle.xl_words.specs.declared.words.WordsFault.{WordsFault}
use Rattle.xl_bench.proofs.MachineLemmas.{harts_unserved, nested_unserved, none_unserved, rows_early, rows_left, rows_unserved}
use Rattle.xl_bench.specs.Accounts.{account_of, asked_account, asked_machines, is_asked_late, machines_left}
use Rattle.xl_bench.specs.Machines.{IsUnserved}
use Rattle.xl_bench.specs.contracts.machines.Machines.{the_view}
use Rattle.clap.specs.declared.builder.value_parser.ValueParser.TheVariants as parser
use Rattle.xl_words.specs.declared.words.Form.TheVariants as form
use Rattle.xl_words.specs.declared.words.WordsFault.TheVariants as words
use Rattle.xl_bench.proofs.bench.report_of.Goals as goal

-- Words that are refused, and the number of sets of a curve.
words_refused : (f : WordsFault) (a : Option Asked) → Asks asked_of (Err f) a → SaysOfWords (status_at (of_words_fault f)) a
words_refused words.Usage a h = h
words_refused words.NoMemory a h = tt

-- A number of sets within its limits.
abbrev IsFew : ℕ → Type 0
IsFew n = (0 < n) × (n ≤ 256)

few-by : (text : List ℕ) (n : ℕ) (b : Bool) → is_unsigned_in 1 256 text ≡ b → (if b then Some (digits_value 10 (without_leading_plus text)) else None) ≡ Some n → IsFew n
few-by text n true e h =
    let a = accepts-Accepts false (parser.Unsigned 1 256) text e in
    let same : digits_value 10 (without_leading_plus text) ≡ n = ap (λ (o : Option ℕ). unwrap_or o 0) h in
    let low = a.2 in
    let high = a.3 in
    (omega arith, omega arith)
few-by text n false e h = cc

sets_asked : Option AskedCurve → ℕ
sets_asked None = 0
sets_asked (Some a) = a.sets

few-with : (rows : List Row) (a : AskedCurve) (text : List ℕ) (m : Option ℕ) → number_of 256 text ≡ m → option_map (curve_with rows) m ≡ Some a → IsFew a.sets
unfolding sets_asked
few-with rows a text None e h = cc
few-with rows a text (Some n) e h =
    let same : n ≡ a.sets = ap sets_asked h in
    let few = few-by text n (is_unsigned_in 1 256 text) refl e in
    let low = few.0 in
    let high = few.1 in
    (omega arith, omega arith)

few-given : (rows : List Row) (a : AskedCurve) (text : Option (List ℕ)) → option_map (curve_with rows) (sets_by text) ≡ Some a → IsFew a.sets
few-given rows a None h = cc
few-given rows a (Some text) h = few-with rows a text (number_of 256 text) refl h

few-read : (kinds : Kinds) (rows : List Row) (a : AskedCurve) → read_where kinds (curve_in rows) ≡ Some a → IsFew a.sets
few-read [] rows a h = few-given rows a (first_of (codes "sets") rows) h
few-read (k ∷ kinds) rows a h = cc

curve_asked : Option Asked → Option AskedCurve
curve_asked None = None
curve_asked (Some (Plainly a)) = None
curve_asked (Some (Nestedly a)) = None
curve_asked (Some (Hartly a)) = None
curve_asked (Some (Curved a)) = Some a

asked-curve : (x : Option AskedCurve) → curve_asked (option_map Curved x) ≡ x
unfolding curve_asked
asked-curve None = refl
asked-curve (Some a) = refl

no-plain : (x : Option AskedPlain) (a : AskedCurve) → option_map Plainly x ≡ Some (Curved a) → ⊥
no-plain None a h = cc
no-plain (Some p) a h = cc

no-pair : (asked : AskedPair → Asked) → ((p : AskedPair) (a : AskedCurve) → asked p ≡ Curved a → ⊥) → (x : Option AskedPair) (a : AskedCurve) → option_map asked x ≡ Some (Curved a) → ⊥
no-pair asked not None a h = cc
no-pair asked not (Some p) a h = not p a cc

few-as : (f : Form) (ws : List (List ℕ)) (a : AskedCurve) → asked_as f ws ≡ Some (Curved a) → IsFew a.sets
unfolding curve_asked
few-as form.Plain ws a h = absurd (no-plain _ a h)
few-as form.Nested ws a h = absurd (no-pair Nestedly (λ p b e. cc) _ a h)
few-as form.Harts ws a h = absurd (no-pair Hartly (λ p b e. cc) _ a h)
few-as form.Curve ws a h =
    few-read (fault_of curve_app (drop 1 ws)) (matches_of curve_app (drop 1 ws)) a (sym (asked-curve _) ∙ ap curve_asked h)

-- the sets of a curve that words ask for
few_sets : (ws : List (List ℕ)) (a : AskedCurve) → asked ws ≡ Some (Curved a) → IsFew a.sets
few_sets ws a h = few-as (form_of ws) ws a h

pub report-requires-in-Ok-Curve-clause-some : goal.report-requires-in-Ok-Curve-clause-some
report-requires-in-Ok-Curve-clause-some g c =
    (few_sets (map string_bytes c.args.words.now.items) (curve_of c.in-Ok-Curve.words) (rw (c.as_slice.ensures.value, c.in-Ok-Curve.field-0-is) at c.in-Ok-Curve.ensures)).0

pub report-requires-in-Ok-Curve-clause-most : goal.report-requires-in-Ok-Curve-clause-most
report-requires-in-Ok-Curve-clause-most g c =
    (few_sets (map string_bytes c.args.words.now.items) (curve_of c.in-Ok-Curve.words) (rw (c.as_slice.ensures.value, c.in-Ok-Curve.field-0-is) at c.in-Ok-Curve.ensures)).1

pub returns-in-Ok-Plain-clause-known : goal.returns-in-Ok-Plain-clause-known
unfolding account_of machines_left
returns-in-Ok-Plain-clause-known g c =
    let out = c.args.out.now in
    let new = c.report.new.out in
    let a = plain_of c.in-Ok-Plain.words in
    known_one (g.F.Folder.folder.files c.args.folder.now) _ _ c.report.ensures.known
    (λ fs h. subst (λ (z : Option Asked). Ends c.report.result (asked_account z fs) g.K.Sink.sink.roomy (g.K.Sink.sink.outside out).written (g.K.Sink.sink.outside new).written out new
    (record (the_view c.machines.inside) { rows = c.report.new.rows } ≡ asked_machines z fs))
    (sym (rw (c.as_slice.ensures.value, c.in-Ok-Plain.field-0-is) at c.in-Ok-Plain.ensures))
    (rows_left c.report.result (plain_account a fs) g.K.Sink.sink.roomy (g.K.Sink.sink.outside out).written (g.K.Sink.sink.outside new).written out new (the_view c.machines.inside) c.report.new.rows (plain_rows a fs) (c.machines.view_is ∙ c.requires.none) h))

pub returns-in-Ok-Curve-clause-known : goal.returns-in-Ok-Curve-clause-known
unfolding account_of machines_left
returns-in-Ok-Curve-clause-known g c =
    let out = c.args.out.now in
    let new = c.report-in-Ok-Curve.new.out in
    let a = curve_of c.in-Ok-Curve.words in
    known_one (g.F.Folder.folder.files c.args.folder.now) _ _ c.report-in-Ok-Curve.ensures.known
    (λ fs h. subst (λ (z : Option Asked). Ends c.report-in-Ok-Curve.result (asked_account z fs) g.K.Sink.sink.roomy (g.K.Sink.sink.outside out).written (g.K.Sink.sink.outside new).written out new
    (record (the_view c.machines.inside) { rows = c.report-in-Ok-Curve.new.rows } ≡ asked_machines z fs))
    (sym (rw (c.as_slice.ensures.value, c.in-Ok-Curve.field-0-is) at c.in-Ok-Curve.ensures))
    (rows_left c.report-in-Ok-Curve.result (curve_account a fs) g.K.Sink.sink.roomy (g.K.Sink.sink.outside out).written (g.K.Sink.sink.outside new).written out new (the_view c.machines.inside) c.report-in-Ok-Curve.new.rows (curve_rows a fs) (c.machines.view_is ∙ c.requires.none) h))

pub returns-in-Err-clause-usage : goal.returns-in-Err-clause-usage
returns-in-Err-clause-usage g c =
    rw c.words_stop.ensures (words_refused c.in-Err.fault _ (rw c.as_slice.ensures.value at c.in-Err.ensures))

pub returns-in-Ok-Plain-clause-early : goal.returns-in-Ok-Plain-clause-early
unfolding machines_left
returns-in-Ok-Plain-clause-early g c e =
    let a = plain_of c.in-Ok-Plain.words in
    let files = g.F.Folder.folder.files c.args.folder.now in
    let left = record (the_view c.machines.inside) { rows = c.report.new.rows } in
    subst (λ (z : Option Asked). IsUnserved left ⊎ ((is_asked_late z ≡ true) × IfSome files (λ fs. left ≡ asked_machines z fs)))
    (sym (rw (c.as_slice.ensures.value, c.in-Ok-Plain.field-0-is) at c.in-Ok-Plain.ensures))
    (rows_early (the_view c.machines.inside) c.report.new.rows (a.json ≡ true) files (plain_rows a) (c.machines.view_is ∙ c.requires.none) (c.report.ensures.early e))

pub returns-in-Ok-Curve-clause-early : goal.returns-in-Ok-Curve-clause-early
returns-in-Ok-Curve-clause-early g c e =
    inl (rows_unserved (the_view c.machines.inside) c.report-in-Ok-Curve.new.rows (c.machines.view_is ∙ c.requires.none) (c.report-in-Ok-Curve.ensures.early e))

pub returns-in-Ok-Nested-clause-early : goal.returns-in-Ok-Nested-clause-early
returns-in-Ok-Nested-clause-early g c e =
    inl (nested_unserved (the_view c.machines.inside) c.report-in-Ok-Nested.new.nested (c.machines.view_is ∙ c.requires.none) (c.report-in-Ok-Nested.ensures.early e))

pub returns-in-Ok-Harts-clause-early : goal.returns-in-Ok-Harts-clause-early
returns-in-Ok-Harts-clause-early g c e =
    inl (harts_unserved (the_view c.machines.inside) c.report-in-Ok-Harts.new.harts (c.machines.view_is ∙ c.requires.none) (c.report-in-Ok-Harts.ensures.early e))

pub returns-in-Err-clause-early : goal.returns-in-Err-clause-early
returns-in-Err-clause-early g c e = inl (none_unserved c.args.machines.now c.requires.none)
