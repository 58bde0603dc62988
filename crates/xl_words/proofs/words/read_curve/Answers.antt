use Rattle.std.specs.Prelude.{map, string_bytes}
use Rattle.xl_words.specs.Words.{curve_of, curve_in}
use Rattle.xl_words.proofs.MatchLemmas.{curve-free, curve-simple, matched_by, refused_by}
use Rattle.xl_words.proofs.words.read_curve.Goals as goal

pub matches-requires : goal.matches-requires
matches-requires c = record { free = curve-free _ c.in_ok-curve_command.ensures; simple = curve-simple _ c.in_ok-curve_command.ensures }

pub returns-in-Err : goal.returns-in-Err
returns-in-Err c = refused_by curve_of curve_in c.in-Err.fault _ _ (map string_bytes c.args.words.now) c.in_ok-curve_command.ensures c.in-Err.ensures

pub returns-in-Ok : goal.returns-in-Ok
returns-in-Ok c =
    matched_by curve_of curve_in c.curve_matched.result c.in-Ok.matches _ _ (map string_bytes c.args.words.now) c.in_ok-curve_command.ensures c.in-Ok.ensures
    c.curve_matched.ensures
