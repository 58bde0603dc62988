use Rattle.std.specs.Prelude.{map, string_bytes}
use Rattle.xl_words.specs.Words.{plain_of, plain_in}
use Rattle.xl_words.proofs.MatchLemmas.{plain-free, plain-simple, matched_by, refused_by}
use Rattle.xl_words.proofs.words.read_plain.Goals as goal

pub matches-requires : goal.matches-requires
matches-requires c = record { free = plain-free _ c.in_ok-command.ensures; simple = plain-simple _ c.in_ok-command.ensures }

pub returns-in-Err : goal.returns-in-Err
returns-in-Err c = refused_by plain_of plain_in c.in-Err.fault _ _ (map string_bytes c.args.words.now) c.in_ok-command.ensures c.in-Err.ensures

pub returns-in-Ok : goal.returns-in-Ok
returns-in-Ok c =
    matched_by plain_of plain_in c.plain_matched.result c.in-Ok.matches _ _ (map string_bytes c.args.words.now) c.in_ok-command.ensures c.in-Ok.ensures
    c.plain_matched.ensures
