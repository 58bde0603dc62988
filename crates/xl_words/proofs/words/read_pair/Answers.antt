use Rattle.std.proofs.Common.{sym}
use Rattle.std.specs.Prelude.{map, string_bytes, Ok}
use Rattle.xl_words.specs.Words.{pair_of, pair_in}
use Rattle.xl_words.proofs.MatchLemmas.{pair-free, pair-simple, matched_by, refused_by}
use Rattle.xl_words.proofs.words.read_pair.Goals as goal

pub matches-requires : goal.matches-requires
matches-requires c = record { free = pair-free _ c.in_ok-pair_command.ensures; simple = pair-simple _ c.in_ok-pair_command.ensures }

pub returns-in-Err : goal.returns-in-Err
returns-in-Err c = refused_by pair_of pair_in c.in-Err.fault _ _ (map string_bytes c.args.words.now) c.in_ok-pair_command.ensures c.in-Err.ensures

pub returns-in-Ok : goal.returns-in-Ok
returns-in-Ok c =
    matched_by pair_of pair_in (Ok c.pair_matched.result) c.in-Ok.matches _ _ (map string_bytes c.args.words.now) c.in_ok-pair_command.ensures c.in-Ok.ensures
    (sym c.pair_matched.ensures)
