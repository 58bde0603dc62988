use Rattle.std.proofs.Common.{◌∙◌}
use Rattle.std.specs.Prelude.{map, string_bytes}
use Rattle.clap.specs.Words.{app_of}
use Rattle.xl_words.proofs.MatchLemmas.{some_refused}
use Rattle.xl_words.proofs.words.matches.Goals as goal

pub returns-in-Ok : goal.returns-in-Ok
returns-in-Ok c = (c.in-Ok.ensures.kinds c.requires.free, (c.in-Ok.ensures.matches c.requires.simple).0)

pub returns : goal.returns
returns c = some_refused (app_of c.args.command) (map string_bytes c.args.words.now) _ c.requires.free (λ memory. c.in_default.not-OutOfMemory (c.kind.ensures ∙ memory)) c.in-Err.ensures.kinds
