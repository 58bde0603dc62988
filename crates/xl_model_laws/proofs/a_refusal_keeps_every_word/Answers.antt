use Rattle.xl_model_laws.proofs.WayLemmas.{a_refusal_keeps_every_word}
use Rattle.xl_model_laws.proofs.a_refusal_keeps_every_word.Goals as goal

pub returns : goal.returns
returns c = a_refusal_keeps_every_word
