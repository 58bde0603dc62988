use Rattle.xl_model_laws.proofs.SentenceLemmas.{a_node_takes_the_lowest_number}
use Rattle.xl_model_laws.proofs.a_node_takes_the_lowest_number.Goals as goal

pub returns : goal.returns
returns c = a_node_takes_the_lowest_number
