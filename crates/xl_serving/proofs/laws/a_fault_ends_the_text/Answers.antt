use Rattle.xl_serving.proofs.LawLemmas.{a_fault_ends_the_text}
use Rattle.xl_serving.proofs.laws.a_fault_ends_the_text.Goals as goal

pub returns : goal.returns
returns c = a_fault_ends_the_text
