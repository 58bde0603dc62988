use Rattle.xl_serving.proofs.LawLemmas.{the_text_is_the_report}
use Rattle.xl_serving.proofs.laws.the_text_is_the_report.Goals as goal

pub returns : goal.returns
returns c = the_text_is_the_report
