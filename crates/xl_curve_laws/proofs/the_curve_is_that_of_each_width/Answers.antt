use Rattle.xl_curve_laws.proofs.CurveLawLemmas.{the_curve_is_that_of_each_width}
use Rattle.xl_curve_laws.proofs.the_curve_is_that_of_each_width.Goals as goal

pub returns : goal.returns
returns c = the_curve_is_that_of_each_width
