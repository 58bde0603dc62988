use Rattle.xl_serving.proofs.Common.{[]}
use Rattle.xl_serving.proofs.opening.open.Goals as goal

pub returns-in_err-designs-clause-opening : goal.returns-in_err-designs-clause-opening
returns-in_err-designs-clause-opening g c = ([], c.requires)

pub returns-in_err-script-clause-opening : goal.returns-in_err-script-clause-opening
returns-in_err-script-clause-opening g c = ([], c.requires)
