use Rattle.xl_serving.proofs.Common.{at_end, None}
use Rattle.xl_serving.proofs.SkimLemmas.{skims-none}
use Rattle.xl_serving.proofs.trace.NoTraceSource.skim.Goals as goal

pub returns-clause-skims : goal.returns-clause-skims
returns-clause-skims c file h = skims-none (Unit {0}) (at_end None) c.args._into.now.items h
