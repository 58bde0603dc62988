use Rattle.xl_serving.proofs.Common.{arith, refl, rules}
use Rattle.xl_serving.proofs.SkimLemmas.{no-fewer, skims-made}
use Rattle.xl_serving.proofs.made.MadeTapeSource.skim.Goals as goal

pub returns-clause-skims : goal.returns-clause-skims
returns-clause-skims c file h = rw (← c.self.view_is) (
    skims-made _ _ c.args.into.now.items c.skim-taken.new.into.items c.skim-taken.result (c.skim-taken.ensures.takes c.self.inside.given (search rules)) refl)

pub returns-clause-no_fewer : goal.returns-clause-no_fewer
returns-clause-no_fewer c =
    let k = c.skim-taken.ensures.takes 0 (omega arith) in no-fewer c.args.into.now.items c.skim-taken.new.into.items k.of.got k.of.follow
