use Rattle.xl_serving.proofs.Common.{IsFedFrom, refl, rules, subst, sym}
use Rattle.xl_serving.proofs.SkimLemmas.{no-fewer, skims-file}
use Rattle.xl_serving.proofs.tape.Tape.skim.Goals as goal

pub returns-clause-skims : goal.returns-clause-skims
returns-clause-skims c file h = rw (← c.self.view_is) (
    skims-file file _ _ c.args.into.now.items c.skim-taken.new.into.items c.skim-taken.result (search rules) c.skim-taken.ensures.skims refl
    refl
    (subst (λ p. IsFedFrom file p) (sym c.self.view_is) h))

pub returns-clause-no_fewer : goal.returns-clause-no_fewer
returns-clause-no_fewer c =
    let k = c.skim-taken.ensures.skims in no-fewer c.args.into.now.items c.skim-taken.new.into.items k.of.got k.of.follow
