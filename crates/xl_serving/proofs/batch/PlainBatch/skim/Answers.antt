use Rattle.xl_serving.proofs.SkimLemmas.{deferred-skimmed}
use Rattle.xl_serving.proofs.batch.PlainBatch.skim.Goals as goal

pub returns-clause-skims : goal.returns-clause-skims
returns-clause-skims g c file h =
    let w = c.self.inside in
    rw (← c.self.view_is) (deferred-skimmed _ _ _ w.accesses.items c.skim.new.into.items w.events.items c.skim.result c.self.invariant.1 (c.skim.ensures.skims file h))
