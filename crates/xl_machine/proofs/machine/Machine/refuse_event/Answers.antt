use Rattle.xl_machine.proofs.Common.{row_of}
use Rattle.xl_machine.proofs.StepLemmas.{refusal-counted}
use Rattle.xl_machine.proofs.machine.Machine.refuse_event.Goals as goal

pub returns-clause-after : goal.returns-clause-after
returns-clause-after g c =
    rw (c.refuse.ensures, ← c.self.view_is) (refusal-counted (row_of c.self.inside.row) (g.S.Structure.table c.self.inside.table) c.self.inside.space c.self.inside.tlb c.self.inside.counts c.args.refusal)
