use Rattle.xl_rack.proofs.Common.{◌∙◌, ap, Served}
use Rattle.xl_rack.proofs.BatchLemmas.{row-stays}
use Rattle.xl_rack.proofs.batch.AccessesWork.serve.Goals as goal

pub returns-clause-row : goal.returns-clause-row
returns-clause-row g c = ap (λ (v : Served). v.row) c.serve_all.ensures ∙ row-stays c.args.self.now.accesses.now c.args.self.now.areas.now c.args.machine.now
