use Rattle.xl_tagged.proofs.WholeLemmas.{fence-step}
use Rattle.xl_tagged.proofs.grouped.GroupedStructure.fence.Goals as goal

pub returns : goal.returns
returns g c = record { fences = fence-step g.G.Chains.Slots.form c.args._to c.args.self.now }
