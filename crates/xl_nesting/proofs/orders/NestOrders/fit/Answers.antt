use Rattle.xl_nesting.proofs.ScriptLemmas.{placed-steps}
use Rattle.xl_nesting.proofs.orders.NestOrders.fit.Goals as goal

pub returns : goal.returns
returns c = placed-steps c.args.self.now.script.now.commands c.len-len.ensures.ready
