use Rattle.xl_nested.proofs.LawLemmas.{event-laws}
use Rattle.xl_nested.proofs.WalkLemmas.{access-after, access-outcome}
use Rattle.xl_nested.proofs.nested.Nested.step.Goals as goal

pub returns-in-Access-clause-outcome : goal.returns-in-Access-clause-outcome
returns-in-Access-clause-outcome c = access-outcome c.args.event c.in-Access.va c.in-Access.kind c.args.self.now c.access.result c.in-Access.is c.access.ensures.reply

pub returns-in-Access-clause-after : goal.returns-in-Access-clause-after
returns-in-Access-clause-after c = access-after c.args.event c.in-Access.va c.in-Access.kind c.args.self.now c.access.new.self c.in-Access.is c.access.ensures.after

pub returns-in-Access-clause-laws : goal.returns-in-Access-clause-laws
returns-in-Access-clause-laws c = event-laws c.args.event c.in-Access.va c.in-Access.kind c.access.result c.args.self.now c.access.new.self c.in-Access.is c.access.ensures.laws
