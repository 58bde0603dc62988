use Rattle.xl_serving.proofs.Common.{◌∙◌, ap, arith, Command, Some, step_of}
use Rattle.xl_serving.proofs.PlainLemmas.{length-steps, nth-step, own-step}
use Rattle.xl_serving.proofs.plain.PlainOrdersOrders.step.Goals as goal

pub command-requires : goal.command-requires
command-requires c = let e = length-steps c.args.self.now.script.now in let h = c.requires in omega (arith, e, h)

pub returns-in-Run : goal.returns-in-Run
returns-in-Run c = nth-step c.args.self.now.script.now c.args.i c.command.result c.command.ensures.value ∙ ap (λ (z : Command). Some (step_of z)) c.in-Run.is

pub returns-in-RunRest : goal.returns-in-RunRest
returns-in-RunRest c = nth-step c.args.self.now.script.now c.args.i c.command.result c.command.ensures.value ∙ ap (λ (z : Command). Some (step_of z)) c.in-RunRest.is

pub returns-in_default : goal.returns-in_default
returns-in_default c = nth-step c.args.self.now.script.now c.args.i c.command.result c.command.ensures.value ∙ ap Some (own-step c.command.result c.in_default.not-Run c.in_default.not-RunRest)
