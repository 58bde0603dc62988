use Rattle.xl_harting.proofs.Common.{◌∷◌, [], All, All-cons, All-head, All-nil, All-tail, HartCommand, IsReady, List, map, step_of}
use Rattle.xl_course.specs.Courses.{commands_of}
use Rattle.xl_hart_script.specs.declared.command.HartCommand.TheVariants as command
use Rattle.xl_harting.proofs.orders.HartOrders.fit.Goals as goal

-- what holds of a script's commands holds of those of its steps
ready_steps : (cs : List HartCommand) → All IsReady cs → All IsReady (commands_of (map step_of cs))
ready_steps [] h = All-nil IsReady
ready_steps (command.Events first n ∷ cs) h =
    All-cons IsReady (command.Events first n) (commands_of (map step_of cs)) (All-head IsReady (command.Events first n) cs h) (ready_steps cs (All-tail IsReady (command.Events first n) cs h))
ready_steps (command.Run n ∷ cs) h = ready_steps cs (All-tail IsReady (command.Run n) cs h)
ready_steps (command.RunRest ∷ cs) h = ready_steps cs (All-tail IsReady command.RunRest cs h)

pub returns : goal.returns
returns c = ready_steps c.args.self.now.script.now.commands c.len-len.ensures.ready
