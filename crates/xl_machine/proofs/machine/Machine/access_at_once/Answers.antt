use Rattle.xl_machine.proofs.Common.{◌/◌}
use Rattle.xl_machine.proofs.machine.Machine.access_at_once.Goals as goal

pub returns-in-Some-clause-done : goal.returns-in-Some-clause-done
returns-in-Some-clause-done g c = λ on. record { frame = (c.in-Some._word / 16, c.in-Some.ensures.some.reply_is); after = c.in-Some.ensures.some.after }

pub returns-in-None-clause-not : goal.returns-in-None-clause-not
returns-in-None-clause-not g c = λ off. c.in-None.ensures.none
