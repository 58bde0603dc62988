use Rattle.xl_harting.proofs.Common.{◌∙◌}
use Rattle.xl_harting.proofs.EventLemmas.{accesses-served}
use Rattle.xl_harting.proofs.events.serve_accesses.Goals as goal

pub returns : goal.returns
returns c = c.serve_accesses.ensures.after ∙ accesses-served c.args.accesses.now c.args.harts.now
