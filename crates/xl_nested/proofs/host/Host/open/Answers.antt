use Rattle.xl_nested.proofs.HostLemmas.{opening-host}
use Rattle.xl_nested.proofs.host.Host.open.Goals as goal

pub invariant_of-result : goal.invariant_of-result
invariant_of-result c = rw (c.in_ok-stage.ensures, c.in_ok-frames.ensures, c.in_ok-cache.ensures) (opening-host c.args.frames c.args.nodes c.args.width c.requires.frames.1)
