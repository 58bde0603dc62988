use Rattle.xl_curve.proofs.SetLemmas.{named_removed}
use Rattle.xl_curve.proofs.purge.remove_named.Goals as goal

pub returns : goal.returns
returns c =
    named_removed c.args.stacks.now c.remove_named_in.new.stacks c.set_of-set.result c.args.space c.args.first c.args.order c.requires
    c.set_of-set.ensures.value c.remove_named_in.ensures.is
