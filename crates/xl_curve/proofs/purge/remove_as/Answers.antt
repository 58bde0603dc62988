use Rattle.xl_curve.proofs.Common.{covers_as}
use Rattle.xl_curve.proofs.SetLemmas.{covering_removed, removed_kept}
use Rattle.xl_curve.proofs.purge.remove_as.Goals as goal

pub returns : goal.returns
returns c =
    let is = covering_removed c.args.stacks.now c.remove_covering_in.new.stacks c.set_of-set.result c.args.space c.args.page c.args.order c.requires
    c.set_of-set.ensures.value c.remove_covering_in.ensures.is in
    record { removed = is; kept = removed_kept c.args.stacks.now c.remove_covering_in.new.stacks (covers_as c.args.space c.args.page c.args.order) c.requires is }
