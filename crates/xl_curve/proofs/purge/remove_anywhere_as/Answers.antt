use Rattle.xl_curve.proofs.Common.{covers_anywhere_as}
use Rattle.xl_curve.proofs.SetLemmas.{anywhere_removed, removed_kept}
use Rattle.xl_curve.proofs.purge.remove_anywhere_as.Goals as goal

pub returns : goal.returns
returns c =
    let is = anywhere_removed c.args.stacks.now c.remove_anywhere_in.new.stacks c.set_of-set.result c.args.page c.args.order c.requires
    c.set_of-set.ensures.value c.remove_anywhere_in.ensures.is in
    record { removed = is; kept = removed_kept c.args.stacks.now c.remove_anywhere_in.new.stacks (covers_anywhere_as c.args.page c.args.order) c.requires is }
