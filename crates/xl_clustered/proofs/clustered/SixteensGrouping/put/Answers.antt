use Rattle.xl_clustered.proofs.Common.{◌<◌, subst, sym}
use Rattle.xl_model.proofs.CodeLemmas.{word-some}
use Rattle.xl_clustered.proofs.clustered.SixteensGrouping.put.Goals as goal

pub put-requires-clause-place : goal.put-requires-clause-place
put-requires-clause-place c = (c.slot_of-slot.ensures.below, subst (λ n. 0 < n) (sym c.leaf_word.ensures) (word-some c.args.leaf.frame c.args.leaf.perm))
