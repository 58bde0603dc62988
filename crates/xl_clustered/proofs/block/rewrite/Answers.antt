use Rattle.xl_clustered.proofs.Common.{◌∙◌, ap, arith, is_entry, list_any, lit<}
use Rattle.xl_clustered.proofs.BlockLemmas.{any-set}
use Rattle.xl_clustered.proofs.block.rewrite.Goals as goal

pub set_value-requires-2 : goal.set_value-requires-2
set_value-requires-2 c =
    (lit< tt, (ap (list_any (is_entry c.args.entry)) c.set_value.ensures.held ∙ any-set c.args.entry 0 c.args.used c.args.chains.now.held ∙ c.requires.held, omega (arith, c.requires.slot)))
