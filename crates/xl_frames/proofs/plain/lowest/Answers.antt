use Rattle.xl_frames.proofs.Common.{length}
use Rattle.xl_frames.proofs.BlockLemmas.{block_fits, lowest_found}
use Rattle.xl_frames.proofs.plain.lowest.Goals as goal

pub returns-then-all_free-clause-some : goal.returns-then-all_free-clause-some
returns-then-all_free-clause-some c =
    lowest_found c.args.flags.now c.loop-block.block c.args.size
    (block_fits c.loop-block.block c.args.size (length c.args.flags.now) c.loop-block-test.true)
    (c.all_free.ensures.0 c.if-all_free.true) c.loop-block.invariant
