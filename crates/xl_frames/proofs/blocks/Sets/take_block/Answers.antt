use Rattle.xl_frames.proofs.SetLemmas.{block_taken}
use Rattle.xl_frames.proofs.blocks.Sets.take_block.Goals as goal

pub invariant_of-self : goal.invariant_of-self
invariant_of-self c = record { kept = block_taken c.args.self.now.kept c.in-Some.block c.in-Some.ensures.lowest.within c.mark_words.ensures c.in-Some.ensures.taken c.withdraw.ensures }
