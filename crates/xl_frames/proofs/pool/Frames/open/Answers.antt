use Rattle.xl_frames.proofs.SetLemmas.{kept_open}
use Rattle.xl_frames.proofs.pool.Frames.open.Goals as goal

pub invariant_of-result : goal.invariant_of-result
invariant_of-result c = record { kept = kept_open _ _ _ c.args.n c.requires.limit c.in_ok-frames.ensures c.in_ok-blocks.ensures c.in_ok-parts.ensures }
