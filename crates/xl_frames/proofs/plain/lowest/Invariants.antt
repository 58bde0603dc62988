use Rattle.xl_frames.proofs.Common.{◌*◌, ◌<◌, IsFree, ℕ}
use Rattle.xl_frames.proofs.plain.lowest.Given as goal

abbrev pub invariant-loop-block : goal.invariant-loop-block
invariant-loop-block l = (b : ℕ) → b < l.block → IsFree l.flags (b * l.size) l.size → ⊥
