use Rattle.xl_rack.proofs.Common.{length}
use Rattle.xl_rack.proofs.batch.+serve_side_by_side.Given as goal

abbrev pub decreases-serve_side_by_side : goal.decreases-serve_side_by_side
decreases-serve_side_by_side l = length l.accesses.now
