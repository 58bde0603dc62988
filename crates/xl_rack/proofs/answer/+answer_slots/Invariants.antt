use Rattle.xl_rack.proofs.Common.{length}
use Rattle.xl_rack.proofs.answer.+answer_slots.Given as goal

abbrev pub decreases-answer_slots : goal.decreases-answer_slots
decreases-answer_slots g l = length l.slots.now
