use Rattle.xl_numbers.proofs.LevelLemmas.{first-below}
use Rattle.xl_numbers.proofs.bits.lowest.Goals as goal

pub first_bit-word-requires-clause-first : goal.first_bit-word-requires-clause-first
first_bit-word-requires-clause-first c = first-below c.args.middle.now c.args.top.now c.first_bit-part.result c.requires.middle_is c.first_bit-part.ensures

pub first_bit-requires-clause-first : goal.first_bit-requires-clause-first
first_bit-requires-clause-first c = first-below c.args.low.now c.args.middle.now c.first_bit-word.result c.requires.low_is c.first_bit-word.ensures
