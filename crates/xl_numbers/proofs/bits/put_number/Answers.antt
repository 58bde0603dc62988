use Rattle.xl_numbers.proofs.LevelLemmas.{stack-raised}
use Rattle.xl_numbers.proofs.bits.put_number.Goals as goal

pub returns-clause-stack : goal.returns-clause-stack
returns-clause-stack c = stack-raised c.args.low.now c.args.middle.now c.args.top.now _ _ _ c.args.number c.requires.stack c.raise_bit.ensures c.raise_bit-2.ensures c.raise_bit-3.ensures
