use Rattle.xl_numbers.proofs.LevelLemmas.{stack-top, word-none}
use Rattle.xl_numbers.proofs.bits.drop_number.Goals as goal

pub returns-clause-stack : goal.returns-clause-stack
returns-clause-stack c =
    let a = c.args in
    stack-top a.low.now a.middle.now a.top.now _ a.number c.requires.stack c.requires.there c.drop_bit.ensures.put (word-none _ _ c.drop_bit.ensures.empty c.if-not-drop_bit.false)
    _ c.drop_bit-2.ensures.put (word-none _ _ c.drop_bit-2.ensures.empty c.if-not-drop_bit-2.false) _ c.drop_bit-3.ensures.put
