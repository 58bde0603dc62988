use Rattle.xl_numbers.proofs.Common.{rules}
use Rattle.xl_numbers.proofs.LevelLemmas.{stack-emptied, stack-left, stack-some, word-none, word-some}
use Rattle.xl_numbers.proofs.bits.put_word.Goals as goal

pub returns-then-word-ne0-clause-stack : goal.returns-then-word-ne0-clause-stack
returns-then-word-ne0-clause-stack c =
    let a = c.args in
    stack-some a.low.now a.middle.now a.top.now _ _ _ a.at a.word c.requires.stack c.write_word.ensures (search rules) c.raise_bit.ensures c.raise_bit-then-word-ne0.ensures

pub returns-then-drop_bit-clause-stack : goal.returns-then-drop_bit-clause-stack
returns-then-drop_bit-clause-stack c =
    let a = c.args in
    stack-emptied a.low.now a.middle.now a.top.now _ _ _ a.at a.word c.requires.stack c.write_word.ensures (search rules) c.drop_bit.ensures.put (word-none _ _ c.drop_bit.ensures.empty c.if-drop_bit.true) c.drop_bit-then-drop_bit.ensures.put

pub returns-else-drop_bit-clause-stack : goal.returns-else-drop_bit-clause-stack
returns-else-drop_bit-clause-stack c =
    let a = c.args in
    stack-left a.low.now a.middle.now a.top.now _ _ _ a.at a.word c.requires.stack c.write_word.ensures (search rules) c.drop_bit.ensures.put (word-some _ _ c.drop_bit.ensures.empty c.if-drop_bit.false) c.raise_bit-else-drop_bit.ensures
