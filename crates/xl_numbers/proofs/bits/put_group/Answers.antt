use Rattle.xl_numbers.proofs.Common.{refl, rules}
use Rattle.xl_numbers.proofs.LevelLemmas.{stack-group, stack-no-group}
use Rattle.xl_numbers.proofs.bits.put_group.Goals as goal

pub returns-then-word-ne0-clause-stack : goal.returns-then-word-ne0-clause-stack
returns-then-word-ne0-clause-stack c =
    let a = c.args in
    stack-group a.low.now a.middle.now a.top.now _ _ _ a.group a.word _ c.requires.stack c.write_words.ensures c.write_word.ensures (search rules) refl c.raise_bit.ensures

pub returns-else-word-ne0-clause-stack : goal.returns-else-word-ne0-clause-stack
returns-else-word-ne0-clause-stack c =
    let a = c.args in
    stack-no-group a.low.now a.middle.now a.top.now _ _ _ a.group a.word _ c.requires.stack c.write_words.ensures c.write_word-else-word-ne0.ensures (search rules) refl c.drop_bit.ensures.put
