use Rattle.xl_numbers.proofs.Common.{◌%◌, ◌*◌, ◌/◌, ◌≡◌, arith, rules}
use Rattle.xl_numbers.proofs.LevelLemmas.{words-as}
use Rattle.xl_numbers.proofs.bits.put_words.Goals as goal

pub returns-then-count-eq0-clause-words : goal.returns-then-count-eq0-clause-words
returns-then-count-eq0-clause-words c =
    let a = c.args in
    let p : a.first % 64 ≡ 0 = search rules in
    let q : a.count % 64 ≡ 0 = search rules in
    words-as a.low.now _ (64 * (a.first / 64)) (64 * (a.count / 64)) a.first a.count a.word (omega arith) (omega arith) c.put_parts.ensures.words

pub returns-else-first-eq0-clause-words : goal.returns-else-first-eq0-clause-words
returns-else-first-eq0-clause-words c =
    let a = c.args in
    words-as a.low.now _ (1 * a.first) (1 * a.count) a.first a.count a.word (omega arith) (omega arith) c.put_parts-else-first-eq0.ensures.words
