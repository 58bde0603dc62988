use Rattle.xl_numbers.proofs.Common.{◌+◌, ◌∙◌, ap, arith, length}
use Rattle.xl_numbers.proofs.ViewLemmas.{words-count, words-kept, words-seen}
use Rattle.xl_numbers.proofs.free.FreeNumbers.mark_words.Goals as goal

pub put_words-requires-clause-within : goal.put_words-requires-clause-within
put_words-requires-clause-within c =
    let fits = words-count _ _ _ (c.args.first + c.args.count) c.self.view_is c.requires in
    let room = c.self.invariant.room in
    rw c.deref_mut.ensures.value (omega arith)

pub returns : goal.returns
returns c =
    let s = c.self.inside in
    let a = c.args in
    let fits = words-count _ _ _ (a.first + a.count) c.self.view_is c.requires in
    words-seen s.low s.count _ c.self.view_is a.first a.count _ a.free fits c.word_of-word.ensures (rw c.deref_mut.ensures.value at c.put_words.ensures.words)

pub invariant_of-self : goal.invariant_of-self
invariant_of-self c =
    let s = c.self.inside in
    let a = c.args in
    let fits = words-count _ _ _ (a.first + a.count) c.self.view_is c.requires in
    let same = c.put_words.auto.middle ∙ ap length c.deref_mut-2.ensures.value in
    words-kept s.low s.middle a.first a.count _ c.self.invariant fits same c.put_words.ensures.stack (rw c.deref_mut.ensures.value at c.put_words.ensures.words)
