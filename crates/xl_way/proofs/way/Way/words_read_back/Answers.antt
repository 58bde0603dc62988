use Rattle.xl_way.proofs.Common.{AreApart, subst, WayState, WordsReadBack}
use Rattle.xl_way.proofs.WordLemmas.{are-apart, read-back}
use Rattle.xl_way.proofs.way.Way.words_read_back.Goals as goal

pub returns-clause-words : goal.returns-clause-words
returns-clause-words c =
    let s = c.self.inside in
    subst (λ (v : WayState). WordsReadBack v.shape) c.self.view_is (read-back s.places.number s.cap s.places.regs s.slots.items s.used c.self.invariant)

pub returns-clause-apart : goal.returns-clause-apart
returns-clause-apart c =
    let s = c.self.inside in
    subst (λ (v : WayState). AreApart v.shape) c.self.view_is (are-apart s.places.number s.cap s.places.regs s.slots.items s.used c.self.invariant)
