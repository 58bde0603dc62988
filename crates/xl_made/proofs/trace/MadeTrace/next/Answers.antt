use Rattle.xl_made.proofs.Common.{◌<◌, ap, arith}
use Rattle.xl_made.proofs.ReadLemmas.{first_given}
use Rattle.xl_made.proofs.trace.MadeTrace.next.Goals as goal

pub returns-clause-some : goal.returns-clause-some
returns-clause-some c =
    let t = c.self.inside in
    let some : 0 < t.left = omega (arith, c.if-self-eq0.false) in
    first_given t.left t.generator _ c.next_word-word.result _ _ _ _ some c.self.view_is (ap (λ p. p.0) c.next_word-word.ensures) (ap (λ p. p.1) c.next_word-word.ensures)
    c.reference.ensures.letter c.reference.ensures.addr c.reference.ensures.size
