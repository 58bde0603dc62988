use Rattle.xl_serving.proofs.Common.{IsFedFrom, record_of, refl, rules, subst, sym}
use Rattle.xl_serving.proofs.RecordLemmas.{gives_record}
use Rattle.xl_serving.proofs.tape.Tape.next_held.Goals as goal

pub returns-in-Some-clause-some : goal.returns-in-Some-clause-some
returns-in-Some-clause-some c file h = rw (c.number.ensures.numbered, c.number.ensures.next, ← c.self.view_is) (
    gives_record file (record_of c.in-Some.reference) _ _ (search rules) c.in-Some.ensures.some refl refl
    (subst (λ p. IsFedFrom file p) (sym c.self.view_is) h))
