use Rattle.xl_rack.proofs.Common.{ap, row_after, sym}
use Rattle.xl_rack.proofs.BatchLemmas.{each-same}
use Rattle.xl_rack.proofs.beside.serve_alone.Goals as goal

pub returns-in-Event : goal.returns-in-Event
returns-in-Event c = each-same c.step_each.ensures (λ v. ap (λ p. row_after p v) (sym c.in-Event.is))

pub returns-in-Accesses : goal.returns-in-Accesses
returns-in-Accesses c = each-same c.serve_slots.ensures (λ v. ap (λ p. row_after p v) (sym c.in-Accesses.is))
