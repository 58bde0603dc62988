use Rattle.xl_rack.proofs.BatchLemmas.{each-first}
use Rattle.xl_rack.proofs.batch.+serve_each_slot.Goals as goal

pub returns : goal.returns
returns g n c = each-first c.serve_each_slot.ensures c.serve_slot.ensures.row c.in-Some.ensures.cases.0 c.serve_slot.ensures.served c.serve_slot.ensures.form
