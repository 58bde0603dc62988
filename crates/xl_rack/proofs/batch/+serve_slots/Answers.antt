use Rattle.xl_rack.proofs.BatchLemmas.{each-in-two}
use Rattle.xl_rack.proofs.batch.+serve_slots.Goals as goal

pub returns : goal.returns
returns n c =
    each-in-two c.min.result c.serve_group.ensures c.serve_slots.ensures c.split_at_mut-group.ensures.front c.split_at_mut-group.ensures.back
