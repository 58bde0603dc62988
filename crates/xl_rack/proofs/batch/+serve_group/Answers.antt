use Rattle.xl_rack.proofs.BatchLemmas.{batched-in-parts, each-same, each-then}
use Rattle.xl_rack.proofs.batch.+serve_group.Goals as goal

pub returns : goal.returns
returns n c =
    each-same (each-then c.serve_accesses-2.ensures (each-then c.step_each.ensures c.serve_group.ensures))
    (λ v. batched-in-parts c.args.accesses.now c.args.areas.now v c.in-Some.ensures.cases.0 c.split_at.ensures.front c.split_at.ensures.back)
