use Rattle.xl_rack.proofs.Common.{Access, ap, List, nil_from_length, row_served, sym}
use Rattle.xl_rack.proofs.BatchLemmas.{each-same, each-stays, each-then}
use Rattle.xl_rack.proofs.batch.+serve_side_by_side.Goals as goal

pub returns : goal.returns
returns n c =
    each-same (each-then c.serve_each_slot.ensures c.serve_side_by_side.ensures)
    (λ v. ap (λ (xs : List Access). row_served xs c.args.areas.now v) (sym c.in-Some.ensures.cases.0))

pub returns-in_default : goal.returns-in_default
returns-in_default n c =
    each-same (each-stays c.args.slots.now)
    (λ v. ap (λ (xs : List Access). row_served xs c.args.areas.now v) (sym (nil_from_length c.args.accesses.now c.in_default.ensures.cases)))
