use Rattle.xl_rack.proofs.Common.{◌∙◌, ap, curve_after_part, map, Served, served_of}
use Rattle.xl_rack.proofs.BatchLemmas.{each-first}
use Rattle.xl_rack.proofs.BesideLemmas.{no-curves, part-stays}
use Rattle.xl_rack.proofs.beside.+serve_slots_beside.Goals as goal

pub returns-in_default-clause-curves : goal.returns-in_default-clause-curves
returns-in_default-clause-curves t c = no-curves (curve_after_part c.args.part.now) (map served_of c.args.slots.now) c.args.curves.now c.in_default.ensures.cases

pub returns-clause-slots : goal.returns-clause-slots
returns-clause-slots t c =
    each-first c.serve_slots_beside.ensures.slots (ap (λ (v : Served). v.row) c.serve_slot.ensures.served ∙ part-stays c.args.part.now _) c.in-Some-split_first_mut.ensures.cases.0 c.serve_slot.ensures.served c.serve_slot.ensures.form
