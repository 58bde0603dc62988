use Rattle.xl_machine.proofs.Common.{◌≡◌, ap, None, row_of, rule_of, Served, served}
use Rattle.xl_machine.proofs.FenceLemmas.{fenced-is, fenced-kept, reach-in}
use Rattle.xl_model.specs.declared.event.Event.TheVariants as event
use Rattle.xl_machine.proofs.machine.Machine.fence.Goals as goal

pub fence-leaves-requires : goal.fence-leaves-requires
fence-leaves-requires g c =
    rw c.reach_of-reach.ensures (reach-in (row_of c.self.inside.row) (g.S.Structure.table c.self.inside.table) c.args.scope c.args.self.now (ap (λ (v : Served). v.row) c.self.view_is) c.self.invariant.served.fits c.requires)

pub invariant_of-self : goal.invariant_of-self
invariant_of-self g c =
    record {
      served =
          fenced-kept (row_of c.self.inside.row) (g.S.Structure.table c.self.inside.table) (g.S.Structure.table c.fence-entries.new.self) c.self.inside.space c.self.inside.tlb c.fence-leaves.new.self c.self.inside.frames c.reach_of-reach.result c.self.invariant.served
          c.fence-entries.ensures.fences.after c.fence-leaves.ensures.after;
      span_is = c.self.invariant.span_is;
    }

pub returns : goal.returns
returns g c =
    let ruled : rule_of (event.Fence c.args.scope) (served (row_of c.self.inside.row) (g.S.Structure.table c.self.inside.table) c.self.inside.space c.self.inside.tlb c.self.inside.counts) ≡ None = rw (← c.self.view_is) at c.requires in
    rw (c.count.ensures, ← c.self.view_is) (fenced-is (row_of c.self.inside.row) (g.S.Structure.table c.self.inside.table) (g.S.Structure.table c.fence-entries.new.self) c.self.inside.space c.self.inside.tlb c.fence-leaves.new.self c.self.inside.counts c.args.scope c.fence-entries.result c.fence-leaves.result ruled
    (rw c.reach_of-reach.ensures at c.fence-entries.ensures.fences.answer) (rw c.reach_of-reach.ensures at c.fence-entries.ensures.fences.after) (rw c.reach_of-reach.ensures at c.fence-leaves.ensures.after) c.fence-leaves.ensures.left)
