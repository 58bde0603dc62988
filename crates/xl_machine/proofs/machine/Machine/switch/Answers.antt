use Rattle.xl_machine.proofs.Common.{◌≡◌, None, row_of, rule_of, served}
use Rattle.xl_machine.proofs.FenceLemmas.{switched-is, switched-kept}
use Rattle.xl_model.specs.declared.event.Event.TheVariants as event
use Rattle.xl_machine.proofs.machine.Machine.switch.Goals as goal

pub invariant_of-self : goal.invariant_of-self
invariant_of-self g c =
    record {
      served =
          let ruled : rule_of (event.Space c.args.space) (served (row_of c.self.inside.row) (g.S.Structure.table c.self.inside.table) c.self.inside.space c.self.inside.tlb c.self.inside.counts) ≡ None = rw (← c.self.view_is) at c.requires in
          switched-kept (row_of c.self.inside.row) (g.S.Structure.table c.self.inside.table) c.self.inside.space c.args.space c.self.inside.tlb c.self.inside.frames c.self.inside.counts c.self.invariant.served ruled;
      span_is = c.self.invariant.span_is;
    }

pub returns : goal.returns
returns g c =
    let ruled : rule_of (event.Space c.args.space) (served (row_of c.self.inside.row) (g.S.Structure.table c.self.inside.table) c.self.inside.space c.self.inside.tlb c.self.inside.counts) ≡ None = rw (← c.self.view_is) at c.requires in
    rw (c.accept.ensures, ← c.self.view_is) (switched-is (row_of c.self.inside.row) (g.S.Structure.table c.self.inside.table) c.self.inside.space c.args.space c.self.inside.tlb c.self.inside.counts ruled)
