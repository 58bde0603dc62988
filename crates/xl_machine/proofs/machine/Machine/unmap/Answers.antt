use Rattle.xl_machine.proofs.Common.{ap, arith, is_some, Leaf, Option, page_of, pool-removed, row_of}
use Rattle.xl_machine.proofs.NamedChanges.{made-answer, made-kept, made-state, unmade-answer, unmade-kept, unmade-state, unmap-known}
use Rattle.xl_machine.proofs.machine.Machine.unmap.Goals as goal

pub remove-requires : goal.remove-requires
remove-requires g c =
    let known = unmap-known c.self.invariant.served c.args.space c.args.va c.args.order c.args.old (rw (← c.self.view_is) at c.requires.ruled) (rw (← c.self.view_is) at c.requires.found) in
    rw c.page_of-first.ensures (ap (λ (f : Option Leaf). is_some f) known.named)

pub give-requires : goal.give-requires
give-requires g c =
    let known = unmap-known c.self.invariant.served c.args.space c.args.va c.args.order c.args.old (rw (← c.self.view_is) at c.requires.ruled) (rw (← c.self.view_is) at c.requires.found) in
    let v = known.valid.frames_in in let s = c.self.invariant.served.pool_is.size in omega arith

pub purge-left-requires : goal.purge-left-requires
purge-left-requires g c =
    let known = unmap-known c.self.invariant.served c.args.space c.args.va c.args.order c.args.old (rw (← c.self.view_is) at c.requires.ruled) (rw (← c.self.view_is) at c.requires.found) in
    known.fit

pub invariant_of-self : goal.invariant_of-self
invariant_of-self g c =
    record {
      served =
          let known = unmap-known c.self.invariant.served c.args.space c.args.va c.args.order c.args.old (rw (← c.self.view_is) at c.requires.ruled) (rw (← c.self.view_is) at c.requires.found) in
          let changes = rw c.page_of-first.ensures at c.in-Ok.ensures.changes in
          made-kept known c.self.invariant.served c.give.new.self changes c.purge-left.ensures.after
          (rw c.give.ensures (pool-removed (row_of c.self.inside.row) c.args.space (page_of c.self.inside.row.mode c.args.va) c.args.order (g.S.Structure.table c.self.inside.table).leaves c.args.old c.self.inside.frames c.self.invariant.served.mapping known.named c.self.invariant.served.pool_is));
      span_is = c.self.invariant.span_is;
    }

pub invariant_of-self-in-Err : goal.invariant_of-self-in-Err
invariant_of-self-in-Err g c =
    record {
      served =
          let known = unmap-known c.self.invariant.served c.args.space c.args.va c.args.order c.args.old (rw (← c.self.view_is) at c.requires.ruled) (rw (← c.self.view_is) at c.requires.found) in
          let changes = rw c.page_of-first.ensures at c.in-Err.ensures.changes in
          unmade-kept known c.self.invariant.served changes;
      span_is = c.self.invariant.span_is;
    }

pub returns-in-Ok : goal.returns-in-Ok
returns-in-Ok g c =
    let known = unmap-known c.self.invariant.served c.args.space c.args.va c.args.order c.args.old (rw (← c.self.view_is) at c.requires.ruled) (rw (← c.self.view_is) at c.requires.found) in
    let changes = rw c.page_of-first.ensures at c.in-Ok.ensures.changes in
    record {
      answer = rw (← c.self.view_is) (made-answer known c.self.inside.space c.self.inside.tlb c.self.inside.counts changes);
      after = rw (c.done.ensures, ← c.self.view_is) (made-state known c.self.inside.space c.self.inside.tlb c.self.inside.counts c.purge-left.result changes c.purge-left.ensures.after c.purge-left.ensures.left);
    }

pub returns-in-Err : goal.returns-in-Err
returns-in-Err g c =
    let known = unmap-known c.self.invariant.served c.args.space c.args.va c.args.order c.args.old (rw (← c.self.view_is) at c.requires.ruled) (rw (← c.self.view_is) at c.requires.found) in
    let changes = rw c.page_of-first.ensures at c.in-Err.ensures.changes in
    record {
      answer = rw (← c.self.view_is) (unmade-answer known c.self.inside.space c.self.inside.tlb c.self.inside.counts changes c.refuse.ensures.why);
      after = rw (c.refuse.ensures.counts, ← c.self.view_is) (unmade-state known c.self.inside.space c.self.inside.tlb c.self.inside.counts changes);
    }
