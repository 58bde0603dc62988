use Rattle.xl_machine.proofs.Common.{ap, is_some, Leaf, new-place, Option, page_of, row_of}
use Rattle.xl_machine.proofs.CommandLemmas.{block-for}
use Rattle.xl_machine.proofs.NamedChanges.{made-answer, made-kept, made-state, move-known, unmade-answer, unmade-kept, unmade-state}
use Rattle.xl_machine.proofs.PoolLemmas.{pool-relocated}
use Rattle.xl_machine.proofs.machine.Machine.relocate.Goals as goal

pub relocate-requires-clause-there : goal.relocate-requires-clause-there
relocate-requires-clause-there g c =
    let known = move-known c.self.invariant.served c.args.space c.args.from c.args.to c.args.order c.args.old (rw (← c.self.view_is) at c.requires.ruled) (rw (← c.self.view_is) at c.requires.found) in
    rw c.page_of-first.ensures (ap (λ (f : Option Leaf). is_some f) known.named)

pub relocate-requires-clause-valid : goal.relocate-requires-clause-valid
relocate-requires-clause-valid g c =
    let known = move-known c.self.invariant.served c.args.space c.args.from c.args.to c.args.order c.args.old (rw (← c.self.view_is) at c.requires.ruled) (rw (← c.self.view_is) at c.requires.found) in
    rw c.page_of-place.ensures (block-for (row_of c.self.inside.row) (g.S.Structure.table c.self.inside.table) c.self.invariant.served.fits c.args.space (page_of c.self.inside.row.mode c.args.to) c.args.order (new-place (row_of c.self.inside.row) (g.S.Structure.table c.self.inside.table).leaves c.args.space c.args.from c.args.to c.args.order known.ruled))

pub relocate-requires-clause-free : goal.relocate-requires-clause-free
relocate-requires-clause-free g c =
    let known = move-known c.self.invariant.served c.args.space c.args.from c.args.to c.args.order c.args.old (rw (← c.self.view_is) at c.requires.ruled) (rw (← c.self.view_is) at c.requires.found) in
    rw c.page_of-place.ensures (new-place (row_of c.self.inside.row) (g.S.Structure.table c.self.inside.table).leaves c.args.space c.args.from c.args.to c.args.order known.ruled).apart

pub purge-left-requires : goal.purge-left-requires
purge-left-requires g c =
    let known = move-known c.self.invariant.served c.args.space c.args.from c.args.to c.args.order c.args.old (rw (← c.self.view_is) at c.requires.ruled) (rw (← c.self.view_is) at c.requires.found) in
    known.fit

pub invariant_of-self : goal.invariant_of-self
invariant_of-self g c =
    record {
      served =
          let known = move-known c.self.invariant.served c.args.space c.args.from c.args.to c.args.order c.args.old (rw (← c.self.view_is) at c.requires.ruled) (rw (← c.self.view_is) at c.requires.found) in
          let changes = rw (c.page_of-first.ensures, c.page_of-place.ensures) at c.in-Ok.ensures.changes in
          made-kept known c.self.invariant.served c.self.inside.frames changes c.purge-left.ensures.after
          (pool-relocated (row_of c.self.inside.row) c.args.space (page_of c.self.inside.row.mode c.args.from) (page_of c.self.inside.row.mode c.args.to) c.args.order (g.S.Structure.table c.self.inside.table).leaves c.args.old c.self.inside.frames c.self.invariant.served.mapping (new-place (row_of c.self.inside.row) (g.S.Structure.table c.self.inside.table).leaves c.args.space c.args.from c.args.to c.args.order known.ruled) known.named c.self.invariant.served.pool_is);
      span_is = c.self.invariant.span_is;
    }

pub invariant_of-self-in-Err : goal.invariant_of-self-in-Err
invariant_of-self-in-Err g c =
    record {
      served =
          let known = move-known c.self.invariant.served c.args.space c.args.from c.args.to c.args.order c.args.old (rw (← c.self.view_is) at c.requires.ruled) (rw (← c.self.view_is) at c.requires.found) in
          let changes = rw (c.page_of-first.ensures, c.page_of-place.ensures) at c.in-Err.ensures.changes in
          unmade-kept known c.self.invariant.served changes;
      span_is = c.self.invariant.span_is;
    }

pub returns-in-Ok : goal.returns-in-Ok
returns-in-Ok g c =
    let known = move-known c.self.invariant.served c.args.space c.args.from c.args.to c.args.order c.args.old (rw (← c.self.view_is) at c.requires.ruled) (rw (← c.self.view_is) at c.requires.found) in
    let changes = rw (c.page_of-first.ensures, c.page_of-place.ensures) at c.in-Ok.ensures.changes in
    record {
      answer = rw (← c.self.view_is) (made-answer known c.self.inside.space c.self.inside.tlb c.self.inside.counts changes);
      after = rw (c.done.ensures, ← c.self.view_is) (made-state known c.self.inside.space c.self.inside.tlb c.self.inside.counts c.purge-left.result changes c.purge-left.ensures.after c.purge-left.ensures.left);
    }

pub returns-in-Err : goal.returns-in-Err
returns-in-Err g c =
    let known = move-known c.self.invariant.served c.args.space c.args.from c.args.to c.args.order c.args.old (rw (← c.self.view_is) at c.requires.ruled) (rw (← c.self.view_is) at c.requires.found) in
    let changes = rw (c.page_of-first.ensures, c.page_of-place.ensures) at c.in-Err.ensures.changes in
    record {
      answer = rw (← c.self.view_is) (unmade-answer known c.self.inside.space c.self.inside.tlb c.self.inside.counts changes c.refuse.ensures.why);
      after = rw (c.refuse.ensures.counts, ← c.self.view_is) (unmade-state known c.self.inside.space c.self.inside.tlb c.self.inside.counts changes);
    }
