use Rattle.xl_machine.proofs.Common.{◌∙◌, ◌≡◌, ap, arith, Insert, IsNewLeaf, Leaf, lowest, lowest-none, lowest-some, None, page_of, pages_of, pool-given, refl, Refusal, row_of, rule, Some}
use Rattle.xl_machine.proofs.ChangeLemmas.{done-answer, done-kept, done-state, refused-answer, refused-kept, refused-state}
use Rattle.xl_machine.proofs.CommandLemmas.{has-frames, leaf-for, leaf-map, map-is, pool-mapped}
use Rattle.xl_model.specs.declared.event.Event.TheVariants as event
use Rattle.xl_model.specs.declared.event.Outcome.TheVariants as outcome
use Rattle.xl_machine.proofs.machine.Machine.map.Goals as goal

pub unreachable-requires : goal.unreachable-requires
unreachable-requires g c =
    let ruled : rule (row_of c.self.inside.row) (g.S.Structure.table c.self.inside.table).leaves (event.Map c.args.space c.args.va c.args.order c.args.perm) ≡ None = rw (← c.self.view_is) at c.requires in
    has-frames (row_of c.self.inside.row) (g.S.Structure.table c.self.inside.table).leaves c.args.space c.args.va c.args.order c.args.perm ruled
    (lowest-none c.self.inside.row.frames c.args.order (g.S.Structure.table c.self.inside.table).leaves c.self.inside.frames c.self.invariant.served.pool_is c.in_default.ensures.none)

pub insert-requires-clause-valid : goal.insert-requires-clause-valid
insert-requires-clause-valid g c =
    let ruled : rule (row_of c.self.inside.row) (g.S.Structure.table c.self.inside.table).leaves (event.Map c.args.space c.args.va c.args.order c.args.perm) ≡ None = rw (← c.self.view_is) at c.requires in
    let leaf : Leaf = record { space = c.args.space; first = (page_of c.self.inside.row.mode c.args.va); order = c.args.order; frame = c.in-Some.frame; perm = c.args.perm } in
    let low : lowest c.self.inside.row.frames c.args.order (g.S.Structure.table c.self.inside.table).leaves ≡ Some c.in-Some.frame = lowest-some c.self.inside.row.frames c.args.order (g.S.Structure.table c.self.inside.table).leaves c.self.inside.frames c.in-Some.frame c.self.invariant.served.pool_is c.in-Some.ensures.lowest in
    let new : IsNewLeaf (row_of c.self.inside.row) (g.S.Structure.table c.self.inside.table).leaves leaf = leaf-map (row_of c.self.inside.row) (g.S.Structure.table c.self.inside.table).leaves c.args.space c.args.va c.args.order c.args.perm c.in-Some.frame ruled low in
    rw c.page_of-first.ensures (leaf-for (row_of c.self.inside.row) (g.S.Structure.table c.self.inside.table) c.self.invariant.served.fits leaf new.valid)

pub insert-requires-clause-free : goal.insert-requires-clause-free
insert-requires-clause-free g c =
    let ruled : rule (row_of c.self.inside.row) (g.S.Structure.table c.self.inside.table).leaves (event.Map c.args.space c.args.va c.args.order c.args.perm) ≡ None = rw (← c.self.view_is) at c.requires in
    let leaf : Leaf = record { space = c.args.space; first = (page_of c.self.inside.row.mode c.args.va); order = c.args.order; frame = c.in-Some.frame; perm = c.args.perm } in
    let low : lowest c.self.inside.row.frames c.args.order (g.S.Structure.table c.self.inside.table).leaves ≡ Some c.in-Some.frame = lowest-some c.self.inside.row.frames c.args.order (g.S.Structure.table c.self.inside.table).leaves c.self.inside.frames c.in-Some.frame c.self.invariant.served.pool_is c.in-Some.ensures.lowest in
    let new : IsNewLeaf (row_of c.self.inside.row) (g.S.Structure.table c.self.inside.table).leaves leaf = leaf-map (row_of c.self.inside.row) (g.S.Structure.table c.self.inside.table).leaves c.args.space c.args.va c.args.order c.args.perm c.in-Some.frame ruled low in
    rw c.page_of-first.ensures new.apart

pub invariant_of-self : goal.invariant_of-self
invariant_of-self g c =
    record {
      served =
          let ruled : rule (row_of c.self.inside.row) (g.S.Structure.table c.self.inside.table).leaves (event.Map c.args.space c.args.va c.args.order c.args.perm) ≡ None = rw (← c.self.view_is) at c.requires in
          let leaf : Leaf = record { space = c.args.space; first = (page_of c.self.inside.row.mode c.args.va); order = c.args.order; frame = c.in-Some.frame; perm = c.args.perm } in
          let low : lowest c.self.inside.row.frames c.args.order (g.S.Structure.table c.self.inside.table).leaves ≡ Some c.in-Some.frame = lowest-some c.self.inside.row.frames c.args.order (g.S.Structure.table c.self.inside.table).leaves c.self.inside.frames c.in-Some.frame c.self.invariant.served.pool_is c.in-Some.ensures.lowest in
          let new : IsNewLeaf (row_of c.self.inside.row) (g.S.Structure.table c.self.inside.table).leaves leaf = leaf-map (row_of c.self.inside.row) (g.S.Structure.table c.self.inside.table).leaves c.args.space c.args.va c.args.order c.args.perm c.in-Some.frame ruled low in
          done-kept (row_of c.self.inside.row) (event.Map c.args.space c.args.va c.args.order c.args.perm) (Insert leaf) (g.S.Structure.table c.self.inside.table) ruled (map-is (row_of c.self.inside.row) (g.S.Structure.table c.self.inside.table).leaves c.args.space c.args.va c.args.order c.args.perm c.in-Some.frame low) c.self.inside.space c.self.inside.tlb c.self.inside.frames c.self.invariant.served c.in-Ok.work (g.S.Structure.table c.insert.new.self) c.self.inside.tlb c.take.new.self (rw c.page_of-first.ensures at c.in-Ok.ensures.changes.answer) (rw c.page_of-first.ensures at c.in-Ok.ensures.changes.after) refl
          (rw c.in-Some.ensures.taken (pool-mapped (row_of c.self.inside.row) leaf (g.S.Structure.table c.self.inside.table).leaves c.self.inside.frames c.self.invariant.served.mapping new c.self.invariant.served.pool_is));
      span_is = c.self.invariant.span_is;
    }

pub invariant_of-self-in-Err : goal.invariant_of-self-in-Err
invariant_of-self-in-Err g c =
    record {
      served =
          let ruled : rule (row_of c.self.inside.row) (g.S.Structure.table c.self.inside.table).leaves (event.Map c.args.space c.args.va c.args.order c.args.perm) ≡ None = rw (← c.self.view_is) at c.requires in
          let leaf : Leaf = record { space = c.args.space; first = (page_of c.self.inside.row.mode c.args.va); order = c.args.order; frame = c.in-Some.frame; perm = c.args.perm } in
          let low : lowest c.self.inside.row.frames c.args.order (g.S.Structure.table c.self.inside.table).leaves ≡ Some c.in-Some.frame = lowest-some c.self.inside.row.frames c.args.order (g.S.Structure.table c.self.inside.table).leaves c.self.inside.frames c.in-Some.frame c.self.invariant.served.pool_is c.in-Some.ensures.lowest in
          let new : IsNewLeaf (row_of c.self.inside.row) (g.S.Structure.table c.self.inside.table).leaves leaf = leaf-map (row_of c.self.inside.row) (g.S.Structure.table c.self.inside.table).leaves c.args.space c.args.va c.args.order c.args.perm c.in-Some.frame ruled low in
          refused-kept (row_of c.self.inside.row) (event.Map c.args.space c.args.va c.args.order c.args.perm) (Insert leaf) (g.S.Structure.table c.self.inside.table) ruled (map-is (row_of c.self.inside.row) (g.S.Structure.table c.self.inside.table).leaves c.args.space c.args.va c.args.order c.args.perm c.in-Some.frame low) c.self.inside.space c.self.inside.tlb c.self.inside.frames c.self.invariant.served c.in-Err.refused (g.S.Structure.table c.insert.new.self) c.give.new.self (rw c.page_of-first.ensures at c.in-Err.ensures.changes.answer) (rw c.page_of-first.ensures at c.in-Err.ensures.changes.after)
          (rw (c.give.ensures, c.in-Some.ensures.taken) (pool-given c.self.inside.row.frames c.in-Some.frame (pages_of c.args.order) (g.S.Structure.table c.self.inside.table).leaves c.self.inside.frames c.self.invariant.served.pool_is new.valid.frames_in (c.in-Some.ensures.lowest).is_free));
      span_is = c.self.invariant.span_is;
    }

pub returns-in-Ok : goal.returns-in-Ok
returns-in-Ok g c =
    let ruled : rule (row_of c.self.inside.row) (g.S.Structure.table c.self.inside.table).leaves (event.Map c.args.space c.args.va c.args.order c.args.perm) ≡ None = rw (← c.self.view_is) at c.requires in
    let leaf : Leaf = record { space = c.args.space; first = (page_of c.self.inside.row.mode c.args.va); order = c.args.order; frame = c.in-Some.frame; perm = c.args.perm } in
    let low : lowest c.self.inside.row.frames c.args.order (g.S.Structure.table c.self.inside.table).leaves ≡ Some c.in-Some.frame = lowest-some c.self.inside.row.frames c.args.order (g.S.Structure.table c.self.inside.table).leaves c.self.inside.frames c.in-Some.frame c.self.invariant.served.pool_is c.in-Some.ensures.lowest in
    let new : IsNewLeaf (row_of c.self.inside.row) (g.S.Structure.table c.self.inside.table).leaves leaf = leaf-map (row_of c.self.inside.row) (g.S.Structure.table c.self.inside.table).leaves c.args.space c.args.va c.args.order c.args.perm c.in-Some.frame ruled low in
    record {
      answer = rw (← c.self.view_is) (done-answer (row_of c.self.inside.row) (event.Map c.args.space c.args.va c.args.order c.args.perm) (Insert leaf) (g.S.Structure.table c.self.inside.table) ruled (map-is (row_of c.self.inside.row) (g.S.Structure.table c.self.inside.table).leaves c.args.space c.args.va c.args.order c.args.perm c.in-Some.frame low) c.self.inside.space c.self.inside.tlb c.self.inside.counts c.in-Ok.work (rw c.page_of-first.ensures at c.in-Ok.ensures.changes.answer));
      after = rw (c.done.ensures, ← c.self.view_is) (done-state (row_of c.self.inside.row) (event.Map c.args.space c.args.va c.args.order c.args.perm) (Insert leaf) (g.S.Structure.table c.self.inside.table) ruled (map-is (row_of c.self.inside.row) (g.S.Structure.table c.self.inside.table).leaves c.args.space c.args.va c.args.order c.args.perm c.in-Some.frame low) c.self.inside.space c.self.inside.tlb c.self.inside.counts c.in-Ok.work 0 (g.S.Structure.table c.insert.new.self) c.self.inside.tlb (rw c.page_of-first.ensures at c.in-Ok.ensures.changes.answer) (rw c.page_of-first.ensures at c.in-Ok.ensures.changes.after) refl (omega arith));
    }

pub returns-in-Err : goal.returns-in-Err
returns-in-Err g c =
    let ruled : rule (row_of c.self.inside.row) (g.S.Structure.table c.self.inside.table).leaves (event.Map c.args.space c.args.va c.args.order c.args.perm) ≡ None = rw (← c.self.view_is) at c.requires in
    let leaf : Leaf = record { space = c.args.space; first = (page_of c.self.inside.row.mode c.args.va); order = c.args.order; frame = c.in-Some.frame; perm = c.args.perm } in
    let low : lowest c.self.inside.row.frames c.args.order (g.S.Structure.table c.self.inside.table).leaves ≡ Some c.in-Some.frame = lowest-some c.self.inside.row.frames c.args.order (g.S.Structure.table c.self.inside.table).leaves c.self.inside.frames c.in-Some.frame c.self.invariant.served.pool_is c.in-Some.ensures.lowest in
    record {
      answer = rw (← c.self.view_is) (ap (λ (r : Refusal). outcome.Refused r) c.refuse.ensures.why ∙ refused-answer (row_of c.self.inside.row) (event.Map c.args.space c.args.va c.args.order c.args.perm) (Insert leaf) (g.S.Structure.table c.self.inside.table) ruled (map-is (row_of c.self.inside.row) (g.S.Structure.table c.self.inside.table).leaves c.args.space c.args.va c.args.order c.args.perm c.in-Some.frame low) c.self.inside.space c.self.inside.tlb c.self.inside.counts c.in-Err.refused (rw c.page_of-first.ensures at c.in-Err.ensures.changes.answer));
      after = rw (c.refuse.ensures.counts, ← c.self.view_is) (refused-state (row_of c.self.inside.row) (event.Map c.args.space c.args.va c.args.order c.args.perm) (Insert leaf) (g.S.Structure.table c.self.inside.table) ruled (map-is (row_of c.self.inside.row) (g.S.Structure.table c.self.inside.table).leaves c.args.space c.args.va c.args.order c.args.perm c.in-Some.frame low) c.self.inside.space c.self.inside.tlb c.self.inside.counts c.in-Err.refused (g.S.Structure.table c.insert.new.self) (rw c.page_of-first.ensures at c.in-Err.ensures.changes.answer) (rw c.page_of-first.ensures at c.in-Err.ensures.changes.after));
    }
