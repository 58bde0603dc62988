use Rattle.xl_harts.proofs.Common.{◌∙◌, ◌≡◌, ap, Buffer, HartsState, Insert, leaf_at, None, refl, refusal_of, Request, row_table, Some, state_of}
use Rattle.xl_harts.proofs.ChangeLemmas.{all-short, change-room, harts-after, map-finds, map-known, map-new, pool-mapped, queue-room, state-after}
use Rattle.xl_harts.proofs.RefusalLemmas.{leaf-in}
use Rattle.xl_harts.proofs.StepLemmas.{written}
use Rattle.xl_model.specs.declared.event.Event.TheVariants as event
use Rattle.xl_harts.proofs.harts.Harts.map.Goals as goal

pub unreachable-requires : goal.unreachable-requires
unreachable-requires c =
    let i = c.self.inside in
    let s : HartsState = state_of i.spec (row_table 3 i.table) i.requests.items i.harts.items i.current i.accepted i.refused in
    let ruled : refusal_of (event.Map c.args.space c.args.va c.args.order c.args.perm) s ≡ None = rw (← c.self.view_is) at c.requires in
    map-finds s c.self.invariant.kept c.args.space c.args.va c.args.order c.args.perm ruled i.frames c.self.invariant.pool_is c.in_default.ensures.none

pub insert-requires : goal.insert-requires
insert-requires c =
    let i = c.self.inside in
    let s : HartsState = state_of i.spec (row_table 3 i.table) i.requests.items i.harts.items i.current i.accepted i.refused in
    let ruled : refusal_of (event.Map c.args.space c.args.va c.args.order c.args.perm) s ≡ None = rw (← c.self.view_is) at c.requires in
    let new = map-new s c.self.invariant.kept c.args.space c.args.va c.args.order c.args.perm ruled i.frames c.self.invariant.pool_is c.in-Some.frame c.in-Some.ensures.lowest in
    let known = map-known s c.self.invariant.kept c.args.space c.args.va c.args.order c.args.perm ruled i.frames c.self.invariant.pool_is c.in-Some.frame c.in-Some.ensures.lowest in
    record {
      valid = rw c.page_of.ensures (leaf-in i.spec (row_table 3 i.table).shape c.self.invariant.kept.table_is (leaf_at c.args.space c.args.va c.args.order c.in-Some.frame c.args.perm) c.self.invariant.kept.spec_is new.valid);
      free = rw c.page_of.ensures new.apart;
      room = rw c.page_of.ensures (change-room s c.self.invariant.kept (event.Map c.args.space c.args.va c.args.order c.args.perm) (Insert (leaf_at c.args.space c.args.va c.args.order c.in-Some.frame c.args.perm)) ruled known);
    }

pub put-requires : goal.put-requires
put-requires c =
    let i = c.self.inside in
    let s : HartsState = state_of i.spec (row_table 3 i.table) i.requests.items i.harts.items i.current i.accepted i.refused in
    let ruled : refusal_of (event.Map c.args.space c.args.va c.args.order c.args.perm) s ≡ None = rw (← c.self.view_is) at c.requires in
    let known = map-known s c.self.invariant.kept c.args.space c.args.va c.args.order c.args.perm ruled i.frames c.self.invariant.pool_is c.in-Some.frame c.in-Some.ensures.lowest in
    record {
      room = rw c.self.invariant.room (queue-room s c.self.invariant.kept (event.Map c.args.space c.args.va c.args.order c.args.perm) (Insert (leaf_at c.args.space c.args.va c.args.order c.in-Some.frame c.args.perm)) ruled known);
      queues = rw c.deref_mut.ensures.value (all-short s c.self.invariant.kept);
    }

pub invariant_of-self : goal.invariant_of-self
invariant_of-self c =
    let i = c.self.inside in
    let s : HartsState = state_of i.spec (row_table 3 i.table) i.requests.items i.harts.items i.current i.accepted i.refused in
    let ruled : refusal_of (event.Map c.args.space c.args.va c.args.order c.args.perm) s ≡ None = rw (← c.self.view_is) at c.requires in
    let known = map-known s c.self.invariant.kept c.args.space c.args.va c.args.order c.args.perm ruled i.frames c.self.invariant.pool_is c.in-Some.frame c.in-Some.ensures.lowest in
    let harts = written i.harts.len i.harts.items c.deref_mut.result.now c.put.new.harts c.deref_mut.ensures.value c.deref_mut.ensures.len c.put.ensures.harts in
    harts-after s c.self.invariant.kept (event.Map c.args.space c.args.va c.args.order c.args.perm) (Insert (leaf_at c.args.space c.args.va c.args.order c.in-Some.frame c.args.perm)) ruled known (row_table 3 c.insert.new.table) (record { before = None; after = Some (record { space = c.args.space; first = c.page_of.result; order = c.args.order; frame = c.in-Some.frame; perm = c.args.perm }) }) c.put.new.requests.items _ (rw c.page_of.ensures at c.insert.ensures) (rw c.page_of.ensures refl)
    (ap (λ (b : Buffer Request). b.items) c.put.ensures.requests) harts c.put.new.requests.capacity c.take.new.self (ap (λ (b : Buffer Request). b.capacity) c.put.ensures.requests ∙ c.self.invariant.room) (rw c.in-Some.ensures.taken (pool-mapped s c.self.invariant.kept c.args.space c.args.va c.args.order c.args.perm ruled i.frames c.self.invariant.pool_is c.in-Some.frame c.in-Some.ensures.lowest))

pub returns : goal.returns
returns c =
    let i = c.self.inside in
    let s : HartsState = state_of i.spec (row_table 3 i.table) i.requests.items i.harts.items i.current i.accepted i.refused in
    let ruled : refusal_of (event.Map c.args.space c.args.va c.args.order c.args.perm) s ≡ None = rw (← c.self.view_is) at c.requires in
    let known = map-known s c.self.invariant.kept c.args.space c.args.va c.args.order c.args.perm ruled i.frames c.self.invariant.pool_is c.in-Some.frame c.in-Some.ensures.lowest in
    let harts = written i.harts.len i.harts.items c.deref_mut.result.now c.put.new.harts c.deref_mut.ensures.value c.deref_mut.ensures.len c.put.ensures.harts in
    rw (← c.self.view_is) (state-after s c.self.invariant.kept (event.Map c.args.space c.args.va c.args.order c.args.perm) (Insert (leaf_at c.args.space c.args.va c.args.order c.in-Some.frame c.args.perm)) ruled known (row_table 3 c.insert.new.table) (record { before = None; after = Some (record { space = c.args.space; first = c.page_of.result; order = c.args.order; frame = c.in-Some.frame; perm = c.args.perm }) }) c.put.new.requests.items _ (rw c.page_of.ensures at c.insert.ensures) (rw c.page_of.ensures refl)
    (ap (λ (b : Buffer Request). b.items) c.put.ensures.requests) harts)
