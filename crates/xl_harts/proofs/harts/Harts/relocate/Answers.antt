use Rattle.xl_harts.proofs.Common.{◌∙◌, ◌≡◌, ap, Buffer, HartsState, is_some, None, page_of, refl, refusal_of, Relocate, Request, row_table, rule-none, Some, state_of}
use Rattle.xl_harts.proofs.ChangeLemmas.{all-short, block-for, change-allowed, change-room, harts-after, old-named, pool-changed, queue-room, state-after, there-move}
use Rattle.xl_harts.proofs.RefusalLemmas.{move-change}
use Rattle.xl_harts.proofs.StepLemmas.{written}
use Rattle.xl_model.specs.declared.address.Mode.TheVariants as mode
use Rattle.xl_model.specs.declared.event.Event.TheVariants as event
use Rattle.xl_harts.proofs.harts.Harts.relocate.Goals as goal

pub relocate-requires : goal.relocate-requires
relocate-requires c =
    let i = c.self.inside in
    let s : HartsState = state_of i.spec (row_table 3 i.table) i.requests.items i.harts.items i.current i.accepted i.refused in
    let ruled : refusal_of (event.Move c.args.space c.args.from c.args.to c.args.order) s ≡ None = rw (← c.self.view_is) at c.requires.ruled in
    let known = move-change s c.args.space c.args.from c.args.to c.args.order in
    let named = old-named s c.self.invariant.kept c.args.space c.args.from c.args.order c.args.old (there-move s c.args.space c.args.from c.args.to c.args.order (rule-none s (event.Move c.args.space c.args.from c.args.to c.args.order) ruled)) (rw (← c.self.view_is) at c.requires.found) in
    record {
      there = rw c.page_of.ensures (ap is_some named);
      valid = rw c.page_of-place.ensures (block-for i.spec (row_table 3 i.table).shape i.table.radix.leaves c.args.space (page_of mode.Sv39 c.args.to) c.args.order c.self.invariant.kept.table_is (change-allowed s c.self.invariant.kept (event.Move c.args.space c.args.from c.args.to c.args.order) (Relocate c.args.space (page_of mode.Sv39 c.args.from) (page_of mode.Sv39 c.args.to) c.args.order) ruled known).sound);
      free = rw c.page_of-place.ensures (change-allowed s c.self.invariant.kept (event.Move c.args.space c.args.from c.args.to c.args.order) (Relocate c.args.space (page_of mode.Sv39 c.args.from) (page_of mode.Sv39 c.args.to) c.args.order) ruled known).sound.apart;
      room = rw (c.page_of.ensures, c.page_of-place.ensures) (change-room s c.self.invariant.kept (event.Move c.args.space c.args.from c.args.to c.args.order) (Relocate c.args.space (page_of mode.Sv39 c.args.from) (page_of mode.Sv39 c.args.to) c.args.order) ruled known);
    }

pub put-requires : goal.put-requires
put-requires c =
    let i = c.self.inside in
    let s : HartsState = state_of i.spec (row_table 3 i.table) i.requests.items i.harts.items i.current i.accepted i.refused in
    let ruled : refusal_of (event.Move c.args.space c.args.from c.args.to c.args.order) s ≡ None = rw (← c.self.view_is) at c.requires.ruled in
    let known = move-change s c.args.space c.args.from c.args.to c.args.order in
    record {
      room = rw c.self.invariant.room (queue-room s c.self.invariant.kept (event.Move c.args.space c.args.from c.args.to c.args.order) (Relocate c.args.space (page_of mode.Sv39 c.args.from) (page_of mode.Sv39 c.args.to) c.args.order) ruled known);
      queues = rw c.deref_mut.ensures.value (all-short s c.self.invariant.kept);
    }

pub invariant_of-self : goal.invariant_of-self
invariant_of-self c =
    let i = c.self.inside in
    let s : HartsState = state_of i.spec (row_table 3 i.table) i.requests.items i.harts.items i.current i.accepted i.refused in
    let ruled : refusal_of (event.Move c.args.space c.args.from c.args.to c.args.order) s ≡ None = rw (← c.self.view_is) at c.requires.ruled in
    let known = move-change s c.args.space c.args.from c.args.to c.args.order in
    let named = old-named s c.self.invariant.kept c.args.space c.args.from c.args.order c.args.old (there-move s c.args.space c.args.from c.args.to c.args.order (rule-none s (event.Move c.args.space c.args.from c.args.to c.args.order) ruled)) (rw (← c.self.view_is) at c.requires.found) in
    let harts = written i.harts.len i.harts.items c.deref_mut.result.now c.put.new.harts c.deref_mut.ensures.value c.deref_mut.ensures.len c.put.ensures.harts in
    let pool = pool-changed s c.self.invariant.kept (event.Move c.args.space c.args.from c.args.to c.args.order) (Relocate c.args.space (page_of mode.Sv39 c.args.from) (page_of mode.Sv39 c.args.to) c.args.order) ruled known i.frames (λ f. refl) c.self.invariant.pool_is in
    harts-after s c.self.invariant.kept (event.Move c.args.space c.args.from c.args.to c.args.order) (Relocate c.args.space (page_of mode.Sv39 c.args.from) (page_of mode.Sv39 c.args.to) c.args.order) ruled known (row_table 3 c.relocate.new.table) (record { before = Some c.args.old; after = Some (record c.args.old { first = c.page_of-place.result }) }) c.put.new.requests.items _ (rw (c.page_of.ensures, c.page_of-place.ensures) at c.relocate.ensures) (rw (named, c.page_of-place.ensures) refl)
    (ap (λ (b : Buffer Request). b.items) c.put.ensures.requests) harts c.put.new.requests.capacity i.frames (ap (λ (b : Buffer Request). b.capacity) c.put.ensures.requests ∙ c.self.invariant.room) pool

pub returns : goal.returns
returns c =
    let i = c.self.inside in
    let s : HartsState = state_of i.spec (row_table 3 i.table) i.requests.items i.harts.items i.current i.accepted i.refused in
    let ruled : refusal_of (event.Move c.args.space c.args.from c.args.to c.args.order) s ≡ None = rw (← c.self.view_is) at c.requires.ruled in
    let known = move-change s c.args.space c.args.from c.args.to c.args.order in
    let named = old-named s c.self.invariant.kept c.args.space c.args.from c.args.order c.args.old (there-move s c.args.space c.args.from c.args.to c.args.order (rule-none s (event.Move c.args.space c.args.from c.args.to c.args.order) ruled)) (rw (← c.self.view_is) at c.requires.found) in
    let harts = written i.harts.len i.harts.items c.deref_mut.result.now c.put.new.harts c.deref_mut.ensures.value c.deref_mut.ensures.len c.put.ensures.harts in
    rw (← c.self.view_is) (state-after s c.self.invariant.kept (event.Move c.args.space c.args.from c.args.to c.args.order) (Relocate c.args.space (page_of mode.Sv39 c.args.from) (page_of mode.Sv39 c.args.to) c.args.order) ruled known (row_table 3 c.relocate.new.table) (record { before = Some c.args.old; after = Some (record c.args.old { first = c.page_of-place.result }) }) c.put.new.requests.items _ (rw (c.page_of.ensures, c.page_of-place.ensures) at c.relocate.ensures) (rw (named, c.page_of-place.ensures) refl)
    (ap (λ (b : Buffer Request). b.items) c.put.ensures.requests) harts)
