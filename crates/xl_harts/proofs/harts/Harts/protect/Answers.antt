use Rattle.xl_harts.proofs.Common.{◌∙◌, ◌≡◌, ap, Buffer, HartsState, is_some, None, page_of, Protect, refl, refusal_of, Request, row_table, rule-none, Some, state_of}
use Rattle.xl_harts.proofs.ChangeLemmas.{all-short, harts-after, old-named, pool-changed, queue-room, state-after, there-protect}
use Rattle.xl_harts.proofs.RefusalLemmas.{protect-change}
use Rattle.xl_harts.proofs.StepLemmas.{written}
use Rattle.xl_model.specs.declared.address.Mode.TheVariants as mode
use Rattle.xl_model.specs.declared.event.Event.TheVariants as event
use Rattle.xl_harts.proofs.harts.Harts.protect.Goals as goal

pub protect-requires : goal.protect-requires
protect-requires c =
    let i = c.self.inside in
    let s : HartsState = state_of i.spec (row_table 3 i.table) i.requests.items i.harts.items i.current i.accepted i.refused in
    let ruled : refusal_of (event.Protect c.args.space c.args.va c.args.order c.args.perm) s ≡ None = rw (← c.self.view_is) at c.requires.ruled in
    let named = old-named s c.self.invariant.kept c.args.space c.args.va c.args.order c.args.old (there-protect s c.args.space c.args.va c.args.order c.args.perm (rule-none s (event.Protect c.args.space c.args.va c.args.order c.args.perm) ruled)) (rw (← c.self.view_is) at c.requires.found) in
    rw c.page_of.ensures (ap is_some named)

pub put-requires : goal.put-requires
put-requires c =
    let i = c.self.inside in
    let s : HartsState = state_of i.spec (row_table 3 i.table) i.requests.items i.harts.items i.current i.accepted i.refused in
    let ruled : refusal_of (event.Protect c.args.space c.args.va c.args.order c.args.perm) s ≡ None = rw (← c.self.view_is) at c.requires.ruled in
    let known = protect-change s c.args.space c.args.va c.args.order c.args.perm in
    record {
      room = rw c.self.invariant.room (queue-room s c.self.invariant.kept (event.Protect c.args.space c.args.va c.args.order c.args.perm) (Protect c.args.space (page_of mode.Sv39 c.args.va) c.args.order c.args.perm) ruled known);
      queues = rw c.deref_mut.ensures.value (all-short s c.self.invariant.kept);
    }

pub invariant_of-self : goal.invariant_of-self
invariant_of-self c =
    let i = c.self.inside in
    let s : HartsState = state_of i.spec (row_table 3 i.table) i.requests.items i.harts.items i.current i.accepted i.refused in
    let ruled : refusal_of (event.Protect c.args.space c.args.va c.args.order c.args.perm) s ≡ None = rw (← c.self.view_is) at c.requires.ruled in
    let known = protect-change s c.args.space c.args.va c.args.order c.args.perm in
    let named = old-named s c.self.invariant.kept c.args.space c.args.va c.args.order c.args.old (there-protect s c.args.space c.args.va c.args.order c.args.perm (rule-none s (event.Protect c.args.space c.args.va c.args.order c.args.perm) ruled)) (rw (← c.self.view_is) at c.requires.found) in
    let harts = written i.harts.len i.harts.items c.deref_mut.result.now c.put.new.harts c.deref_mut.ensures.value c.deref_mut.ensures.len c.put.ensures.harts in
    let pool = pool-changed s c.self.invariant.kept (event.Protect c.args.space c.args.va c.args.order c.args.perm) (Protect c.args.space (page_of mode.Sv39 c.args.va) c.args.order c.args.perm) ruled known i.frames (λ f. refl) c.self.invariant.pool_is in
    harts-after s c.self.invariant.kept (event.Protect c.args.space c.args.va c.args.order c.args.perm) (Protect c.args.space (page_of mode.Sv39 c.args.va) c.args.order c.args.perm) ruled known (row_table 3 c.protect.new.table) (record { before = Some c.args.old; after = Some (record c.args.old { perm = c.args.perm }) }) c.put.new.requests.items _ (rw c.page_of.ensures at c.protect.ensures) (rw named refl)
    (ap (λ (b : Buffer Request). b.items) c.put.ensures.requests) harts c.put.new.requests.capacity i.frames (ap (λ (b : Buffer Request). b.capacity) c.put.ensures.requests ∙ c.self.invariant.room) pool

pub returns : goal.returns
returns c =
    let i = c.self.inside in
    let s : HartsState = state_of i.spec (row_table 3 i.table) i.requests.items i.harts.items i.current i.accepted i.refused in
    let ruled : refusal_of (event.Protect c.args.space c.args.va c.args.order c.args.perm) s ≡ None = rw (← c.self.view_is) at c.requires.ruled in
    let known = protect-change s c.args.space c.args.va c.args.order c.args.perm in
    let named = old-named s c.self.invariant.kept c.args.space c.args.va c.args.order c.args.old (there-protect s c.args.space c.args.va c.args.order c.args.perm (rule-none s (event.Protect c.args.space c.args.va c.args.order c.args.perm) ruled)) (rw (← c.self.view_is) at c.requires.found) in
    let harts = written i.harts.len i.harts.items c.deref_mut.result.now c.put.new.harts c.deref_mut.ensures.value c.deref_mut.ensures.len c.put.ensures.harts in
    rw (← c.self.view_is) (state-after s c.self.invariant.kept (event.Protect c.args.space c.args.va c.args.order c.args.perm) (Protect c.args.space (page_of mode.Sv39 c.args.va) c.args.order c.args.perm) ruled known (row_table 3 c.protect.new.table) (record { before = Some c.args.old; after = Some (record c.args.old { perm = c.args.perm }) }) c.put.new.requests.items _ (rw c.page_of.ensures at c.protect.ensures) (rw named refl)
    (ap (λ (b : Buffer Request). b.items) c.put.ensures.requests) harts)
