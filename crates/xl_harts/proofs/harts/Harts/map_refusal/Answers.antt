use Rattle.xl_harts.proofs.Common.{◌∙◌, ◌≡◌, false, hart_rule, Insert, leaf_at, None, sym, true}
use Rattle.xl_harts.proofs.RefusalLemmas.{by-change, by-room, by-rule, map-at, map-change, map-placed}
use Rattle.xl_model.specs.declared.event.Event.TheVariants as event
use Rattle.xl_harts.proofs.harts.Harts.map_refusal.Goals as goal

pub returns-in-Some : goal.returns-in-Some
returns-in-Some c = sym (by-rule c.args.self.now (event.Map c.args.space c.args.va c.args.order c.args.perm) c.in-Some.refusal (sym c.map_rule.ensures ∙ c.in-Some.is))

pub has_room-requires-clause-space : goal.has_room-requires-clause-space
has_room-requires-clause-space c = (map-placed c.args.self.now c.args.space c.args.va c.args.order c.args.perm (sym c.map_rule.ensures ∙ c.in_default.is)).space_in

pub has_room-requires-clause-aligned : goal.has_room-requires-clause-aligned
has_room-requires-clause-aligned c = (map-placed c.args.self.now c.args.space c.args.va c.args.order c.args.perm (sym c.map_rule.ensures ∙ c.in_default.is)).aligned

pub has_room-requires-clause-free : goal.has_room-requires-clause-free
has_room-requires-clause-free c = (map-placed c.args.self.now c.args.space c.args.va c.args.order c.args.perm (sym c.map_rule.ensures ∙ c.in_default.is)).free

pub returns-then-not-has_room : goal.returns-then-not-has_room
returns-then-not-has_room c =
    let s = c.args.self.now in
    let ruled : hart_rule s (event.Map c.args.space c.args.va c.args.order c.args.perm) ≡ None = sym c.map_rule.ensures ∙ c.in_default.is in
    let low = map-at s c.args.space c.args.va c.args.order c.args.perm ruled in
    let known = map-change s c.args.space c.args.va c.args.order c.args.perm low.0 low.1 in
    sym (by-change s (event.Map c.args.space c.args.va c.args.order c.args.perm) (Insert (leaf_at c.args.space c.args.va c.args.order low.0 c.args.perm)) ruled known
    ∙ by-room s (Insert (leaf_at c.args.space c.args.va c.args.order low.0 c.args.perm)) false (sym (c.has_room.ensures low.0 c.args.perm) ∙ c.if-not-has_room.true))

pub returns : goal.returns
returns c =
    let s = c.args.self.now in
    let ruled : hart_rule s (event.Map c.args.space c.args.va c.args.order c.args.perm) ≡ None = sym c.map_rule.ensures ∙ c.in_default.is in
    let low = map-at s c.args.space c.args.va c.args.order c.args.perm ruled in
    let known = map-change s c.args.space c.args.va c.args.order c.args.perm low.0 low.1 in
    c.queue_refusal.ensures
    ∙ sym (by-change s (event.Map c.args.space c.args.va c.args.order c.args.perm) (Insert (leaf_at c.args.space c.args.va c.args.order low.0 c.args.perm)) ruled known
    ∙ by-room s (Insert (leaf_at c.args.space c.args.va c.args.order low.0 c.args.perm)) true (sym (c.has_room.ensures low.0 c.args.perm) ∙ c.if-not-has_room.false))
