use Rattle.xl_harts.proofs.Common.{◌∙◌, ◌≡◌, arith, false, hart_rule, HartsState, has_room, None, page_of, Relocate, row_table, rule-allows, state_of, subst, sym, true}
use Rattle.xl_harts.proofs.ChangeLemmas.{block-for, named-there, there-move}
use Rattle.xl_harts.proofs.RefusalLemmas.{by-room, move-change}
use Rattle.xl_model.specs.declared.address.Mode.TheVariants as mode
use Rattle.xl_model.specs.declared.event.Event.TheVariants as event
use Rattle.xl_harts.proofs.harts.Harts.room_refusal.Goals as goal

pub has_room_to-requires : goal.has_room_to-requires
has_room_to-requires c =
    let i = c.self.inside in
    let s : HartsState = state_of i.spec (row_table 3 i.table) i.requests.items i.harts.items i.current i.accepted i.refused in
    let ruled : hart_rule s (event.Move c.args.space c.args.from c.args.to c.args.order) ≡ None = rw (← c.self.view_is) at c.requires in
    let sound = (rule-allows s (event.Move c.args.space c.args.from c.args.to c.args.order) (Relocate c.args.space (page_of mode.Sv39 c.args.from) (page_of mode.Sv39 c.args.to) c.args.order) ruled (move-change s c.args.space c.args.from c.args.to c.args.order)).sound in
    (omega arith, (rw c.page_of-first.ensures (named-there s c.self.invariant.kept c.args.space c.args.from c.args.order (there-move s c.args.space c.args.from c.args.to c.args.order ruled)), (rw c.page_of-place.ensures (block-for i.spec (row_table 3 i.table).shape i.table.radix.leaves c.args.space (page_of mode.Sv39 c.args.to) c.args.order c.self.invariant.kept.table_is sound), rw c.page_of-place.ensures sound.apart)))

pub returns-then-not-has_room_to : goal.returns-then-not-has_room_to
returns-then-not-has_room_to c =
    let s = c.args.self.now in
    let room = rw (c.page_of-first.ensures, c.page_of-place.ensures) at c.has_room_to.ensures in
    let P : HartsState → Type 0 = λ v. c.has_room_to.result ≡ has_room (Relocate c.args.space (page_of mode.Sv39 c.args.from) (page_of mode.Sv39 c.args.to) c.args.order) v.table.leaves v.table.shape in
    sym (by-room s (Relocate c.args.space (page_of mode.Sv39 c.args.from) (page_of mode.Sv39 c.args.to) c.args.order) false (sym (subst P c.self.view_is room) ∙ c.if-not-has_room_to.true))

pub returns : goal.returns
returns c =
    let s = c.args.self.now in
    let room = rw (c.page_of-first.ensures, c.page_of-place.ensures) at c.has_room_to.ensures in
    let P : HartsState → Type 0 = λ v. c.has_room_to.result ≡ has_room (Relocate c.args.space (page_of mode.Sv39 c.args.from) (page_of mode.Sv39 c.args.to) c.args.order) v.table.leaves v.table.shape in
    c.queue_refusal.ensures
    ∙ sym (by-room s (Relocate c.args.space (page_of mode.Sv39 c.args.from) (page_of mode.Sv39 c.args.to) c.args.order) true (sym (subst P c.self.view_is room) ∙ c.if-not-has_room_to.false))
