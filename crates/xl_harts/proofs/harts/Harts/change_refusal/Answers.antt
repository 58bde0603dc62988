use Rattle.xl_harts.proofs.Common.{◌∙◌, HartsState, IsTable, page_of, Remove, subst, sym, true}
use Rattle.xl_harts.proofs.RefusalLemmas.{by-change, by-room, by-rule, protect-as-unmap, room-removed, unmap-change}
use Rattle.xl_model.specs.declared.address.Mode.TheVariants as mode
use Rattle.xl_model.specs.declared.event.Event.TheVariants as event
use Rattle.xl_harts.proofs.harts.Harts.change_refusal.Goals as goal

pub returns-in-Some-clause-refused : goal.returns-in-Some-clause-refused
returns-in-Some-clause-refused c =
    let s = c.args.self.now in
    let is : IsTable s.spec s.table.shape = subst (λ (v : HartsState). IsTable v.spec v.table.shape) c.self.view_is c.self.invariant.kept.table_is in
    by-change s (event.Unmap c.args.space c.args.va c.args.order) (Remove c.args.space (page_of mode.Sv39 c.args.va) c.args.order) c.in-Ok.ensures.allowed (unmap-change s c.args.space c.args.va c.args.order)
    ∙ by-room s (Remove c.args.space (page_of mode.Sv39 c.args.va) c.args.order) true (room-removed s.spec c.args.space (page_of mode.Sv39 c.args.va) c.args.order s.table.leaves s.table.shape is)
    ∙ sym c.queue_refusal.ensures ∙ c.in-Some.is

pub returns-in-None-clause-allowed : goal.returns-in-None-clause-allowed
returns-in-None-clause-allowed c =
    let s = c.args.self.now in
    let is : IsTable s.spec s.table.shape = subst (λ (v : HartsState). IsTable v.spec v.table.shape) c.self.view_is c.self.invariant.kept.table_is in
    by-change s (event.Unmap c.args.space c.args.va c.args.order) (Remove c.args.space (page_of mode.Sv39 c.args.va) c.args.order) c.in-Ok.ensures.allowed (unmap-change s c.args.space c.args.va c.args.order)
    ∙ by-room s (Remove c.args.space (page_of mode.Sv39 c.args.va) c.args.order) true (room-removed s.spec c.args.space (page_of mode.Sv39 c.args.va) c.args.order s.table.leaves s.table.shape is)
    ∙ sym c.queue_refusal.ensures ∙ c.in-None.is

pub returns-in-Err-clause-refused : goal.returns-in-Err-clause-refused
returns-in-Err-clause-refused c = by-rule c.args.self.now (event.Unmap c.args.space c.args.va c.args.order) c.in-Err.refusal c.in-Err.ensures.refused

pub returns-in-Some-clause-protect : goal.returns-in-Some-clause-protect
returns-in-Some-clause-protect c = λ perm.
    let s = c.args.self.now in
    protect-as-unmap s c.args.space c.args.va c.args.order perm (subst (λ (v : HartsState). IsTable v.spec v.table.shape) c.self.view_is c.self.invariant.kept.table_is)

pub returns-in-None-clause-protect : goal.returns-in-None-clause-protect
returns-in-None-clause-protect c = λ perm.
    let s = c.args.self.now in
    protect-as-unmap s c.args.space c.args.va c.args.order perm (subst (λ (v : HartsState). IsTable v.spec v.table.shape) c.self.view_is c.self.invariant.kept.table_is)

pub returns-in-Err-clause-protect : goal.returns-in-Err-clause-protect
returns-in-Err-clause-protect c = λ perm.
    let s = c.args.self.now in
    protect-as-unmap s c.args.space c.args.va c.args.order perm (subst (λ (v : HartsState). IsTable v.spec v.table.shape) c.self.view_is c.self.invariant.kept.table_is)
