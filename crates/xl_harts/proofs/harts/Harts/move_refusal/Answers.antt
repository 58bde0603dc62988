use Rattle.xl_harts.proofs.Common.{◌∙◌, page_of, Relocate, sym}
use Rattle.xl_harts.proofs.RefusalLemmas.{by-change, by-rule, move-change}
use Rattle.xl_model.specs.declared.address.Mode.TheVariants as mode
use Rattle.xl_model.specs.declared.event.Event.TheVariants as event
use Rattle.xl_harts.proofs.harts.Harts.move_refusal.Goals as goal

pub returns-in-Some-clause-refused : goal.returns-in-Some-clause-refused
returns-in-Some-clause-refused c =
    let s = c.args.self.now in
    by-change s (event.Move c.args.space c.args.from c.args.to c.args.order) (Relocate c.args.space (page_of mode.Sv39 c.args.from) (page_of mode.Sv39 c.args.to) c.args.order) c.in-Ok.ensures.allowed (move-change s c.args.space c.args.from c.args.to c.args.order)
    ∙ sym c.room_refusal.ensures ∙ c.in-Some.is

pub returns-in-None-clause-allowed : goal.returns-in-None-clause-allowed
returns-in-None-clause-allowed c =
    let s = c.args.self.now in
    by-change s (event.Move c.args.space c.args.from c.args.to c.args.order) (Relocate c.args.space (page_of mode.Sv39 c.args.from) (page_of mode.Sv39 c.args.to) c.args.order) c.in-Ok.ensures.allowed (move-change s c.args.space c.args.from c.args.to c.args.order)
    ∙ sym c.room_refusal.ensures ∙ c.in-None.is

pub returns-in-Err-clause-refused : goal.returns-in-Err-clause-refused
returns-in-Err-clause-refused c = by-rule c.args.self.now (event.Move c.args.space c.args.from c.args.to c.args.order) c.in-Err.refusal c.in-Err.ensures.refused
