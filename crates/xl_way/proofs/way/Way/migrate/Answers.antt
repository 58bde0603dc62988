use Rattle.xl_way.proofs.Common.{◌<◌, ◌^◌, ◌∙◌, advanced, ap, arith, slots_left, sym, WayRegs, WayState}
use Rattle.xl_way.proofs.GrowthLemmas.{after-growing, after-more, after-none}
use Rattle.xl_way.proofs.way.Way.migrate.Goals as goal

pub slots-init : goal.slots-init
unfolding advanced
slots-init c =
    let v : WayState = c.args.self.now in
    let below : v.shape.regs.p < 2 ^ v.shape.regs.s = rw c.regs.ensures.is at c.regs.ensures.good.below in
    sym (ap (λ (r : WayRegs). record v { shape = record v.shape { regs = r } }) (after-none v.shape.regs below))

pub migrate_one-requires : goal.migrate_one-requires
unfolding advanced
migrate_one-requires c =
    let v : WayState = c.args.self.now in
    let few : c.slots._i < slots_left v.shape.regs =
    (let e = c.min-count.ensures in let l = c.slots_left.ensures in let t = c.slots-test.true in let r = ap slots_left c.regs.ensures.is in omega arith) in
    ap (λ (u : WayState). u.shape.regs.growing) c.slots.invariant ∙ after-growing v.shape.regs c.slots._i c.requires few

pub slots-preserved : goal.slots-preserved
unfolding advanced
slots-preserved c =
    let v : WayState = c.args.self.now in
    let few : c.slots._i < slots_left v.shape.regs =
    (let e = c.min-count.ensures in let l = c.slots_left.ensures in let t = c.slots-test.true in let r = ap slots_left c.regs.ensures.is in omega arith) in
    c.migrate_one.ensures ∙ ap (λ (u : WayState). record u { shape = advanced 1 u.shape }) c.slots.invariant
    ∙ ap (λ (r : WayRegs). record v { shape = record v.shape { regs = r } }) (after-more v.shape.regs c.slots._i few)
