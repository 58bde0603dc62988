use Rattle.xl_way.proofs.Common.{◌<◌, ◌∙◌, ◌≡◌, ap, begun, begun_regs, entries_of, false, IsKept, PlacesState, subst, sym, WayRegs, WayState}
use Rattle.xl_way.proofs.WayLemmas.{kept-begun, way_of}
use Rattle.xl_way.proofs.way.Way.begin_growth.Goals as goal

pub invariant_of-self : goal.invariant_of-self
invariant_of-self c =
    let s = c.self.inside in
    let set : c.set.new.self ≡ record { number = s.places.number; regs = begun_regs s.places.regs } = c.set.ensures ∙ ap (λ (r : WayRegs). record { number = s.places.number; regs = begun_regs r }) c.regs.ensures in
    subst (λ (p : PlacesState). IsKept p.number s.cap p.regs s.slots.items s.used) (sym set) (kept-begun s.places.number s.cap s.places.regs s.slots.items s.used c.self.invariant
    (subst (λ (v : WayState). v.shape.regs.growing ≡ false) (sym c.self.view_is) c.requires.still) (subst (λ (v : WayState). v.shape.regs.s < v.shape.cap) (sym c.self.view_is) c.requires.room))

pub returns : goal.returns
unfolding begun
returns c =
    let s = c.self.inside in
    let set : c.set.new.self ≡ record { number = s.places.number; regs = begun_regs s.places.regs } = c.set.ensures ∙ ap (λ (r : WayRegs). record { number = s.places.number; regs = begun_regs r }) c.regs.ensures in
    ap (λ (p : PlacesState). record { shape = way_of p.number s.cap p.regs (entries_of s.slots.items); loads = s.loads }) set
    ∙ ap (λ (v : WayState). record v { shape = begun v.shape }) c.self.view_is
