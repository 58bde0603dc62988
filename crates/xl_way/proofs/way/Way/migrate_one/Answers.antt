use Rattle.xl_way.proofs.Common.{◌∙◌, ◌≡◌, advanced, ap, arith, entries_of, Entry, IsKept, length, List, moved, PlacesState, reach, regs_after, subst, sym, true, WayRegs, WayState, ℕ}
use Rattle.xl_way.proofs.FieldLemmas.{items-now}
use Rattle.xl_way.proofs.WayLemmas.{migrate-is, reach-in, way_of}
use Rattle.xl_way.proofs.way.Way.migrate_one.Goals as goal

pub migrate_slot-requires-clause-room : goal.migrate_slot-requires-clause-room
migrate_slot-requires-clause-room c =
    let s = c.self.inside in
    let l = reach-in s.places.number s.cap s.places.regs s.slots.items s.used c.self.invariant (subst (λ (v : WayState). v.shape.regs.growing ≡ true) (sym c.self.view_is) c.requires) in
    let n = ap (λ (xs : List Entry). length xs) c.deref_mut.ensures.value in
    let q = ap reach c.regs-regs.ensures in
    omega arith

pub invariant_of-self : goal.invariant_of-self
invariant_of-self c =
    let s = c.self.inside in
    let done = migrate-is s.places.number s.cap s.places.regs s.slots.items s.used c.self.invariant (subst (λ (v : WayState). v.shape.regs.growing ≡ true) (sym c.self.view_is) c.requires) in
    let is : c.migrate_slot.new.slots ≡ moved s.places.regs s.places.number s.slots.items =
    c.migrate_slot.ensures
    ∙ ap (λ (r : WayRegs). moved r c.number.result c.deref_mut.result.now) c.regs-regs.ensures
    ∙ ap (λ (n : ℕ). moved s.places.regs n c.deref_mut.result.now) c.number.ensures
    ∙ ap (moved s.places.regs s.places.number) c.deref_mut.ensures.value in
    let now : c.set.new.self ≡ record { number = s.places.number; regs = regs_after 1 s.places.regs } =
    c.set.ensures ∙ ap (λ (r : WayRegs). record { number = s.places.number; regs = r }) (c.stepped.ensures ∙ ap (regs_after 1) c.regs-regs.ensures) in
    let items = items-now s c.migrate_slot.new.slots (moved s.places.regs s.places.number s.slots.items) is (done.kept.size ∙ sym c.self.invariant.size) in
    let R : PlacesState → Type 0 = λ p. IsKept p.number s.cap p.regs (moved s.places.regs s.places.number s.slots.items) s.used in
    subst (λ (xs : List Entry). IsKept c.set.new.self.number s.cap c.set.new.self.regs xs s.used) (sym items) (subst R (sym now) done.kept)

pub returns : goal.returns
unfolding advanced
returns c =
    let s = c.self.inside in
    let done = migrate-is s.places.number s.cap s.places.regs s.slots.items s.used c.self.invariant (subst (λ (v : WayState). v.shape.regs.growing ≡ true) (sym c.self.view_is) c.requires) in
    let is : c.migrate_slot.new.slots ≡ moved s.places.regs s.places.number s.slots.items =
    c.migrate_slot.ensures
    ∙ ap (λ (r : WayRegs). moved r c.number.result c.deref_mut.result.now) c.regs-regs.ensures
    ∙ ap (λ (n : ℕ). moved s.places.regs n c.deref_mut.result.now) c.number.ensures
    ∙ ap (moved s.places.regs s.places.number) c.deref_mut.ensures.value in
    let now : c.set.new.self ≡ record { number = s.places.number; regs = regs_after 1 s.places.regs } =
    c.set.ensures ∙ ap (λ (r : WayRegs). record { number = s.places.number; regs = r }) (c.stepped.ensures ∙ ap (regs_after 1) c.regs-regs.ensures) in
    let items = items-now s c.migrate_slot.new.slots (moved s.places.regs s.places.number s.slots.items) is (done.kept.size ∙ sym c.self.invariant.size) in
    ap (λ (xs : List Entry). record { shape = way_of c.set.new.self.number s.cap c.set.new.self.regs (entries_of xs); loads = s.loads }) items
    ∙ ap (λ (es : List Entry). record { shape = way_of c.set.new.self.number s.cap c.set.new.self.regs es; loads = s.loads }) done.entries
    ∙ ap (λ (p : PlacesState). record { shape = way_of p.number s.cap p.regs (entries_of s.slots.items); loads = s.loads }) now
    ∙ ap (λ (v : WayState). record v { shape = advanced 1 v.shape }) c.self.view_is
