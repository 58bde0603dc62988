use Rattle.xl_way.proofs.Common.{◌-◌, ◌∙◌, ◌≡◌, ap, arith, entries_of, Entry, is_held, IsKept, length, List, no_entry, refl, subst, sym, true, WayState, without_entry}
use Rattle.xl_way.proofs.FieldLemmas.{items-set}
use Rattle.xl_way.proofs.WayLemmas.{clear-is, held-is, kept-set, slot-inside, way_of}
use Rattle.xl_way.proofs.way.Way.clear.Goals as goal

pub exchange-requires : goal.exchange-requires
exchange-requires c =
    let s = c.self.inside in
    let l = slot-inside s.places.number s.cap s.places.regs s.slots.items s.used c.args.key c.self.invariant in
    let e = c.slot-at.ensures.is in
    let n = ap (λ (xs : List Entry). length xs) c.deref_mut.ensures.value in
    omega arith

pub invariant_of-self : goal.invariant_of-self
invariant_of-self c =
    let s = c.self.inside in
    let H : WayState → Type 0 = λ v. is_held v.shape c.args.key ≡ true in
    let less = slot-inside s.places.number s.cap s.places.regs s.slots.items s.used c.args.key c.self.invariant in
    let here = held-is s.places.number s.cap s.places.regs s.slots.items s.used c.args.key c.slot-at.result c.self.invariant c.slot-at.ensures.is (subst H (sym c.self.view_is) c.requires) in
    let items = items-set s c.deref_mut.result.now c.exchange.new.slots c.slot-at.result no_entry c.deref_mut.ensures.value c.exchange.ensures.slots in
    let K : List Entry → Type 0 = λ xs. IsKept s.places.number s.cap s.places.regs xs (s.used - 1) in
    subst K (sym items) (kept-set s.places.number s.cap s.places.regs s.slots.items s.used c.slot-at.result no_entry (s.used - 1) c.self.invariant
    (rw c.slot-at.ensures.is less) (λ f. absurd (f refl)) (λ z. refl) (let n = here.count in omega arith))

pub returns : goal.returns
returns c =
    let s = c.self.inside in
    let H : WayState → Type 0 = λ v. is_held v.shape c.args.key ≡ true in
    let here = held-is s.places.number s.cap s.places.regs s.slots.items s.used c.args.key c.slot-at.result c.self.invariant c.slot-at.ensures.is (subst H (sym c.self.view_is) c.requires) in
    let items = items-set s c.deref_mut.result.now c.exchange.new.slots c.slot-at.result no_entry c.deref_mut.ensures.value c.exchange.ensures.slots in
    ap (λ (xs : List Entry). record { shape = way_of s.places.number s.cap s.places.regs (entries_of xs); loads = s.loads }) items
    ∙ ap (λ w. record { shape = w; loads = s.loads }) (clear-is s.places.number s.cap s.places.regs s.slots.items s.used c.args.key c.slot-at.result here)
    ∙ ap (λ (v : WayState). record v { shape = without_entry c.args.key v.shape }) c.self.view_is
