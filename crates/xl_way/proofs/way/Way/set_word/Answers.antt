use Rattle.xl_way.proofs.Common.{◌∙◌, ◌≡◌, ap, arith, entries_of, Entry, is_held, IsKept, List, refl, subst, sym, true, WayShape, WayState, with_word}
use Rattle.xl_way.proofs.FieldLemmas.{inside-now, items-set}
use Rattle.xl_way.proofs.WayLemmas.{held-is, kept-set, reword-is, way_of}
use Rattle.xl_way.proofs.way.Way.set_word.Goals as goal

pub exchange-requires : goal.exchange-requires
exchange-requires c =
    inside-now c.self.inside c.deref_mut.result.now c.args.key c.slot-at.result c.self.invariant c.deref_mut.ensures.value c.slot-at.ensures.is

pub invariant_of-self : goal.invariant_of-self
invariant_of-self c =
    let s = c.self.inside in
    let at = c.slot-at.result in
    let x : Entry = record { key = c.args.key; word = c.args.word } in
    let H : WayState → Type 0 = λ v. is_held v.shape c.args.key ≡ true in
    let less = inside-now s s.slots.items c.args.key at c.self.invariant refl c.slot-at.ensures.is in
    let here = held-is s.places.number s.cap s.places.regs s.slots.items s.used c.args.key at c.self.invariant c.slot-at.ensures.is (subst H (sym c.self.view_is) c.requires.held) in
    let done = reword-is s.places.number s.cap s.places.regs s.slots.items s.used c.args.key c.args.word at c.self.invariant c.slot-at.ensures.is c.requires.some here in
    let items = items-set s c.deref_mut.result.now c.exchange.new.slots at x c.deref_mut.ensures.value c.exchange.ensures.slots in
    subst (λ (xs : List Entry). IsKept s.places.number s.cap s.places.regs xs s.used) (sym items) (kept-set s.places.number s.cap s.places.regs s.slots.items s.used at x s.used c.self.invariant less
    (λ f. sym c.slot-at.ensures.is) (λ z. absurd (let r = c.requires.some in omega arith)) (c.self.invariant.count ∙ sym done.same))

pub returns : goal.returns
returns c =
    let s = c.self.inside in
    let at = c.slot-at.result in
    let x : Entry = record { key = c.args.key; word = c.args.word } in
    let H : WayState → Type 0 = λ v. is_held v.shape c.args.key ≡ true in
    let here = held-is s.places.number s.cap s.places.regs s.slots.items s.used c.args.key at c.self.invariant c.slot-at.ensures.is (subst H (sym c.self.view_is) c.requires.held) in
    let done = reword-is s.places.number s.cap s.places.regs s.slots.items s.used c.args.key c.args.word at c.self.invariant c.slot-at.ensures.is c.requires.some here in
    let items = items-set s c.deref_mut.result.now c.exchange.new.slots at x c.deref_mut.ensures.value c.exchange.ensures.slots in
    ap (λ (xs : List Entry). record { shape = way_of s.places.number s.cap s.places.regs (entries_of xs); loads = s.loads }) items
    ∙ ap (λ (w : WayShape). record { shape = w; loads = s.loads }) done.shape
    ∙ ap (λ (v : WayState). record v { shape = with_word c.args.key c.args.word v.shape }) c.self.view_is
