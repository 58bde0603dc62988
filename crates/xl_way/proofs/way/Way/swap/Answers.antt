use Rattle.xl_way.proofs.Common.{◌+◌, ◌<◌, ◌∙◌, ◌≡◌, ap, arith, cell, entries_of, Entry, IsKept, List, None, occupant, refl, set, subst, swapped, sym, WayState, with_items}
use Rattle.xl_way.proofs.FieldLemmas.{inside-now, items-set, swapped-now}
use Rattle.xl_way.proofs.WayLemmas.{few-used, kept-set, occupant-is, some-word, standing_in, swap-back, swap-more, way_of}
use Rattle.xl_way.proofs.way.Way.swap.Goals as goal

pub exchange-left-requires : goal.exchange-left-requires
exchange-left-requires c =
    inside-now c.self.inside c.deref_mut.result.now c.args.key c.slot-at.result c.self.invariant c.deref_mut.ensures.value c.slot-at.ensures.is

pub overflow_add-self : goal.overflow_add-self
overflow_add-self c =
    let s = c.self.inside in
    let l = few-used s.places.number s.cap s.places.regs s.slots.items s.used c.self.invariant in
    omega arith

-- where no entry was in the slot
pub invariant_of-self : goal.invariant_of-self
invariant_of-self c =
    let s = c.self.inside in
    let at = c.slot-at.result in
    let x : Entry = record { key = c.args.key; word = c.args.word } in
    let less = inside-now s s.slots.items c.args.key at c.self.invariant refl c.slot-at.ensures.is in
    let items = items-set s c.deref_mut.result.now c.exchange-left.new.slots at x c.deref_mut.ensures.value c.exchange-left.ensures.slots in
    let left : c.exchange-left.result ≡ cell s.slots.items at = rw c.deref_mut.ensures.value at c.exchange-left.ensures.left in
    let more = swap-more s.places.number s.places.regs s.slots.items at x c.self.invariant.placed less c.slot-at.ensures.is c.requires (sym (ap (λ (e : Entry). e.word) left) ∙ c.if-left-eq0.true) in
    let K : List Entry → Type 0 = λ xs. IsKept s.places.number s.cap s.places.regs xs (s.used + 1) in
    subst K (sym items) (kept-set s.places.number s.cap s.places.regs s.slots.items s.used at x (s.used + 1) c.self.invariant less
    (λ f. sym c.slot-at.ensures.is) (λ z. absurd (let r = c.requires in omega arith)) (let n = c.self.invariant.count in omega arith))

pub returns-then-left-eq0-clause-left : goal.returns-then-left-eq0-clause-left
returns-then-left-eq0-clause-left c =
    let s = c.self.inside in
    let at = c.slot-at.result in
    let less = inside-now s s.slots.items c.args.key at c.self.invariant refl c.slot-at.ensures.is in
    let left : c.exchange-left.result ≡ cell s.slots.items at = rw c.deref_mut.ensures.value at c.exchange-left.ensures.left in
    let none : standing_in c.exchange-left.result ≡ None = rw c.if-left-eq0.true refl in
    sym (ap (λ (v : WayState). occupant v.shape c.args.key) (sym c.self.view_is)
    ∙ occupant-is s.places.number s.cap s.places.regs s.slots.items c.args.key at c.self.invariant.placed less c.slot-at.ensures.is
    ∙ ap standing_in (sym left) ∙ none)

pub returns-then-left-eq0-clause-shape : goal.returns-then-left-eq0-clause-shape
returns-then-left-eq0-clause-shape c =
    swapped-now c.self.inside c.args.self.now c.deref_mut.result.now c.exchange-left.new.slots c.slot-at.result (record { key = c.args.key; word = c.args.word })
    c.self.invariant c.self.view_is c.deref_mut.ensures.value c.exchange-left.ensures.slots c.slot-at.ensures.is c.requires

-- where an entry was there
pub invariant_of-self-else-left-eq0 : goal.invariant_of-self-else-left-eq0
invariant_of-self-else-left-eq0 c =
    let s = c.self.inside in
    let at = c.slot-at.result in
    let x : Entry = record { key = c.args.key; word = c.args.word } in
    let less = inside-now s s.slots.items c.args.key at c.self.invariant refl c.slot-at.ensures.is in
    let items = items-set s c.deref_mut.result.now c.exchange-left.new.slots at x c.deref_mut.ensures.value c.exchange-left.ensures.slots in
    let left : c.exchange-left.result ≡ cell s.slots.items at = rw c.deref_mut.ensures.value at c.exchange-left.ensures.left in
    let full : 0 < (cell s.slots.items at).word = (let w = ap (λ (e : Entry). e.word) left in let f = c.if-left-eq0.false in omega arith) in
    let done = swap-back s.places.number s.cap s.places.regs s.slots.items at x c.self.invariant.placed less c.slot-at.ensures.is c.requires full in
    subst (λ (xs : List Entry). IsKept s.places.number s.cap s.places.regs xs s.used) (sym items) (kept-set s.places.number s.cap s.places.regs s.slots.items s.used at x s.used c.self.invariant less
    (λ f. sym c.slot-at.ensures.is) (λ z. absurd (let r = c.requires in omega arith)) (c.self.invariant.count ∙ sym done.same))

pub returns-else-left-eq0 : goal.returns-else-left-eq0
returns-else-left-eq0 c =
    let s = c.self.inside in
    let at = c.slot-at.result in
    let less = inside-now s s.slots.items c.args.key at c.self.invariant refl c.slot-at.ensures.is in
    let left : c.exchange-left.result ≡ cell s.slots.items at = rw c.deref_mut.ensures.value at c.exchange-left.ensures.left in
    let full : 0 < c.exchange-left.result.word = (let f = c.if-left-eq0.false in omega arith) in
    let x : Entry = record { key = c.args.key; word = c.args.word } in
    let items = items-set s c.deref_mut.result.now c.exchange-left.new.slots at x c.deref_mut.ensures.value c.exchange-left.ensures.slots in
    record {
      left =
          sym (ap (λ (v : WayState). occupant v.shape c.args.key) (sym c.self.view_is)
          ∙ occupant-is s.places.number s.cap s.places.regs s.slots.items c.args.key at c.self.invariant.placed less c.slot-at.ensures.is
          ∙ ap standing_in (sym left) ∙ some-word c.exchange-left.result full);
      shape =
          swapped-now c.self.inside c.args.self.now c.deref_mut.result.now c.exchange-left.new.slots c.slot-at.result (record { key = c.args.key; word = c.args.word })
          c.self.invariant c.self.view_is c.deref_mut.ensures.value c.exchange-left.ensures.slots c.slot-at.ensures.is c.requires;
      back =
          let full : 0 < (cell s.slots.items at).word = (let w = ap (λ (e : Entry). e.word) left in let f = c.if-left-eq0.false in omega arith) in
          let done = swap-back s.places.number s.cap s.places.regs s.slots.items at x c.self.invariant.placed less c.slot-at.ensures.is c.requires full in
          ap (λ (v : WayState). v.shape) (sym c.self.view_is) ∙ done.back
          ∙ ap (λ (xs : List Entry). swapped (way_of s.places.number s.cap s.places.regs (entries_of xs)) (cell s.slots.items at)) (sym items)
          ∙ ap (λ (e : Entry). swapped (way_of s.places.number s.cap s.places.regs (entries_of (with_items s.slots c.exchange-left.new.slots).items)) e) (sym left);
      again =
          let full : 0 < (cell s.slots.items at).word = (let w = ap (λ (e : Entry). e.word) left in let f = c.if-left-eq0.false in omega arith) in
          let done = swap-back s.places.number s.cap s.places.regs s.slots.items at x c.self.invariant.placed less c.slot-at.ensures.is c.requires full in
          ap (λ (xs : List Entry). occupant (way_of s.places.number s.cap s.places.regs (entries_of xs)) c.exchange-left.result.key) items
          ∙ ap (λ (e : Entry). occupant (way_of s.places.number s.cap s.places.regs (entries_of (set s.slots.items at x))) e.key) left
          ∙ done.again;
      full = full;
    }
