use Rattle.xl_way.proofs.Common.{◌<◌, ◌==◌, ◌∙◌, ◌≡◌, ap, arith, cell, cond, Entry, false, length, List, nat_tests, None, occupant, refl, Some, sym, true, WayState}
use Rattle.xl_way.proofs.WayLemmas.{occupant-is, slot-inside, standing_in}
use Rattle.xl_way.proofs.way.Way.is_free.Goals as goal

pub is_empty-requires : goal.is_empty-requires
is_empty-requires c =
    let s = c.self.inside in
    let l = slot-inside s.places.number s.cap s.places.regs s.slots.items s.used c.args.key c.self.invariant in
    let e = c.slot-at.ensures.is in
    let n = ap (λ (xs : List Entry). length xs) c.deref.ensures.value in
    omega arith

empty-none : (x : Entry) → x.word ≡ 0 → standing_in x ≡ None
empty-none x z = let t : (x.word == 0) ≡ true = grind (arith, nat_tests) in rw t refl

none-empty : (x : Entry) → standing_in x ≡ None → x.word ≡ 0
none-empty x h =
    elim (x.word == 0) as (λ b. (x.word == 0) ≡ b → cond b None (Some x) ≡ None → x.word ≡ 0) [
      | true ↦ λ t e. grind (arith, nat_tests)
      | false ↦ λ t e. absurd (cc)
    ] refl h

pub returns : goal.returns
returns c =
    let s = c.self.inside in
    let l = slot-inside s.places.number s.cap s.places.regs s.slots.items s.used c.args.key c.self.invariant in
    let less : c.slot-at.result < length s.slots.items = rw c.slot-at.ensures.is l in
    let x : Entry = cell s.slots.items c.slot-at.result in
    let same : cell c.deref.result.now c.slot-at.result ≡ x = ap (λ (xs : List Entry). cell xs c.slot-at.result) c.deref.ensures.value in
    let is : occupant c.args.self.now.shape c.args.key ≡ standing_in x =
    ap (λ (v : WayState). occupant v.shape c.args.key) (sym c.self.view_is)
    ∙ occupant-is s.places.number s.cap s.places.regs s.slots.items c.args.key c.slot-at.result c.self.invariant.placed less c.slot-at.ensures.is in (
      λ t. is ∙ empty-none x (sym (ap (λ (e : Entry). e.word) same) ∙ c.is_empty.ensures.0 t),
      λ n. c.is_empty.ensures.1 (ap (λ (e : Entry). e.word) same ∙ none-empty x (sym is ∙ n)),
    )
