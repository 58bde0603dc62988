use Rattle.xl_way.proofs.Common.{◌∙◌, ◌∷◌, ◌≡◌, [], ap, arith, cell, entries_of, Entry, kept_of, length, List, nat_tests, None, refl, sym, WayState, word_in, word_of, ℕ}
use Rattle.xl_way.proofs.WayLemmas.{slot-inside, word-is}
use Rattle.xl_way.proofs.way.Way.get.Goals as goal

pub word_at-requires : goal.word_at-requires
word_at-requires c =
    let s = c.self.inside in
    let l = slot-inside s.places.number s.cap s.places.regs s.slots.items s.used c.args.key c.self.invariant in
    let e = c.slot-at.ensures.is in
    let n = ap (λ (xs : List Entry). length xs) c.deref.ensures.value in
    omega arith

pub returns : goal.returns
returns c =
    let s = c.self.inside in
    c.word_at.ensures ∙ ap (λ (xs : List Entry). word_in (kept_of c.args.key (cell xs c.slot-at.result))) c.deref.ensures.value
    ∙ sym (word-is s.places.number s.cap s.places.regs s.slots.items s.used c.args.key c.slot-at.result c.self.invariant c.slot-at.ensures.is)
    ∙ ap (λ (v : WayState). word_of c.args.key v.shape.entries) c.self.view_is

-- of no entries none has a key's word
none-kept : (key : ℕ) (es : List Entry) → length es ≡ 0 → word_of key es ≡ None
unfolding word_of
none-kept key [] h = refl
none-kept key (x ∷ es) h = absurd (omega arith)

pub returns-then-self-eq0 : goal.returns-then-self-eq0
returns-then-self-eq0 c =
    let s = c.self.inside in
    let is_zero : s.used ≡ 0 = grind (arith, nat_tests, c.if-self-eq0.true) in
    sym (ap (λ (v : WayState). word_of c.args.key v.shape.entries) (sym c.self.view_is) ∙ none-kept c.args.key (entries_of s.slots.items) (sym c.self.invariant.count ∙ is_zero))
