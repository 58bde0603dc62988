use Rattle.xl_way.proofs.Common.{◌∙◌, ◌≡◌, ap, look_of, None, Option, refl, slot_back, Some, sym, WayRegs, WayState, word_of, words_of, ℕ}
use Rattle.xl_way.proofs.WordLemmas.{look-is}
use Rattle.xl_way.specs.declared.found.Look.{Look}
use Rattle.xl_way.specs.declared.found.Look.TheVariants.{Found}
use Rattle.xl_way.proofs.way.Way.probe.Goals as goal

found-some : (l : Look) (word : ℕ) (o : Option ℕ) → l ≡ Found word → l ≡ look_of o → Some word ≡ o
found-some l word None is e = absurd (cc)
found-some l word (Some w) is e = cc

found-none : (l : Look) (o : Option ℕ) → ((word : ℕ) → l ≡ Found word → ⊥) → l ≡ look_of o → None ≡ o
found-none l None not e = refl
found-none l (Some w) not e = absurd (not w e)

pub returns-in-Found-clause-word : goal.returns-in-Found-clause-word
returns-in-Found-clause-word c =
    let s = c.self.inside in
    found-some c.look.result c.in-Found.word (word_of c.args.key c.args.self.now.shape.entries) c.in-Found.is
    (c.look.ensures.is ∙ ap (λ (r : WayRegs). slot_back (words_of c.args.self.now.shape) r c.number-number.result c.args.key) c.regs-regs.ensures
    ∙ ap (λ (n : ℕ). slot_back (words_of c.args.self.now.shape) s.places.regs n c.args.key) c.number-number.ensures
    ∙ ap (λ (v : WayState). slot_back (words_of v.shape) s.places.regs s.places.number c.args.key) (sym c.self.view_is)
    ∙ look-is s.places.number s.cap s.places.regs s.slots.items s.used c.self.invariant c.args.key
    ∙ ap (λ (v : WayState). look_of (word_of c.args.key v.shape.entries)) c.self.view_is)

pub returns-in_default : goal.returns-in_default
returns-in_default c =
    let s = c.self.inside in
    record {
      word = found-none c.look.result (word_of c.args.key c.args.self.now.shape.entries) c.in_default.not-Found
          (c.look.ensures.is ∙ ap (λ (r : WayRegs). slot_back (words_of c.args.self.now.shape) r c.number-number.result c.args.key) c.regs-regs.ensures
          ∙ ap (λ (n : ℕ). slot_back (words_of c.args.self.now.shape) s.places.regs n c.args.key) c.number-number.ensures
          ∙ ap (λ (v : WayState). slot_back (words_of v.shape) s.places.regs s.places.number c.args.key) (sym c.self.view_is)
          ∙ look-is s.places.number s.cap s.places.regs s.slots.items s.used c.self.invariant c.args.key
          ∙ ap (λ (v : WayState). look_of (word_of c.args.key v.shape.entries)) c.self.view_is);
      load = c.look.ensures.bus;
    }
