use Rattle.xl_made.proofs.Common.{◌++◌, ◌+◌, ◌-◌, ◌<◌, ◌∙◌, ◌≡◌, after, ap, append_assoc, arith, Lcg, length, List, record_line, record_lines, sym, take, word, ℕ}
use Rattle.xl_made.proofs.MadeLemmas.{line-length, line_made, lines-length}
use Rattle.xl_made.proofs.trace.MadeTrace.give_line.Goals as goal

pub returns-clause-given : goal.returns-clause-given
returns-clause-given c =
    let t = c.self.inside in
    let g = t.generator in
    let at = c.args.at in
    let front = take at c.args.buf.now in
    let line = c.line-line.result in
    let drawn : c.next_word.result ≡ word g = ap (λ p. p.0) c.next_word.ensures in
    let moved : c.next_word.new.self ≡ after g = ap (λ p. p.1) c.next_word.ensures in
    let text : line ≡ record_line (word g) = c.line-line.ensures ∙ ap record_line drawn in
    let size : length line ≡ 14 = ap (λ (bs : List ℕ). length bs) text ∙ line-length (word g) in
    let whole = ap (λ (bs : List ℕ). length bs) c.self.view_is in
    let some : 0 < t.left = omega (arith, c.requires.some, whole, lines-length t.left g) in
    ap (λ (bs : List ℕ). front ++ bs)
    (sym c.self.view_is ∙ line_made t.left g some ∙ ap (λ (bs : List ℕ). bs ++ record_lines (t.left - 1) (after g)) (sym text)
    ∙ ap (λ (h : Lcg). line ++ record_lines (t.left - 1) h) (sym moved))
    ∙ sym (append_assoc front line (record_lines (t.left - 1) c.next_word.new.self))
    ∙ ap (λ (bs : List ℕ). bs ++ record_lines (t.left - 1) c.next_word.new.self)
    (sym c.put.ensures ∙ ap (λ (n : ℕ). take (at + n) c.put.new.line) size)

pub returns-clause-less : goal.returns-clause-less
returns-clause-less c =
    let t = c.self.inside in
    let whole = ap (λ (bs : List ℕ). length bs) c.self.view_is in
    omega (arith, c.requires.some, whole, lines-length t.left t.generator, lines-length (t.left - 1) c.next_word.new.self)
