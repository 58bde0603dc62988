use Rattle.xl_made.proofs.Common.{◌+◌, ◌-◌, ◌/◌, ◌∙◌, ◌≡◌, after, ap, arith, Lcg, List, sym, with_unmap, with_unmaps, word, ℕ}
use Rattle.xl_made.proofs.MadeLemmas.{next_unmap}
use Rattle.xl_made.proofs.script.made_script.Goals as goal

pub loop-preserved : goal.loop-preserved
loop-preserved c =
    let g = c.loop.generator in
    let next = c.next_word.new.self in
    let n = c.args.n / 64 in
    let i = c.loop.counter in
    let drawn : c.next_word.result ≡ word g = ap (λ p. p.0) c.next_word.ensures in
    let moved : next ≡ after g = ap (λ p. p.1) c.next_word.ensures in
    let added : c.add_unmap.new.script.items ≡ with_unmap (word g) c.loop.script.items = c.in_ok-add_unmap.ensures ∙ ap (λ (w : ℕ). with_unmap w c.loop.script.items) drawn in
    ap (λ (text : List ℕ). with_unmaps (n - (i + 1)) next text) added
    ∙ ap (λ (h : Lcg). with_unmaps (n - (i + 1)) h (with_unmap (word g) c.loop.script.items)) moved
    ∙ sym (next_unmap c.loop.script.items n i g (omega arith))
    ∙ c.loop.invariant
