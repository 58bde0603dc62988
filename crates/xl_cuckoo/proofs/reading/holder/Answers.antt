use Rattle.xl_cuckoo.proofs.Common.{◌+◌, ◌∙◌, ap, cond, drop, holder_from, is_some, Option, shapes, Some, sym, ℕ}
use Rattle.xl_cuckoo.proofs.LoopLemmas.{holder-here}
use Rattle.xl_cuckoo.proofs.reading.holder.Goals as goal

pub returns-then-is_some-clause-is : goal.returns-then-is_some-clause-is
returns-then-is_some-clause-is c =
    let ws = c.args.ways.now in
    let at = c.loop-at.at in
    sym (holder-here c.args.key ws at c.index-ways-at.result c.loop-at-test.true c.index-ways-at.is
    ∙ ap (λ b. cond b (Some at) (holder_from (at + 1) (shapes (drop (at + 1) ws)) c.args.key))
    (ap (λ (o : Option ℕ). is_some o) (sym c.get.ensures) ∙ sym c.is_some.ensures ∙ c.if-is_some.true))
    ∙ c.loop-at.invariant

pub loop-at-preserved : goal.loop-at-preserved
loop-at-preserved c =
    let ws = c.args.ways.now in
    let at = c.loop-at.at in
    sym (holder-here c.args.key ws at c.index-ways-at.result c.loop-at-test.true c.index-ways-at.is
    ∙ ap (λ b. cond b (Some at) (holder_from (at + 1) (shapes (drop (at + 1) ws)) c.args.key))
    (ap (λ (o : Option ℕ). is_some o) (sym c.get.ensures) ∙ sym c.is_some.ensures ∙ c.if-is_some.false))
    ∙ c.loop-at.invariant
