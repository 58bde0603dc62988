use Rattle.xl_areas.proofs.Common.{◌-◌, ◌∙◌, ◌≡◌, arith, None, suc, sym}
use Rattle.xl_areas.proofs.CountLemmas.{answer-last, answer-none}
use Rattle.xl_areas.proofs.bounds.answer.Goals as goal

pub returns-then-count-eq0 : goal.returns-then-count-eq0
returns-then-count-eq0 c = sym (answer-none c.args.key None c.args.bounds.now (sym c.count-count.ensures.value ∙ c.if-count-eq0.true))

pub returns : goal.returns
returns c =
    let n = c.count-count.result - 1 in
    let some : c.count-count.result ≡ suc n = omega (arith, c.if-count-eq0.false) in
    sym (answer-last c.args.key n None c.args.bounds.now c.index-bounds-count.result (sym c.count-count.ensures.value ∙ some))
