use Rattle.xl_cuckoo.proofs.Common.{◌∙◌, None, Some, sym}
use Rattle.xl_cuckoo.proofs.LoopLemmas.{value-end, value-here}
use Rattle.xl_cuckoo.proofs.reading.value.Goals as goal

pub returns-in-Some : goal.returns-in-Some
returns-in-Some c =
    sym (value-here c.args.key c.args.ways.now c.loop-way.way-index c.way-item.result (Some c.in-Some.word) c.loop-way-test.true c.way-item.is (sym c.get.ensures ∙ c.in-Some.is))
    ∙ c.loop-way.invariant

pub loop-way-preserved : goal.loop-way-preserved
loop-way-preserved c =
    sym (value-here c.args.key c.args.ways.now c.loop-way.way-index c.way-item.result None c.loop-way-test.true c.way-item.is (sym c.get.ensures ∙ c.in_default.is))
    ∙ c.loop-way.invariant

pub returns : goal.returns
returns c = sym (value-end c.args.key c.args.ways.now c.loop-way.way-index c.loop-way-test.false) ∙ c.loop-way.invariant
