use Rattle.xl_model_table.proofs.Common.{◌∙◌, ap, arith, covers, drop_all, find, sym}
use Rattle.xl_model_table.proofs.ScanLemmas.{find-here, find-past}
use Rattle.xl_model_table.proofs.kept.covering.Goals as goal

pub returns-then-covers : goal.returns-then-covers
returns-then-covers c =
    sym (find-here (covers c.args.space c.args.page) c.args.items.now c.loop-leaf.leaf-index c.leaf-item.result c.loop-leaf-test.true c.leaf-item.is (sym c.covers.ensures ∙ c.if-covers.true))
    ∙ c.loop-leaf.invariant

pub loop-leaf-preserved : goal.loop-leaf-preserved
loop-leaf-preserved c =
    find-past (covers c.args.space c.args.page) c.args.items.now c.loop-leaf.leaf-index c.leaf-item.result c.loop-leaf-test.true c.leaf-item.is (sym c.covers.ensures ∙ c.if-covers.false)
    ∙ c.loop-leaf.invariant

pub returns : goal.returns
returns c =
    sym (ap (find (covers c.args.space c.args.page)) (drop_all c.loop-leaf.leaf-index c.args.items.now (omega arith))) ∙ c.loop-leaf.invariant
