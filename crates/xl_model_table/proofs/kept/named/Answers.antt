use Rattle.xl_model_table.proofs.Common.{◌∙◌, ap, arith, drop_all, find, is_leaf, sym}
use Rattle.xl_model_table.proofs.ScanLemmas.{find-here, find-past}
use Rattle.xl_model_table.proofs.kept.named.Goals as goal

pub returns-then-is_named : goal.returns-then-is_named
returns-then-is_named c =
    sym (find-here (is_leaf c.args.space c.args.first c.args.order) c.args.items.now c.loop-leaf.leaf-index c.leaf-item.result c.loop-leaf-test.true c.leaf-item.is (sym c.is_named.ensures ∙ c.if-is_named.true))
    ∙ c.loop-leaf.invariant

pub loop-leaf-preserved : goal.loop-leaf-preserved
loop-leaf-preserved c =
    find-past (is_leaf c.args.space c.args.first c.args.order) c.args.items.now c.loop-leaf.leaf-index c.leaf-item.result c.loop-leaf-test.true c.leaf-item.is (sym c.is_named.ensures ∙ c.if-is_named.false)
    ∙ c.loop-leaf.invariant

pub returns : goal.returns
returns c =
    sym (ap (find (is_leaf c.args.space c.args.first c.args.order)) (drop_all c.loop-leaf.leaf-index c.args.items.now (omega arith))) ∙ c.loop-leaf.invariant
