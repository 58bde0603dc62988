use Rattle.xl_model_table.proofs.Common.{◌≡◌, drop, find, is_leaf}
use Rattle.xl_model_table.proofs.kept.named.Given as goal

abbrev pub invariant-loop-leaf : goal.invariant-loop-leaf
invariant-loop-leaf l = find (is_leaf l.space l.first l.order) (drop l.leaf-index l.items) ≡ find (is_leaf l.space l.first l.order) l.items
