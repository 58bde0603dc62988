use Rattle.xl_model_table.proofs.Common.{◌≡◌, covers, drop, find}
use Rattle.xl_model_table.proofs.kept.covering.Given as goal

abbrev pub invariant-loop-leaf : goal.invariant-loop-leaf
invariant-loop-leaf l = find (covers l.space l.page) (drop l.leaf-index l.items) ≡ find (covers l.space l.page) l.items
