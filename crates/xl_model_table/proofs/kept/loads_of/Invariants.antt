use Rattle.xl_model_table.proofs.Common.{◌+◌, ◌≡◌, ◌≤◌, drop}
use Rattle.xl_model_table.proofs.ScanLemmas.{searched}
use Rattle.xl_model_table.proofs.kept.loads_of.Given as goal

abbrev pub invariant-loop-leaf : goal.invariant-loop-leaf
invariant-loop-leaf l =
    (l.loads + searched l.buckets l.bucket l.tag (drop l.leaf-index l.items) ≡ 1 + searched l.buckets l.bucket l.tag l.items)
    × (l.loads ≤ l.leaf-index + 1)
