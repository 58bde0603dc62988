use Rattle.xl_model_table.proofs.Common.{◌++◌, ◌≡◌, drop, in_front, take}
use Rattle.xl_model_table.proofs.kept.place_of.Given as goal

abbrev pub invariant-loop-i : goal.invariant-loop-i
invariant-loop-i l = take l.i l.items ++ in_front l.buckets l.leaf (drop l.i l.items) ≡ in_front l.buckets l.leaf l.items
