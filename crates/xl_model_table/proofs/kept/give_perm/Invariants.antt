use Rattle.xl_model_table.proofs.Common.{◌++◌, ◌≡◌, drop, map, take}
use Rattle.xl_model_table.proofs.GivenLemmas.{given}
use Rattle.xl_model_table.proofs.kept.give_perm.Given as goal

abbrev pub invariant-loop-leaf : goal.invariant-loop-leaf
invariant-loop-leaf l =
    l.items ≡ map (given l.space l.first l.order l.perm) (take l.leaf-index l.initial.items) ++ drop l.leaf-index l.initial.items
