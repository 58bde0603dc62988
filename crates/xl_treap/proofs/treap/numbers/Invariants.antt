use Rattle.xl_treap.proofs.Common.{◌≡◌, ◌≤◌, upto, vec_capacity}
use Rattle.xl_treap.proofs.treap.numbers.Given as goal

abbrev pub invariant-loop-i : goal.invariant-loop-i
invariant-loop-i l = record {
  items : l.all.items ≡ upto l.i;
  room : l.n ≤ vec_capacity l.all;
}
