use Rattle.xl_treap.proofs.BesideLemmas.{IsBetween, ranges_under}
use Rattle.xl_treap.proofs.beside.nodes_beside.Given as goal

abbrev pub invariant-down : goal.invariant-down
invariant-down g l = IsBetween l.words g.tree l.key l.at l.found

abbrev pub decreases-down : goal.decreases-down
decreases-down g l = ranges_under l.words g.tree l.at
