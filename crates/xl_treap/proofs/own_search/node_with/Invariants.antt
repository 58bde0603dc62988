use Rattle.xl_treap.proofs.Common.{◌-◌, length, ranges}
use Rattle.xl_treap.proofs.OwnSearchLemmas.{IsLeft}
use Rattle.xl_treap.proofs.own_search.node_with.Given as goal

abbrev pub invariant-down : goal.invariant-down
invariant-down g l = IsLeft l.words g.tree l.key l.loads l.at

abbrev pub decreases-down : goal.decreases-down
decreases-down g l = length (ranges g.tree) - l.loads
