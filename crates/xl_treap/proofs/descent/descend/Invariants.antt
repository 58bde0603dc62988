use Rattle.xl_treap.proofs.WayLemmas.{IsUpTo}
use Rattle.xl_treap.proofs.descent.descend.Given as goal

abbrev pub invariant-down : goal.invariant-down
invariant-down g l = IsUpTo l.words l.path g.tree l.key l.depth l.at
