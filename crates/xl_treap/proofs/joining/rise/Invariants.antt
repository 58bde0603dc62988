use Rattle.xl_treap.proofs.Common.{◌≤◌, down, IsAt, SameBut}
use Rattle.xl_treap.proofs.joining.rise.Given as goal

abbrev pub invariant-loop-depth : goal.invariant-loop-depth
invariant-loop-depth g l = record {
  short : l.depth ≤ l.fn.way.depth;
  here : IsAt l.words l.at (down g.tree l.key l.depth);
  but : SameBut (down g.tree l.key l.depth) l.fn.words l.words;
}

abbrev pub decreases-loop-depth : goal.decreases-loop-depth
decreases-loop-depth g l = l.depth
