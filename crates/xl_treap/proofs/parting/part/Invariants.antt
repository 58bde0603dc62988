use Rattle.xl_treap.proofs.Common.{◌≤◌, down, IsCut, Over}
use Rattle.xl_treap.proofs.parting.part.Given as goal

abbrev pub invariant-loop-parts : goal.invariant-loop-parts
invariant-loop-parts g l = record {
  short : l.parts.depth ≤ l.depth;
  cut : IsCut l.fn.words l.words l.parts.low l.parts.high l.key (down g.tree l.key l.parts.depth);
  over : Over l.key (down g.tree l.key l.parts.depth);
}

abbrev pub decreases-loop-parts : goal.decreases-loop-parts
decreases-loop-parts g l = l.parts.depth
