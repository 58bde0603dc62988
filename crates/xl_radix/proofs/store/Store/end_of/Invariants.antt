use Rattle.xl_radix.proofs.Common.{◌<◌, ◌≤◌, IsAtNode}
use Rattle.xl_radix.proofs.store.Store.end_of.Given as goal

abbrev pub decreases-down : goal.decreases-down
decreases-down g l = l.level

abbrev pub invariant-down : goal.invariant-down
invariant-down g l = record {
  least_in : l.least ≤ l.level;
  level_in : l.level < g.row.LEVELS;
  at : IsAtNode l.space l.page l.level l.node l.self.nodes;
}
