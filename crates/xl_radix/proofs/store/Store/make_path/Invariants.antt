use Rattle.xl_radix.proofs.Common.{◌+◌, ◌-◌, ◌<◌, ◌≡◌, ◌≤◌, free_count, IsNearly, IsReady, with_path}
use Rattle.xl_radix.proofs.store.Store.make_path.Given as goal

abbrev pub decreases-down : goal.decreases-down
decreases-down g l = l.at.level

abbrev pub invariant-down : goal.invariant-down
invariant-down g l = record {
  low : l.least ≤ l.at.level;
  high : l.at.level < g.row.LEVELS;
  free : l.at.level ≤ free_count l.self.nodes + l.least;
  leaves : l.self.leaves ≡ l.initial.self.leaves;
  nodes : with_path l.space l.page l.least (l.at.level - l.least) l.self.nodes ≡ with_path l.space l.page l.least (l.initial.at.level - l.least) l.initial.self.nodes;
  spaces : l.self.spaces ≡ l.initial.self.spaces;
  ready : IsReady l.space l.page l.at.level l.at.node l.self.leaves l.self.nodes;
  nearly : IsNearly g.row.LEVELS l.space l.page l.least l.self.leaves l.self.nodes;
  count : free_count l.self.nodes + (l.initial.at.level - l.at.level) ≡ free_count l.initial.self.nodes;
  fall : l.at.level ≤ l.initial.at.level;
}
