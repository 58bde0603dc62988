use Rattle.xl_radix_walk.proofs.Common.{◌++◌, ◌+◌, ◌-◌, ◌<◌, ◌^◌, ◌≡◌, ◌≤◌, length, loaded_times, radix_back, radix_path}
use Rattle.xl_radix_walk.proofs.walker.walk.Given as goal

abbrev pub invariant-loop-end : goal.invariant-loop-end
invariant-loop-end g l = record {
  low : l.level ≤ l.start;
  small : l.at < 2 ^ 44;
  bus_is : l.bus ≡ loaded_times g.B.Bus.loaded (l.start - l.level) l.fn.bus;
  words : g.B.Bus.words l.bus ≡ g.B.Bus.words l.fn.bus;
  end : radix_back (g.B.Bus.words l.fn.bus) l.start l.fn.node l.page ≡ radix_back (g.B.Bus.words l.fn.bus) l.level l.at l.page;
  path : radix_path (g.B.Bus.words l.fn.bus) l.start l.fn.node l.page ≡ l.path.items ++ radix_path (g.B.Bus.words l.fn.bus) l.level l.at l.page;
  room : length l.path.items + l.level ≡ l.start;
}

abbrev pub decreases-loop-end : goal.decreases-loop-end
decreases-loop-end g l = l.level
