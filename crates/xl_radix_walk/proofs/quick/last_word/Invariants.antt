use Rattle.xl_radix_walk.proofs.Common.{◌++◌, ◌-◌, ◌<◌, ◌^◌, ◌≡◌, ◌≤◌, AreFirst, List, radix_back, radix_path, take, ℕ}
use Rattle.xl_radix_walk.proofs.quick.last_word.Given as goal

abbrev pub invariant-down : goal.invariant-down
invariant-down l = record {
  low : l.level ≤ l.start;
  small : l.at < 2 ^ 54;
  end : l.at < 2 ^ 44 → (all : List ℕ) → AreFirst l.words all → radix_back all l.start l.fn.node l.page ≡ radix_back all l.level l.at l.page;
  path : l.at < 2 ^ 44 → (all : List ℕ) → AreFirst l.words all → radix_path all l.start l.fn.node l.page ≡ take (l.start - l.level) l.path ++ radix_path all l.level l.at l.page;
}

abbrev pub decreases-down : goal.decreases-down
decreases-down l = l.level
