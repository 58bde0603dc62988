use Rattle.xl_chain.proofs.Common.{◌+◌, ◌-◌, ◌<◌, ◌≡◌, ◌≤◌, IsLinked, loaded_before, search_back, search_from}
use Rattle.xl_chain.proofs.own.search.Given as goal

abbrev pub invariant-along : goal.invariant-along
invariant-along g l = record {
  linked : IsLinked l.shape l.words l.at (l.shape.entries + 1 - l.loads);
  few : (0 < l.loads) × (l.loads ≤ l.shape.entries + 1);
  rest : search_back l.words l.shape l.tag ≡ loaded_before l.loads (search_from (l.shape.entries + 1 - l.loads) l.words l.shape l.at l.tag);
}

abbrev pub decreases-along : goal.decreases-along
decreases-along g l = l.shape.entries + 1 - l.loads
