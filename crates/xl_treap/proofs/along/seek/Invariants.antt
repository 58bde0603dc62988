use Rattle.xl_treap.proofs.Common.{◌-◌, ◌≡◌, loaded_before, loaded_times, search_from}
use Rattle.xl_treap.proofs.along.seek.Given as goal

abbrev pub invariant-along : goal.invariant-along
invariant-along g l = record {
  words : g.B.Bus.words l.bus ≡ g.B.Bus.words l.fn.bus;
  bus : l.bus ≡ loaded_times g.B.Bus.loaded l.i l.fn.bus;
  rest : search_from l.nodes (g.B.Bus.words l.fn.bus) l.root l.key ≡ loaded_before l.i (search_from (l.nodes - l.i) (g.B.Bus.words l.fn.bus) l.at l.key);
}
