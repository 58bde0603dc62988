use Rattle.xl_cuckoo.proofs.Common.{◌-◌, ◌<◌, ◌≡◌, [], attempt, displaced, key_of, keys_in_hand, length, map, shapes, undone}
use Rattle.xl_cuckoo.proofs.attempt.attempt.Given as goal

abbrev pub invariant-kicks : goal.invariant-kicks
invariant-kicks l = record {
  rest : attempt (l.limit - l._i) (shapes l.ways) l.at l.hand (map displaced l.moved.items) ≡ attempt l.limit (shapes l.initial.ways) l.start l.fn.entry [];
  back : undone l._i l.ways l.at l.hand ≡ l.initial.ways;
  inside : l.at < length l.ways;
  full : 0 < l.hand.word;
  known : length l.moved.items ≡ l._i;
  hands : keys_in_hand l._i l.ways l.at l.hand ≡ map key_of l.moved.items;
}
