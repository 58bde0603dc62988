use Rattle.xl_cuckoo.proofs.Common.{◌-◌, ◌<◌, ◌≡◌, key_of, keys_in_hand, length, map, take, undone}
use Rattle.xl_cuckoo.proofs.attempt.undo.Given as goal

abbrev pub invariant-back : goal.invariant-back
invariant-back l = record {
  rest : undone (length l.moved - l.i) l.ways l.at l.hand ≡ undone (length l.moved) l.initial.ways l.fn.at l.fn.hand;
  hands : keys_in_hand (length l.moved - l.i) l.ways l.at l.hand ≡ take (length l.moved - l.i) (map key_of l.moved);
  inside : l.at < length l.ways;
  full : 0 < l.hand.word;
}
