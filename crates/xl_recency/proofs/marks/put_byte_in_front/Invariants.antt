use Rattle.xl_recency.proofs.Common.{◌<◌, ◌∷◌, ◌≡◌, ◌≤◌, get_or, length, remove, ℕ}
use Rattle.xl_recency.proofs.marks.put_byte_in_front.Given as goal

abbrev pub invariant-loop-place : goal.invariant-loop-place
invariant-loop-place g l = record {
  count : length l.bytes ≡ length l.fn.bytes;
  done : (k : ℕ) → k < l.place → get_or l.bytes k 0 ≡ get_or (l.byte ∷ remove l.fn.bytes l.at) k 0;
  rest : (k : ℕ) → l.place ≤ k → get_or l.bytes k 0 ≡ get_or l.fn.bytes k 0;
  next : l.carried ≡ get_or (l.byte ∷ l.fn.bytes) l.place 0;
}
