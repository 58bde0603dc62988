use Rattle.xl_curve.proofs.Common.{◌≡◌, hits_below, length, map, range_with_len, take}
use Rattle.xl_curve.proofs.curve.totals.Given as goal

abbrev pub invariant-loop-at : goal.invariant-loop-at
invariant-loop-at l = record {
  all : length l.totals ≡ 64;
  total : l.total ≡ hits_below l.counts l.at;
  filled : take l.at l.totals ≡ map (hits_below l.counts) (range_with_len 1 l.at);
}
