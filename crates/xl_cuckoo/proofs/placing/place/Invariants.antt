use Rattle.xl_cuckoo.proofs.Common.{◌≡◌, growths_left, place, placing, SameEntries, shapes}
use Rattle.xl_cuckoo.proofs.placing.place.Given as goal

abbrev pub invariant-attempts : goal.invariant-attempts
invariant-attempts l = record {
  rest : placing (growths_left (shapes l.ways)) l.limit (shapes l.ways) l.entry l.moves ≡ place l.limit (shapes l.initial.ways) l.entry;
  kept : SameEntries (shapes l.initial.ways) (shapes l.ways);
}

abbrev pub decreases-attempts : goal.decreases-attempts
decreases-attempts l = growths_left (shapes l.ways)
