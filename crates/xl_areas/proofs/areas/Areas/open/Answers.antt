use Rattle.xl_areas.proofs.IndexLemmas.{no-index}
use Rattle.xl_areas.proofs.areas.Areas.open.Goals as goal

pub invariant_of-result : goal.invariant_of-result
invariant_of-result c = record {
  index = rw c.in_ok-with_capacity.ensures.items (rw c.in_ok-with_capacity-2.ensures.items no-index);
  room = c.in_ok-with_capacity.ensures.capacity;
  more = c.in_ok-with_capacity-2.ensures.capacity;
}
