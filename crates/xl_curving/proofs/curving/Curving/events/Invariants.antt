use Rattle.xl_curving.proofs.Common.{◌≡◌, [], count_of, curve_scene_of, curved, curves_drained, event_at, events_from, states_after, take}
use Rattle.xl_curving.proofs.curving.Curving.events.Given as goal

abbrev pub invariant-loop-i : goal.invariant-loop-i
invariant-loop-i l = record {
  served : curve_scene_of l.rack l.self.areas l.self.curves.items ≡ states_after curved (take l.i (events_from (event_at l.command) 0 (count_of l.command)))
      (curves_drained l.fn.self.batch.items (curve_scene_of l.fn.rack l.fn.self.areas l.fn.self.curves.items));
  none : l.self.batch.items ≡ [];
  areas : l.self.areas ≡ l.fn.self.areas;
}
