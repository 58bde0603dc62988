use Rattle.xl_serving.proofs.Common.{◌≡◌, count_of, drained, event_at, events_from, HasServed, plain, scene_of, take, true}
use Rattle.xl_serving.proofs.plain.Bench.events.Given as goal

abbrev pub invariant-loop-i : goal.invariant-loop-i
invariant-loop-i g l = record {
  served : HasServed plain g.K.Sink.sink l.answers (take l.i (events_from (event_at l.command) 0 (count_of l.command)))
      (drained l.fn.self.batch (scene_of (g.R.Rows.rows l.fn.rows) l.fn.self.areas)) (drained l.self.batch (scene_of (g.R.Rows.rows l.rows) l.self.areas)) l.fn.out l.out true;
  areas : l.self.areas ≡ l.fn.self.areas;
}
