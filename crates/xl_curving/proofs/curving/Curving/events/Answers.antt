use Rattle.xl_curving.proofs.Common.{◌<◌, ◌∙◌, ◌≤◌, Access, ap, arith, Command, count_of, curve_scene_of, curved, curves_drained, event_at, events_from, Item, List, nat_tests, states_after, take_all}
use Rattle.xl_serving.proofs.ItemLemmas.{length-events, the_nth_event}
use Rattle.xl_curving.proofs.SceneLemmas.{next-item}
use Rattle.xl_curving.proofs.curving.Curving.events.Goals as goal

pub loop-i-preserved : goal.loop-i-preserved
loop-i-preserved c =
    let at = c.loop-i in
    let less : at.i < count_of c.args.command = let e = c.count-i-end.ensures in grind (arith, nat_tests) in
    let items = events_from (event_at c.args.command) 0 (count_of c.args.command) in
    record {
      served =
          next-item items at.i (Command c.nth_event.result) _ _ _
          (the_nth_event (event_at c.args.command) (count_of c.args.command) at.i c.nth_event.result less c.nth_event.ensures) at.invariant.served c.event.ensures.served;
      none = c.event.ensures.none;
      areas = c.event.ensures.areas ∙ at.invariant.areas;
    }

pub returns-clause-served : goal.returns-clause-served
returns-clause-served c =
    let at = c.loop-i in
    let size = length-events (event_at c.args.command) 0 (count_of c.args.command) in
    let all : count_of c.args.command ≤ at.i = let e = c.count-i-end.ensures in grind (arith, nat_tests) in
    let form = c.args.self.now in
    let before = curves_drained form.batch.items (curve_scene_of c.args.rack.now form.areas form.curves.items) in
    ap (λ (xs : List Access). curves_drained xs (curve_scene_of at.rack at.self.areas at.self.curves.items)) at.invariant.none
    ∙ at.invariant.served
    ∙ ap (λ (xs : List Item). states_after curved xs before) (take_all at.i (events_from (event_at c.args.command) 0 (count_of c.args.command)) (omega arith))
