use Rattle.xl_serving.proofs.Common.{◌<◌, ◌∙◌, ◌≤◌, arith, count_of, event_at, nat_tests}
use Rattle.xl_course.proofs.ServedLemmas.{served_all, served_lost, served_next}
use Rattle.xl_serving.proofs.ItemLemmas.{length-events, the_nth_event}
use Rattle.xl_serving.proofs.plain.Bench.events.Goals as goal

pub returns-in-Err-clause-served : goal.returns-in-Err-clause-served
returns-in-Err-clause-served g c =
    let less : c.loop-i.i < count_of c.args.command = let e = c.count-i-end.ensures in grind (arith, nat_tests) in
    served_lost _ _ c.args.answers _ c.loop-i.i _ _ _ _ _ _ _ (the_nth_event (event_at c.args.command) (count_of c.args.command) c.loop-i.i c.nth_event.result less c.nth_event.ensures)
    c.loop-i.invariant.served c.in-Err.ensures.served

pub loop-i-preserved : goal.loop-i-preserved
loop-i-preserved g c =
    let less : c.loop-i.i < count_of c.args.command = let e = c.count-i-end.ensures in grind (arith, nat_tests) in
    record {
      served =
          served_next _ _ c.args.answers _ c.loop-i.i _ _ _ _ _ _ _ (the_nth_event (event_at c.args.command) (count_of c.args.command) c.loop-i.i c.nth_event.result less c.nth_event.ensures)
          c.loop-i.invariant.served c.in-Ok.ensures.served;
      areas = c.in-Ok.ensures.areas ∙ c.loop-i.invariant.areas;
    }

pub returns-clause-served : goal.returns-clause-served
returns-clause-served g c =
    let size = length-events (event_at c.args.command) 0 (count_of c.args.command) in
    let all : count_of c.args.command ≤ c.loop-i.i = let e = c.count-i-end.ensures in grind (arith, nat_tests) in
    served_all _ _ c.args.answers _ c.loop-i.i _ _ _ _ (omega arith) c.loop-i.invariant.served
