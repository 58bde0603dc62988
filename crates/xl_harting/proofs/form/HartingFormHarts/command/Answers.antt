use Rattle.xl_harting.proofs.Common.{[], All-tail, event_at, events_from, harts_form, IsReady, refl, served_commands}
use Rattle.xl_harting.proofs.EventLemmas.{no_events}
use Rattle.xl_harting.proofs.form.HartingFormHarts.command.Goals as goal

pub returns-in-Events-clause-served : goal.returns-in-Events-clause-served
returns-in-Events-clause-served g c =
    rw c.in-Events.is (served_commands harts_form g.K.Sink.sink c.args._answers (events_from (event_at c.in-Events.first) 0 c.in-Events.n)
    c.args.harts.now c.serve_events.new.harts c.args._out.now c.serve_events.ensures)

pub returns-in-Events-clause-can : goal.returns-in-Events-clause-can
returns-in-Events-clause-can g c rest h = All-tail IsReady c.args.command rest h

pub returns-in_default : goal.returns-in_default
returns-in_default g c = record {
  served = rw (no_events c.args.command c.in_default.not-Events)
      (served_commands harts_form g.K.Sink.sink c.args._answers [] c.args.harts.now c.args.harts.now c.args._out.now refl);
  can = λ rest h. All-tail IsReady c.args.command rest h;
}
