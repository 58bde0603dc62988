use Rattle.xl_serving.proofs.AreaLemmas.{declared, no_area}
use Rattle.xl_serving.proofs.PlainLemmas.{can-area, can-events, events-items, placed, room}
use Rattle.xl_serving.proofs.plain.BenchForm.command.Goals as goal

pub declare-requires : goal.declare-requires
declare-requires g c = room c.args.command c.in-Demand.area c.requires.0 _ c.in-Demand.is c.requires.1.0

pub events-requires : goal.events-requires
events-requires g c = placed c.args.command c.requires.0 c.requires.1.1

pub returns-in-Demand-clause-served : goal.returns-in-Demand-clause-served
returns-in-Demand-clause-served g c = rw c.in-Demand.is (declared _ c.args.answers c.in-Demand.area _ _ _ c.declare.ensures.state)

pub returns-in-Demand-clause-can : goal.returns-in-Demand-clause-can
returns-in-Demand-clause-can g c = rw c.in-Demand.is (λ rest h. can-area c.in-Demand.area rest _ _ c.declare.ensures.areas h)

pub returns-in_default : goal.returns-in_default
returns-in_default g c = record {
  served = rw (events-items c.args.command (no_area c.args.command c.in_default.not-Demand)) c.events.ensures.served;
  can = λ rest h. can-events c.args.command rest _ _ c.events.ensures.areas h;
}
