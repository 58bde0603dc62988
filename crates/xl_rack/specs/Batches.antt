-- Items that a row is served one after another without lines, an access with the events of its demand.
use Rattle.std.specs.Prelude.{ℕ, List, [], ◌∷◌, Option, take, drop}
use Rattle.xl_model.specs.declared.address.Kind.{Kind}
use Rattle.xl_model.specs.declared.event.Event.TheVariants as event
use Rattle.xl_model.specs.declared.script.Area.{Area}
use Rattle.xl_model.specs.Items.{area_for, demanded, referenced}
use Rattle.xl_model.specs.Scenes.{Served}
use Rattle.xl_machine.specs.Served.{after_of}
use Rattle.xl_lackey.specs.declared.skim.Access.{Access}
use Rattle.xl_serving.specs.declared.batch.BatchedEvent.{BatchedEvent}

-- A row after what an area demands, where one does.
abbrev pub demand_after : Option Area → ℕ → Kind → Served → Served
demand_after area va k v = record v { state = demanded area v.row va (event.Access va k) v.state }

-- A row after the demand of an access that was unmapped.
abbrev pub demand_served : ℕ → Kind → List Area → Served → Served
demand_served va k areas v = demand_after (area_for v.state.space va areas) va k v

-- A row after an access, with the events of its demand.
abbrev pub access_served : ℕ → Kind → List Area → Served → Served
access_served va k areas v = record v { state = referenced v.row va k areas v.state }

-- A row after some accesses.
abbrev pub row_served : List Access → List Area → Served → Served
row_served [] areas v = v
row_served (a ∷ accesses) areas v = row_served accesses areas (access_served a.va a.kind areas v)

-- A row after accesses with events among them: for each event the accesses of its gap and then its
-- command, and at the end the accesses after the last event.
abbrev pub batch_served : List Access → List BatchedEvent → List Area → Served → Served
batch_served accesses [] areas v = row_served accesses areas v
batch_served accesses (w ∷ events) areas v =
    batch_served (drop w.gap accesses) events areas (after_of w.event (row_served (take w.gap accesses) areas v))
