-- Items that are queued.
use Rattle.std.specs.Prelude.{◌≡◌, ℕ, List, [], ◌∷◌, ◌++◌, length, map, take, drop, sum_by}
use Rattle.xl_model.specs.declared.script.Item.{Item}
use Rattle.xl_model.specs.declared.script.Item.TheVariants.{Command, Referenced}
use Rattle.xl_model.specs.Courses.{Accesses, Trail, accesses_items}
use Rattle.xl_model.specs.Scenes.{Scene, scenes_after}
use Rattle.xl_lackey.specs.declared.skim.Access.{Access}
use Rattle.xl_serving.specs.declared.batch.BatchedEvent.{BatchedEvent}

-- A queued access, as an item. No line of it is written, so the number of its record doesn't
-- matter.
abbrev pub item_of : Access → Item
item_of a = Referenced 0 a.va a.kind

-- The items of accesses with events among them: for each event the accesses of its gap and then its
-- command, and at the end the accesses after the last event.
abbrev pub items_batched : List Access → List BatchedEvent → List Item
items_batched accesses [] = map item_of accesses
items_batched accesses (w ∷ events) = map item_of (take w.gap accesses) ++ Command w.event ∷ items_batched (drop w.gap accesses) events

-- How many accesses come before the last of some events.
abbrev pub gaps : List BatchedEvent → ℕ
gaps events = sum_by (λ (w : BatchedEvent). w.gap) events

-- The queue: accesses, and events among them.
pub record Backlog : Type 0 where
  pub accesses : List Access
  pub events : List BatchedEvent

-- The items of the queue.
abbrev pub deferred : Backlog → List Item
deferred w = items_batched w.accesses w.events

-- The scene after the queue.
abbrev pub drained : Backlog → Scene → Scene
drained w s = scenes_after (deferred w) s

-- The items of some records, one record after another.
abbrev pub items_of_all : List Accesses → List Item
items_of_all [] = []
items_of_all (r ∷ rs) = accesses_items r.number r.accesses ++ items_of_all rs

-- `count` records were the first of what was left, and the rest of it is left; their items are
-- queued after those that were there. `reads_from` says that the trace is fed from its file alone
-- still.
pub record BatchesMore (reads_from : Type 0) (t u : Trail) (before after : Backlog) (count : ℕ) : Type 0 where
  pub still_reads : reads_from
  pub taken : List Accesses
  pub split : t ≡ record u { records = taken ++ u.records }
  pub follow : (s : Scene) → drained after s ≡ scenes_after (items_of_all taken) (drained before s)
  pub many : length taken ≡ count
