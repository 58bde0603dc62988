-- Events that are served one after another.
use Rattle.xl_chart.proofs.Common.{◌∙◌, ◌≡◌, again_where, ap, area_for, area_wanted, Charted, charted_again, charted_demand, charted_event, charted_item, curve_after, demanded, Event, HitCurve, Kind, List, map_of, None, Option, Outcome, outcome_of, referenced, refl, reply_to, Row, RowState, rule, Served, served_after, Some, state_after, subst, wanted, ℕ}
use Rattle.xl_machine.specs.Served.{after_of}
use Rattle.xl_model.specs.declared.script.Area.{Area}
use Rattle.xl_model.specs.declared.script.Item.{Item}
use Rattle.xl_model.specs.declared.script.Item.TheVariants.{Command, Declared, Referenced}
use Rattle.xl_chart.specs.Charts.{both, charted_access, curve_item, IsServedBeside, wanted_by}
use Rattle.xl_model.specs.declared.event.Event.TheVariants as event
use Rattle.xl_model.specs.declared.event.Outcome.TheVariants as outcome

-- One event.
pub event_served : (e : Event) (v w : Served) (c d : HitCurve) → w ≡ after_of e v → d ≡ curve_after v.row e v.state c
    → IsServedBeside (λ row. charted_event row e) v c w d
event_served e v w c d machine curve = record { machine = machine; curve = curve }

-- Two that follow one another.
pub in_turn : (f g : Row → Charted → Charted) (v w x : Served) (c d b : HitCurve) → IsServedBeside f v c w d → IsServedBeside g w d x b
    → IsServedBeside (λ row p. g row (f row p)) v c x b
in_turn f g v w x c d b first second =
    let was : Served = record v { state = (f v.row (both v c)).state } in
    let machine : x ≡ record was { state = (g was.row (both was d)).state } =
    subst (λ (z : Served). x ≡ record z { state = (g z.row (both z d)).state }) first.machine second.machine in
    let curve : b ≡ (g was.row (both was d)).curve = subst (λ (z : Served). b ≡ (g z.row (both z d)).curve) first.machine second.curve in
    record {
      machine = machine ∙ ap (λ (h : HitCurve). let z : Served = record v { state = (g v.row (both was h)).state } in z) first.curve;
      curve = curve ∙ ap (λ (h : HitCurve). (g v.row (both was h)).curve) first.curve;
    }

-- Where the map of a demand is not done, nothing follows.
pub not_again : (o : Outcome) (access : Event) (v : Served) (c : HitCurve) → (o ≡ outcome.Done → ⊥) → IsServedBeside (λ row. charted_again o row access) v c v c
not_again outcome.Done access v c n = absurd (n refl)
not_again (outcome.Replied answer) access v c n = record { machine = refl; curve = refl }
not_again (outcome.Refused r) access v c n = record { machine = refl; curve = refl }

-- A demand: its map, and the access once more.
pub demand_served : (area : Area) (va : ℕ) (access : Event) (o : Outcome) (v w x : Served) (c d b : HitCurve) → o ≡ outcome_of v.row (map_of area va) v.state
    → IsServedBeside (λ row. charted_event row (map_of area va)) v c w d → IsServedBeside (λ row. charted_again o row access) w d x b
    → IsServedBeside (λ row. charted_demand (Some area) row va access) v c x b
demand_served area va access o v w x c d b e first second =
    let r : IsServedBeside (λ row p. charted_again o row access (charted_event row (map_of area va) p)) v c x b =
    in_turn (λ row. charted_event row (map_of area va)) (λ row. charted_again o row access) v w x c d b first second in
    let s : IsServedBeside (λ row p. charted_again (outcome_of v.row (map_of area va) v.state) row access (charted_event row (map_of area va) p)) v c x b =
    subst (λ (k : Outcome). IsServedBeside (λ row p. charted_again k row access (charted_event row (map_of area va) p)) v c x b) e r in
    record { machine = s.machine; curve = s.curve }

pub not_demanded : (va : ℕ) (access : Event) (v : Served) (c : HitCurve) → IsServedBeside (λ row. charted_demand None row va access) v c v c
not_demanded va access v c = record { machine = refl; curve = refl }

-- The outcome of an access is its reply.
access_outcome : (row : Row) (va : ℕ) (kind : Kind) (s : RowState) (o : Option Area) → wanted_by (outcome_of row (event.Access va kind) s) o ≡ wanted (reply_to row s va kind) o
unfolding outcome_of rule
access_outcome row va kind s o = refl

-- An access, and its demand.
pub access_served : (va : ℕ) (kind : Kind) (areas : List Area) (o : Outcome) (space : ℕ) (area : Option Area) (v w x : Served) (c d b : HitCurve)
    → o ≡ outcome_of v.row (event.Access va kind) v.state → space ≡ v.state.space → area ≡ wanted_by o (area_for space va areas)
    → IsServedBeside (λ row. charted_event row (event.Access va kind)) v c w d → IsServedBeside (λ row. charted_demand area row va (event.Access va kind)) w d x b
    → IsServedBeside (λ row. charted_access row va kind areas) v c x b
access_served va kind areas o space area v w x c d b known here asked first second =
    let area_is : area ≡ area_wanted v.row va kind areas v.state =
    asked ∙ ap (λ (k : Outcome). wanted_by k (area_for space va areas)) known ∙ ap (λ (n : ℕ). wanted_by (outcome_of v.row (event.Access va kind) v.state) (area_for n va areas)) here
    ∙ access_outcome v.row va kind v.state (area_for v.state.space va areas) in
    let r : IsServedBeside (λ row p. charted_demand area row va (event.Access va kind) (charted_event row (event.Access va kind) p)) v c x b =
    in_turn (λ row. charted_event row (event.Access va kind)) (λ row. charted_demand area row va (event.Access va kind)) v w x c d b first second in
    let s : IsServedBeside (λ row p. charted_demand (area_wanted v.row va kind areas v.state) row va (event.Access va kind) (charted_event row (event.Access va kind) p)) v c x b =
    subst (λ (k : Option Area). IsServedBeside (λ row p. charted_demand k row va (event.Access va kind) (charted_event row (event.Access va kind) p)) v c x b) area_is r in
    record { machine = s.machine; curve = s.curve }

-- ---- a state beside its curve is what it would be alone

again_state : (o : Outcome) (row : Row) (access : Event) (p : Charted) → (charted_again o row access p).state ≡ again_where o row access p.state
again_state outcome.Done row access p = refl
again_state (outcome.Replied answer) row access p = refl
again_state (outcome.Refused r) row access p = refl

demand_state : (area : Option Area) (row : Row) (va : ℕ) (access : Event) (p : Charted) → (charted_demand area row va access p).state ≡ demanded area row va access p.state
demand_state None row va access p = refl
demand_state (Some area) row va access p = again_state (outcome_of row (map_of area va) p.state) row access (charted_event row (map_of area va) p)

item_state : (row : Row) (i : Item) (areas : List Area) (p : Charted) → (charted_item row i areas p).state ≡ state_after row i areas p.state
unfolding charted_item state_after referenced
item_state row (Command e) areas p = refl
item_state row (Declared area) areas p = refl
item_state row (Referenced number va kind) areas p =
    demand_state (area_wanted row va kind areas p.state) row va (event.Access va kind) (charted_event row (event.Access va kind) p)

-- What an item leaves.
pub record IsItemServed (item : Item) (areas : List Area) (v : Served) (c : HitCurve) (w : Served) (d : HitCurve) : Type 0 where
  pub machine : w ≡ served_after item areas v
  pub curve : d ≡ curve_item item areas v c

served_item : (item : Item) (areas : List Area) (v w : Served) (c d : HitCurve) → IsServedBeside (λ row. charted_item row item areas) v c w d
    → IsItemServed item areas v c w d
served_item item areas v w c d r = record {
  machine = r.machine ∙ ap (λ (s : RowState). let z : Served = record v { state = s } in z) (item_state v.row item areas (both v c));
  curve = r.curve;
}

pub command_served : (e : Event) (areas : List Area) (v w : Served) (c d : HitCurve) → IsServedBeside (λ row. charted_event row e) v c w d
    → IsItemServed (Command e) areas v c w d
unfolding charted_item
command_served e areas v w c d r = served_item (Command e) areas v w c d (record { machine = r.machine; curve = r.curve })

pub declared_served : (area : Area) (areas : List Area) (v : Served) (c : HitCurve) → IsItemServed (Declared area) areas v c v c
unfolding charted_item
declared_served area areas v c = served_item (Declared area) areas v v c c (record { machine = refl; curve = refl })

pub referenced_served : (number va : ℕ) (kind : Kind) (areas : List Area) (v w : Served) (c d : HitCurve) → IsServedBeside (λ row. charted_access row va kind areas) v c w d
    → IsItemServed (Referenced number va kind) areas v c w d
unfolding charted_item
referenced_served number va kind areas v w c d r = served_item (Referenced number va kind) areas v w c d (record { machine = r.machine; curve = r.curve })
