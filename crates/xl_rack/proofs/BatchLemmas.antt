-- Accesses that are served by one row after another.
use Rattle.xl_rack.proofs.Common.{◌++◌, ◌∙◌, ◌∷◌, ◌≡◌, [], Access, access_served, after_of, All-append, All-cons, All-drop, All-take, ap, Area, arith, batch_served, Command, drop, EachServed, Event, IsFramed, IsNamed, Kind, List, map, map-append, map-id, refl, reply_to, row_served, rows_after, scene_after, scene_of, scenes_after, Served, served_of, Slot, slot_form, state_after, subst, suc, sym, take, take-append-drop, ℕ}
use Rattle.std.proofs.Math.Path.{fun_ext}
use Rattle.std.proofs.lemmas.Simd.{map-map}
use Rattle.std.specs.List.{All}
use Rattle.xl_model_lemmas.proofs.SceneLemmas.{scene-append}
use Rattle.xl_serving.specs.Batches.{item_of, items_batched}
use Rattle.xl_serving.specs.declared.batch.BatchedEvent.{BatchedEvent}
use Rattle.xl_rack.proofs.AnswerLemmas.{access-alone}
use Rattle.xl_rack.proofs.SlotLemmas.{named-row}
use Rattle.xl_model.specs.declared.leaf.Reply.TheVariants as reply

-- an access that a frame was returned for
pub framed-alone : (va : ℕ) (k : Kind) (areas : List Area) (v m : Served) → IsFramed va k v m → m ≡ access_served va k areas v
framed-alone va k areas v m framed =
    let not : reply_to v.row v.state va k ≡ reply.Unmapped → ⊥ = λ e. let f : reply.Frame framed.frame.0 ≡ reply.Unmapped = sym framed.frame.1 ∙ e in cc in
    access-alone va k areas v m (reply_to v.row v.state va k) refl not framed.after

-- each row by itself
rows-map : (a : Access) (areas : List Area) (rows : List Served) → rows_after (item_of a) areas rows ≡ map (access_served a.va a.kind areas) rows
unfolding state_after
rows-map a areas [] = refl
rows-map a areas (r ∷ rows) = ap (λ (rest : List Served). access_served a.va a.kind areas r ∷ rest) (rows-map a areas rows)

scene-map : (a : Access) (areas : List Area) (rows : List Served) → scene_after (item_of a) (scene_of rows areas) ≡ scene_of (map (access_served a.va a.kind areas) rows) areas
unfolding scene_after
scene-map a areas rows = ap (λ (z : List Served). scene_of z areas) (rows-map a areas rows)

-- all accesses by the first row, then by the next
row-by-row : (accesses : List Access) (areas : List Area) (rows : List Served)
    → scene_of (map (row_served accesses areas) rows) areas ≡ scenes_after (map item_of accesses) (scene_of rows areas)
row-by-row [] areas rows = ap (λ (z : List Served). scene_of z areas) (map-id rows)
row-by-row (a ∷ accesses) areas rows =
    ap (λ (z : List Served). scene_of z areas) (sym (map-map (row_served accesses areas) (access_served a.va a.kind areas) rows))
    ∙ row-by-row accesses areas (map (access_served a.va a.kind areas) rows)
    ∙ ap (scenes_after (map item_of accesses)) (sym (scene-map a areas rows))

-- an event of a command, each row by itself
events-map : (e : Event) (areas : List Area) (rows : List Served) → rows_after (Command e) areas rows ≡ map (after_of e) rows
unfolding state_after
events-map e areas [] = refl
events-map e areas (r ∷ rows) = ap (λ (rest : List Served). after_of e r ∷ rest) (events-map e areas rows)

scene-event : (e : Event) (areas : List Area) (rows : List Served) → scene_after (Command e) (scene_of rows areas) ≡ scene_of (map (after_of e) rows) areas
unfolding scene_after
scene-event e areas rows = ap (λ (z : List Served). scene_of z areas) (events-map e areas rows)

-- All items by the first row, then by the next, leave the rows that each item by all rows leaves.
pub batched-by-row : (accesses : List Access) (events : List BatchedEvent) (areas : List Area) (rows : List Served)
    → scene_of (map (batch_served accesses events areas) rows) areas ≡ scenes_after (items_batched accesses events) (scene_of rows areas)
batched-by-row accesses [] areas rows = row-by-row accesses areas rows
batched-by-row accesses (w ∷ events) areas rows =
    let front = take w.gap accesses in
    let rest = drop w.gap accesses in
    let mid = map (row_served front areas) rows in
    ap (λ (z : List Served). scene_of z areas)
    (sym (ap (map (batch_served rest events areas)) (map-map (after_of w.event) (row_served front areas) rows)
    ∙ map-map (batch_served rest events areas) (λ (v : Served). after_of w.event (row_served front areas v)) rows))
    ∙ batched-by-row rest events areas (map (after_of w.event) mid)
    ∙ ap (scenes_after (items_batched rest events)) (sym (scene-event w.event areas mid) ∙ ap (scene_after (Command w.event)) (row-by-row front areas rows))
    ∙ sym (scene-append (map item_of front) (Command w.event ∷ items_batched rest events) (scene_of rows areas))

pub row-stays : (accesses : List Access) (areas : List Area) (v : Served) → (row_served accesses areas v).row ≡ v.row
row-stays [] areas v = refl
row-stays (a ∷ accesses) areas v = row-stays accesses areas (access_served a.va a.kind areas v)

-- a slot before others
pub each-first : {f : Served → Served} {s t : Slot} {slots ss ts : List Slot} → EachServed f ss ts → (served_of t).row ≡ (served_of s).row → slots ≡ s ∷ ss
    → served_of t ≡ f (served_of s) → slot_form t ≡ slot_form s → EachServed f slots (t ∷ ts)
each-first {f} {s} {t} {slots} {ss} {ts} rest stays slots-are after form =
    let named : All IsNamed (s ∷ ss) → All IsNamed (t ∷ ts) =
    λ all. All-cons IsNamed t ts (named-row s t stays form (all 0 s (omega arith)))
    (rest.named (λ k d less. all (suc k) d (omega arith))) in
    subst (λ (xs : List Slot). EachServed f xs (t ∷ ts)) (sym slots-are) (record {
      served = ap (λ (v : Served). v ∷ map served_of ts) after ∙ ap (λ (vs : List Served). f (served_of s) ∷ vs) rest.served;
      named = named;
    })

-- slots in two parts
pub each-in-two : {f : Served → Served} (n : ℕ) {slots group others front back : List Slot} → EachServed f group front → EachServed f others back
    → group ≡ take n slots → others ≡ drop n slots → EachServed f slots (front ++ back)
each-in-two {f} n {slots} {group} {others} {front} {back} one two group-is others-are =
    let first = subst (λ (xs : List Slot). EachServed f xs front) group-is one in
    let later = subst (λ (xs : List Slot). EachServed f xs back) others-are two in
    record {
      served =
          map-append served_of front back
          ∙ ap (λ (xs : List Served). xs ++ map served_of back) first.served
          ∙ ap (λ (ys : List Served). map f (map served_of (take n slots)) ++ ys) later.served
          ∙ sym (map-append f (map served_of (take n slots)) (map served_of (drop n slots)))
          ∙ ap (map f) (sym (map-append served_of (take n slots) (drop n slots)) ∙ ap (map served_of) (take-append-drop n slots));
      named = λ all. All-append IsNamed front back (first.named (All-take IsNamed n slots all)) (later.named (All-drop IsNamed n slots all));
    }

-- slots that stay as they are
pub each-stays : (slots : List Slot) → EachServed (λ v. v) slots slots
each-stays slots = record { served = sym (map-id (map served_of slots)); named = λ all. all }

-- one thing by each slot, and then another
pub each-then : {f g : Served → Served} {slots one two : List Slot} → EachServed f slots one → EachServed g one two → EachServed (λ v. g (f v)) slots two
each-then {f} {g} {slots} first then = record {
  served = then.served ∙ ap (map g) first.served ∙ map-map g f (map served_of slots);
  named = λ all. then.named (first.named all);
}

-- one thing by each slot, by another name
pub each-same : {f g : Served → Served} {slots one : List Slot} → EachServed f slots one → ((v : Served) → f v ≡ g v) → EachServed g slots one
each-same {slots = slots} {one = one} each same = subst (λ (h : Served → Served). EachServed h slots one) (fun_ext same) each

-- accesses, then a command, and then what comes after them
pub batched-in-parts : {before following : List Access} {events later : List BatchedEvent} {w : BatchedEvent} (accesses : List Access) (areas : List Area) (v : Served)
    → events ≡ w ∷ later → before ≡ take w.gap accesses → following ≡ drop w.gap accesses
    → batch_served following later areas (after_of w.event (row_served before areas v)) ≡ batch_served accesses events areas v
batched-in-parts {before} {following} {events} {later} {w} accesses areas v events-are before-is following-is =
    ap (λ (xs : List Access). batch_served xs later areas (after_of w.event (row_served before areas v))) following-is
    ∙ ap (λ (xs : List Access). batch_served (drop w.gap accesses) later areas (after_of w.event (row_served xs areas v))) before-is
    ∙ ap (λ (es : List BatchedEvent). batch_served accesses es areas v) (sym events-are)
