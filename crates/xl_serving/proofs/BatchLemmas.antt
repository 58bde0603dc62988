-- The queue: an access more, or an event more.
use Rattle.xl_serving.proofs.Common.{◌++◌, ◌+◌, ◌∙◌, ◌∷◌, ◌≡◌, ◌≤◌, [], Access, ap, append_assoc, Area, arith, BatchedEvent, drop, drop-append-le, drop_all, gaps, Item, item_of, items_batched, Kind, length, length-drop, List, map, map-append, Referenced, refl, rows_after, Scene, scene-append, scene_after, scenes_after, Served, state_after, sum_by-cons, sym, take, take-append-le, take_all, ℕ}
use Rattle.xl_model.specs.declared.script.Item.TheVariants.{Command}

-- the number of an access's record changes no row
any-rows : (n m va : ℕ) (k : Kind) (areas : List Area) (rows : List Served) → rows_after (Referenced n va k) areas rows ≡ rows_after (Referenced m va k) areas rows
unfolding state_after
any-rows n m va k areas [] = refl
any-rows n m va k areas (r ∷ rows) = ap (λ (rest : List Served). record r { state = state_after r.row (Referenced m va k) areas r.state } ∷ rest) (any-rows n m va k areas rows)

pub any-number : (n m va : ℕ) (k : Kind) (s : Scene) → scene_after (Referenced n va k) s ≡ scene_after (Referenced m va k) s
unfolding scene_after
any-number n m va k s = ap (λ (rows : List Served). record { rows = rows; areas = s.areas }) (any-rows n m va k s.areas s.rows)

-- the first gap is within the accesses
gap-in : (accesses : List Access) (w : BatchedEvent) (events : List BatchedEvent) → gaps (w ∷ events) ≤ length accesses → w.gap ≤ length accesses
gap-in accesses w events h = omega (arith, h, sum_by-cons (λ (x : BatchedEvent). x.gap) w events)

-- accesses more in the queue
pub items-more : (accesses got : List Access) (events : List BatchedEvent) → gaps events ≤ length accesses → items_batched (accesses ++ got) events ≡ items_batched accesses events ++ map item_of got
items-more accesses got [] h = map-append item_of accesses got
items-more accesses got (w ∷ events) h =
    let front = map item_of (take w.gap accesses) in
    let g : w.gap ≤ length accesses = gap-in accesses w events h in
    let rest : gaps events ≤ length (drop w.gap accesses) = omega (arith, h, sum_by-cons (λ (x : BatchedEvent). x.gap) w events, length-drop w.gap accesses) in
    ap (λ (xs : List Access). map item_of xs ++ Command w.event ∷ items_batched (drop w.gap (accesses ++ got)) events) (take-append-le w.gap accesses got g)
    ∙ ap (λ (xs : List Access). front ++ Command w.event ∷ items_batched xs events) (drop-append-le w.gap accesses got g)
    ∙ ap (λ (items : List Item). front ++ Command w.event ∷ items) (items-more (drop w.gap accesses) got events rest)
    ∙ sym (append_assoc front (Command w.event ∷ items_batched (drop w.gap accesses) events) (map item_of got))

-- an event more in the queue, after all accesses
event-more : (accesses : List Access) (events : List BatchedEvent) (w : BatchedEvent) → gaps events + w.gap ≡ length accesses
    → items_batched accesses (events ++ w ∷ []) ≡ items_batched accesses events ++ Command w.event ∷ []
event-more accesses [] w h =
    ap (λ (xs : List Access). map item_of xs ++ Command w.event ∷ map item_of (drop w.gap accesses)) (take_all w.gap accesses (omega (arith, h)))
    ∙ ap (λ (xs : List Access). map item_of accesses ++ Command w.event ∷ map item_of xs) (drop_all w.gap accesses (omega (arith, h)))
event-more accesses (v ∷ events) w h =
    let front = map item_of (take v.gap accesses) in
    let rest : gaps events + w.gap ≡ length (drop v.gap accesses) = omega (arith, h, sum_by-cons (λ (x : BatchedEvent). x.gap) v events, length-drop v.gap accesses) in
    ap (λ (items : List Item). front ++ Command v.event ∷ items) (event-more (drop v.gap accesses) events w rest)
    ∙ sym (append_assoc front (Command v.event ∷ items_batched (drop v.gap accesses) events) (Command w.event ∷ []))

-- the scene after one access more
pub access-deferred : (accesses : List Access) (events : List BatchedEvent) (va : ℕ) (k : Kind) (s : Scene) (number : ℕ) → gaps events ≤ length accesses
    → scenes_after (items_batched (accesses ++ record { va = va; kind = k } ∷ []) events) s ≡ scene_after (Referenced number va k) (scenes_after (items_batched accesses events) s)
access-deferred accesses events va k s number h =
    ap (λ (items : List Item). scenes_after items s) (items-more accesses (record { va = va; kind = k } ∷ []) events h)
    ∙ scene-append (items_batched accesses events) (Referenced 0 va k ∷ []) s
    ∙ any-number 0 number va k (scenes_after (items_batched accesses events) s)

-- the scene after one event more
pub event-deferred : (accesses : List Access) (events : List BatchedEvent) (w : BatchedEvent) (s : Scene) → gaps events + w.gap ≡ length accesses
    → scenes_after (items_batched accesses (events ++ w ∷ [])) s ≡ scene_after (Command w.event) (scenes_after (items_batched accesses events) s)
event-deferred accesses events w s h =
    ap (λ (items : List Item). scenes_after items s) (event-more accesses events w h)
    ∙ scene-append (items_batched accesses events) (Command w.event ∷ []) s
