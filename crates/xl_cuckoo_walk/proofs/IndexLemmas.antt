-- Facts by order and by size: a fact of all orders, where the table of one changes.
use Rattle.xl_cuckoo_walk.proofs.Common.{◌≡◌, CuckooState, CuckooWays, false, Large, level_of, List, Middle, Order, order_at, refl, RowParts, same_order, Size, size_in, Some, table_at, table_of, Tables, ways_in, ways_of, WayShape, with_table, with_table_at, with_ways}
use Rattle.xl_model.specs.declared.address.Order.TheVariants as order

pub each : (P : Order → Type 0) → P order.K4 → P order.M2 → P order.G1 → (o : Order) → P o
each P a b c order.K4 = a
each P a b c order.M2 = b
each P a b c order.G1 = c

pub each-size : (P : Size → Type 0) → P Middle → P Large → (z : Size) → P z
each-size P a b Middle = a
each-size P a b Large = b

-- where the ways or the table of one order change
pub each-way : (P : Order → List WayShape → Type 0) (o : Order) (after : List WayShape) (ws : CuckooWays) → P o after
    → ((q : Order) → same_order q o ≡ false → P q (ways_of q ws)) → (q : Order) → P q (ways_of q (with_ways o after ws))
each-way P order.K4 after ws new old = each (λ q. P q (ways_of q (with_ways order.K4 after ws))) new (old order.M2 refl) (old order.G1 refl)
each-way P order.M2 after ws new old = each (λ q. P q (ways_of q (with_ways order.M2 after ws))) (old order.K4 refl) new (old order.G1 refl)
each-way P order.G1 after ws new old = each (λ q. P q (ways_of q (with_ways order.G1 after ws))) (old order.K4 refl) (old order.M2 refl) new

pub each-table : (P : Order → CuckooState → Type 0) (o : Order) (t : CuckooState) (ts : Tables) → P o t
    → ((q : Order) → same_order q o ≡ false → P q (table_at q ts)) → (q : Order) → P q (table_at q (with_table_at o t ts))
each-table P order.K4 t ts new old = each (λ q. P q (table_at q (with_table_at order.K4 t ts))) new (old order.M2 refl) (old order.G1 refl)
each-table P order.M2 t ts new old = each (λ q. P q (table_at q (with_table_at order.M2 t ts))) (old order.K4 refl) new (old order.G1 refl)
each-table P order.G1 t ts new old = each (λ q. P q (table_at q (with_table_at order.G1 t ts))) (old order.K4 refl) (old order.M2 refl) new

pub with-same : (o : Order) (after : List WayShape) (ws : CuckooWays) → ways_of o (with_ways o after ws) ≡ after
with-same order.K4 after ws = refl
with-same order.M2 after ws = refl
with-same order.G1 after ws = refl

pub table-now : (o : Order) (t : CuckooState) (ts : Tables) → table_at o (with_table_at o t ts) ≡ t
table-now order.K4 t ts = refl
table-now order.M2 t ts = refl
table-now order.G1 t ts = refl

pub with-ways-in : (o : Order) (t : CuckooState) (p : RowParts) → ways_in (with_table o t p) ≡ with_ways o t.ways (ways_in p)
with-ways-in order.K4 t p = refl
with-ways-in order.M2 t p = refl
with-ways-in order.G1 t p = refl

pub ways-table : (o : Order) (p : RowParts) → (table_of o p).ways ≡ ways_of o (ways_in p)
ways-table order.K4 p = refl
ways-table order.M2 p = refl
ways-table order.G1 p = refl

-- the sections beside a table that changes
pub size-stays : (o : Order) (t : CuckooState) (p : RowParts) (z : Size) → size_in z (with_table o t p) ≡ size_in z p
size-stays o t p = each-size (λ z. size_in z (with_table o t p) ≡ size_in z p) refl refl

-- the order of a level
pub level-order : (o : Order) → order_at (level_of o) ≡ Some o
level-order order.K4 = refl
level-order order.M2 = refl
level-order order.G1 = refl
