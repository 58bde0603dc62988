-- A refused attempt of a cuckoo table leaves the entries of every way, and so every section.
use Rattle.xl_model_laws.proofs.Common.{◌≡◌, AtCap, CuckooRules, CuckooWays, entries_of, false, is_placed, Leaf, leaf_entry, List, map, Moves, Order, Placed, placed_leaf, Placing, refl, Some, ways_brought, ways_of, ways_placed, WayShape, with_ways}
use Rattle.xl_model_laws.proofs.WayLemmas.{a_refusal_keeps_every_word}
use Rattle.xl_model.specs.declared.address.Order.TheVariants as order

-- the ways of each order have the same entries
SameEntries : CuckooWays → CuckooWays → Type 0
SameEntries a b = (o : Order) → map entries_of (ways_of o a) ≡ map entries_of (ways_of o b)

with-same : (o : Order) (ways : List WayShape) (ws : CuckooWays) → map entries_of ways ≡ map entries_of (ways_of o ws) → SameEntries (with_ways o ways ws) ws
unfolding SameEntries
with-same order.K4 ways ws e order.K4 = e
with-same order.K4 ways ws e order.M2 = refl
with-same order.K4 ways ws e order.G1 = refl
with-same order.M2 ways ws e order.K4 = refl
with-same order.M2 ways ws e order.M2 = e
with-same order.M2 ways ws e order.G1 = refl
with-same order.G1 ways ws e order.K4 = refl
with-same order.G1 ways ws e order.M2 = refl
with-same order.G1 ways ws e order.G1 = e

placed-same : (p : Placing) (ways : List WayShape) → ((after : List WayShape) (m : Moves) → p ≡ AtCap after m → map entries_of after ≡ map entries_of ways)
    → is_placed p ≡ false → map entries_of (ways_placed p) ≡ map entries_of ways
placed-same (Placed after moved m) ways h caps = absurd (cc)
placed-same (AtCap after m) ways h caps = h after m refl

pub refused-same : (rules : CuckooRules) (ws : CuckooWays) (leaf : Leaf) → is_placed (placed_leaf rules ws leaf) ≡ false
    → (o : Order) → map entries_of (ways_of o (ways_brought rules (Some leaf) ws)) ≡ map entries_of (ways_of o ws)
unfolding SameEntries
refused-same rules ws leaf caps =
    with-same leaf.order (ways_placed (placed_leaf rules ws leaf)) ws
    (placed-same (placed_leaf rules ws leaf) (ways_of leaf.order ws)
    (λ after m e. a_refusal_keeps_every_word rules.kick_limit rules.migrate rules.threshold (ways_of leaf.order ws) after (leaf_entry leaf) m e) caps)
