-- Shapes: what a table keeps beside its leaves, and how each change of a leaf changes it.
use Rattle.std.specs.Prelude.{ℕ, zero, suc, ◌+◌, Bool, true, false, List, [], ◌∷◌, map, Option, None, Some}
use Rattle.xl_model.specs.declared.address.Order.{Order}
use Rattle.xl_model.specs.declared.address.Order.TheVariants as order
use Rattle.xl_model.specs.declared.leaf.Leaf.{Leaf}
use Rattle.xl_model.specs.declared.row.Table.{Table}
use Rattle.xl_model.specs.declared.row.Table.TheVariants as table
use Rattle.xl_model.specs.declared.way.Entry.{Entry}
use Rattle.xl_model.specs.declared.way.Moves.{Moves}
use Rattle.xl_model.specs.Words.{leaf_word}
use Rattle.xl_model.specs.Changes.{Change, Insert, Remove, Protect, Relocate, old_leaf, new_leaf, changed}
use Rattle.xl_model.specs.Nodes.{Node, with_leaf_nodes, only_needed, opening_nodes}
use Rattle.xl_model.specs.Chains.{key_of, leaf_tag, with_tag, only_used_tags}
use Rattle.xl_model.specs.Ways.{WayShape, with_word, without_entry, opening_way}
use Rattle.xl_model.specs.Placing.{Placing, Placed, AtCap, insertion}

-- the parameters of a cuckoo table
pub record CuckooRules : Type 0 where
  pub threshold : ℕ
  pub kick_limit : ℕ
  pub migrate : ℕ
  pub sections_2m : ℕ
  pub sections_1g : ℕ

-- the ways of a cuckoo row, which has one table for each order
pub record CuckooWays : Type 0 where
  pub k4 : List WayShape
  pub m2 : List WayShape
  pub g1 : List WayShape

-- What a table keeps beside its leaves, by its kind.
pub data Shape : Type 0 where
  -- the nodes by number; the numbers are as many as the table has frames
  Radix : (levels : ℕ) → (spaces : ℕ) → (nodes : List (Option Node)) → Shape
  -- a hashed table has groups of one leaf, a clustered one of sixteen
  Chained : (group : ℕ) → (buckets : ℕ) → (entries : ℕ) → (tags : List ℕ) → Shape
  Cuckoo : (rules : CuckooRules) → (ways : CuckooWays) → Shape
  Runs : (ranges : ℕ) → Shape

-- The ways of the table of an order.
abbrev pub ways_of : Order → CuckooWays → List WayShape
ways_of order.K4 ws = ws.k4
ways_of order.M2 ws = ws.m2
ways_of order.G1 ws = ws.g1

-- The ways with others for an order.
abbrev pub with_ways : Order → List WayShape → CuckooWays → CuckooWays
with_ways order.K4 ways ws = record ws { k4 = ways }
with_ways order.M2 ways ws = record ws { m2 = ways }
with_ways order.G1 ways ws = record ws { g1 = ways }

-- the key and word of a leaf in the cuckoo table of its order
abbrev pub leaf_entry : Leaf → Entry
leaf_entry leaf = record { key = key_of 1 leaf.space leaf.order leaf.first; word = leaf_word leaf.frame leaf.perm }

-- the leaf that a change brings to a place where it wasn't
abbrev pub brought : Change → List Leaf → Option Leaf
brought (Insert leaf) leaves = Some leaf
brought (Remove space first o) leaves = None
brought (Protect space first o perm) leaves = None
brought (Relocate space first to o) leaves = new_leaf (Relocate space first to o) leaves

-- The result of the insertion of a leaf into the table of its order.
abbrev pub placed_leaf : CuckooRules → CuckooWays → Leaf → Placing
placed_leaf rules ws leaf = insertion rules.kick_limit rules.migrate rules.threshold (ways_of leaf.order ws) (leaf_entry leaf)

-- The ways after an insertion.
abbrev pub ways_placed : Placing → List WayShape
ways_placed (Placed ways moved m) = ways
ways_placed (AtCap ways m) = ways

-- What an insertion did.
abbrev pub moves_of : Placing → Moves
moves_of (Placed ways moved m) = m
moves_of (AtCap ways m) = m

-- An insertion found a place.
abbrev pub is_placed : Placing → Bool
is_placed (Placed ways moved m) = true
is_placed (AtCap ways m) = false

-- the ways with the leaf that a change brings, or with the growths of a refused attempt
abbrev pub ways_brought : CuckooRules → Option Leaf → CuckooWays → CuckooWays
ways_brought rules None ws = ws
ways_brought rules (Some leaf) ws = with_ways leaf.order (ways_placed (placed_leaf rules ws leaf)) ws

-- the ways without the old leaf of a removal or a relocation, and with the new word of a protected
-- leaf
abbrev pub ways_taken : Change → Option Leaf → CuckooWays → CuckooWays
ways_taken (Insert leaf) old ws = ws
ways_taken c None ws = ws
ways_taken (Remove space first o) (Some leaf) ws =
    with_ways leaf.order (map (without_entry (leaf_entry leaf).key) (ways_of leaf.order ws)) ws
ways_taken (Protect space first o perm) (Some leaf) ws =
    with_ways leaf.order (map (with_word (leaf_entry leaf).key (leaf_word leaf.frame perm)) (ways_of leaf.order ws)) ws
ways_taken (Relocate space first to o) (Some leaf) ws =
    with_ways leaf.order (map (without_entry (leaf_entry leaf).key) (ways_of leaf.order ws)) ws

-- the shape with what a new leaf needs
abbrev pub widened : Option Leaf → Shape → Shape
widened None shape = shape
widened (Some leaf) (Radix levels spaces nodes) = Radix levels spaces (with_leaf_nodes levels leaf nodes)
widened (Some leaf) (Chained group buckets entries tags) = Chained group buckets entries (with_tag buckets (leaf_tag group leaf) tags)
widened (Some leaf) (Cuckoo rules ways) = Cuckoo rules (ways_brought rules (Some leaf) ways)
widened (Some leaf) (Runs ranges) = Runs ranges

-- the shape without what no leaf of the mapping after the change needs
abbrev pub narrowed : Change → List Leaf → Shape → Shape
narrowed c leaves (Radix levels spaces nodes) = Radix levels spaces (only_needed levels (changed c leaves) nodes)
narrowed c leaves (Chained group buckets entries tags) = Chained group buckets entries (only_used_tags group (changed c leaves) tags)
narrowed c leaves (Cuckoo rules ways) = Cuckoo rules (ways_taken c (old_leaf c leaves) ways)
narrowed c leaves (Runs ranges) = Runs ranges

-- The shape after a change: what the new leaf needs comes, then what no leaf needs any more goes.
unfoldable pub shape_after : Change → List Leaf → Shape → Shape
shape_after c leaves shape = narrowed c leaves (widened (brought c leaves) shape)

-- as many empty ways, from this number on
abbrev pub opening_ways : ℕ → ℕ → ℕ → ℕ → List WayShape
opening_ways start cap number zero = []
opening_ways start cap number (suc n) = opening_way start cap number ∷ opening_ways start cap (number + 1) n

-- the shape of a table in which nothing was mapped
unfoldable pub opening_shape : ℕ → ℕ → Table → Shape
opening_shape levels spaces (table.Radix frames caches) = Radix levels spaces (opening_nodes levels spaces frames)
opening_shape levels spaces (table.Hashed buckets entries) = Chained 1 buckets entries []
opening_shape levels spaces (table.Clustered buckets blocks) = Chained 16 buckets blocks []
opening_shape levels spaces (table.Cuckoo ways start cap threshold kick_limit migrate sections_2m sections_1g caches) =
    Cuckoo
    (record { threshold = threshold; kick_limit = kick_limit; migrate = migrate; sections_2m = sections_2m; sections_1g = sections_1g })
    (record { k4 = opening_ways start cap 0 ways; m2 = opening_ways start cap 0 ways; g1 = opening_ways start cap 0 ways })
opening_shape levels spaces (table.Range ranges tlb) = Runs ranges
