-- A cuckoo row by its parts, its table, and what the row keeps.
use Rattle.std.specs.Prelude.{ℕ, zero, suc, ◌≡◌, ◌+◌, ◌*◌, ◌/◌, ◌%◌, ◌^◌, ◌<◌, ◌≤◌, List, [], ◌∷◌, ◌++◌, map, length, Option, None, Some}
use Rattle.xl_model.specs.declared.address.Order.{Order}
use Rattle.xl_model.specs.declared.address.Order.TheVariants as order
use Rattle.xl_model.specs.declared.leaf.Leaf.{Leaf}
use Rattle.xl_model.specs.declared.way.Entry.{Entry}
use Rattle.xl_model.specs.Addresses.{level_of}
use Rattle.xl_model.specs.Base.{plus}
use Rattle.xl_model.specs.Ways.{WayShape}
use Rattle.xl_model.specs.Shapes.{CuckooRules, CuckooWays, Cuckoo, ways_of}
use Rattle.xl_model.specs.Caches.{Cached, SectionCaches}
use Rattle.xl_model.specs.Structures.{TableState}
use Rattle.xl_model_lemmas.specs.Fresh.{SectionsFresh}
use Rattle.xl_model_lemmas.specs.Kept.{mapping_of}
use Rattle.xl_list_lemmas.specs.Members.{In}
use Rattle.xl_model_lemmas.specs.Sections.{entries_in}
use Rattle.xl_recency.specs.declared.item.Item.{Item}
use Rattle.xl_sections.specs.Counted.{CountState, AreCounts, IsTied}
use Rattle.xl_tagged.specs.Forms.{One}
use Rattle.xl_tagged.specs.Slots.{leaves_under}
use Rattle.xl_tagged.specs.Tagged.{AreHeld}
use Rattle.xl_cuckoo.specs.Table.{CuckooState, value_of, AreOnce}
use Rattle.xl_cuckoo_walk.specs.Coding.{sections_in}

-- A size of sections that are counted and cached: 2 MiB and 1 GiB.
pub data Size : Type 0 where
  Middle : Size
  Large : Size

-- The order of a leaf that is a section of this size.
abbrev pub order_of : Size → Order
order_of Middle = order.M2
order_of Large = order.G1

-- The first for 2 MiB, the second for 1 GiB.
abbrev pub by_size : {A : Type 0} → A → A → Size → A
by_size a b Middle = a
by_size a b Large = b

-- A table for each order.
pub record Tables : Type 0 where
  pub k4 : CuckooState
  pub m2 : CuckooState
  pub g1 : CuckooState

-- How many leaves of each order the sections of a size hold, and their cache.
pub record SizeParts : Type 0 where
  pub counts : CountState
  pub cache : Cached Item

-- The parts of a row: its tables, and what it keeps of the sections of each size.
pub record RowParts : Type 0 where
  pub tables : Tables
  pub middle : SizeParts
  pub large : SizeParts

-- The parts by the fields of the code.
abbrev pub parts_by : CuckooState → CuckooState → CuckooState → CountState → CountState → Cached Item → Cached Item → RowParts
parts_by k4 m2 g1 middle large middle_cache large_cache = record {
  tables = record { k4 = k4; m2 = m2; g1 = g1 };
  middle = record { counts = middle; cache = middle_cache };
  large = record { counts = large; cache = large_cache };
}

-- What a row keeps of the sections of a size.
abbrev pub size_in : Size → RowParts → SizeParts
size_in Middle p = p.middle
size_in Large p = p.large

-- The ways of the three tables.
abbrev pub ways_in : RowParts → CuckooWays
ways_in p = record { k4 = p.tables.k4.ways; m2 = p.tables.m2.ways; g1 = p.tables.g1.ways }

-- The table of an order, among three.
abbrev pub table_at : Order → Tables → CuckooState
table_at order.K4 ts = ts.k4
table_at order.M2 ts = ts.m2
table_at order.G1 ts = ts.g1

-- Three tables, with another one for an order.
abbrev pub with_table_at : Order → CuckooState → Tables → Tables
with_table_at order.K4 t ts = record ts { k4 = t }
with_table_at order.M2 t ts = record ts { m2 = t }
with_table_at order.G1 t ts = record ts { g1 = t }

-- The table of an order.
abbrev pub table_of : Order → RowParts → CuckooState
table_of o p = table_at o p.tables

-- The parts with another table for an order.
abbrev pub with_table : Order → CuckooState → RowParts → RowParts
with_table o t p = record p { tables = with_table_at o t p.tables }

-- What a row counts for the sections of a size.
abbrev pub counts_of : RowParts → Size → CountState
counts_of p z = (size_in z p).counts

-- The parts with other counts.
abbrev pub with_counts : (Size → CountState) → RowParts → RowParts
with_counts counts p = record p {
  middle = record p.middle { counts = counts Middle };
  large = record p.large { counts = counts Large };
}

-- The order of a level, none at another number.
abbrev pub order_at : ℕ → Option Order
order_at zero = Some order.K4
order_at (suc zero) = Some order.M2
order_at (suc (suc zero)) = Some order.G1
order_at (suc (suc (suc n))) = None

-- The ways of an order, none of no order.
abbrev pub ways_at : Option Order → CuckooWays → List WayShape
ways_at None ws = []
ways_at (Some o) ws = ways_of o ws

-- A word as a list.
abbrev pub word_list : Option ℕ → List ℕ
word_list None = []
word_list (Some word) = word ∷ []

-- The word under a tag, which is the level of an order and a key.
unfoldable pub values_in : CuckooWays → ℕ → List ℕ
values_in ws tag = word_list (value_of (tag % 2 ^ 60) (ways_at (order_at (tag / 2 ^ 60)) ws))

-- The tags of the keys that ways of an order hold.
abbrev pub order_tags : Order → List WayShape → List ℕ
order_tags o ways = map (λ (e : Entry). level_of o * 2 ^ 60 + e.key) (entries_in ways)

-- The tags of all keys.
unfoldable pub tags_in : CuckooWays → List ℕ
tags_in ws = order_tags order.K4 ws.k4 ++ (order_tags order.M2 ws.m2 ++ order_tags order.G1 ws.g1)

-- The leaves that the ways hold.
unfoldable pub leaves_of_ways : CuckooWays → List Leaf
leaves_of_ways ws = mapping_of (leaves_under One (values_in ws) (tags_in ws))

-- The rules of a table, and how many ways it has.
pub record TableRules : Type 0 where
  pub threshold : ℕ
  pub kick_limit : ℕ
  pub migrate : ℕ
  pub width : ℕ

-- The rules of a table.
abbrev pub rules_of : CuckooState → TableRules
rules_of t = record { threshold = t.threshold; kick_limit = t.kick_limit; migrate = t.migrate; width = length t.ways }

-- The rules of a row with tables of these rules, and with room for these numbers of sections.
abbrev pub rules_by : TableRules → ℕ → ℕ → CuckooRules
rules_by r middle large =
    record { threshold = r.threshold; kick_limit = r.kick_limit; migrate = r.migrate; sections_2m = middle; sections_1g = large }

-- The rules of a row.
abbrev pub rules_in : RowParts → CuckooRules
rules_in p = rules_by (rules_of p.tables.k4) p.middle.counts.room p.large.counts.room

-- The loads that were made of three tables.
abbrev pub loads_in : Tables → ℕ
loads_in ts = plus (plus ts.k4.loads ts.m2.loads) ts.g1.loads

-- The table of the parts.
unfoldable pub row_state : RowParts → TableState
row_state p = record {
  leaves = leaves_of_ways (ways_in p);
  shape = Cuckoo (rules_in p) (ways_in p);
  caches = SectionCaches (sections_in p.middle.cache) (sections_in p.large.cache);
  loads = loads_in p.tables;
}

-- Keys are below the part of a tag that names the order.
abbrev pub AreKeys : CuckooWays → Type 0
AreKeys ws = (o : Order) (e : Entry) → In e (entries_in (ways_of o ws)) → e.key < 2 ^ 60

-- The counts of the sections of a size are those of these leaves.
pub record AreTied (size : Order) (leaves : List Leaf) (c : CountState) : Type 0 where
  pub are : AreCounts c.counts
  pub within : length c.counts ≤ c.room
  pub tied : IsTied size leaves c.counts

-- The tables and counts hold these leaves, whatever is cached: each is in a way of its order, and
-- sections are counted.
pub record HoldsLeaves (p : RowParts) (leaves : List Leaf) : Type 0 where
  pub held : AreHeld One (values_in (ways_in p)) (tags_in (ways_in p)) leaves
  pub keys : AreKeys (ways_in p)
  pub once : (o : Order) → AreOnce (ways_of o (ways_in p))
  pub rules : (o : Order) → rules_of (table_of o p) ≡ rules_of p.tables.k4
  pub few : length p.tables.k4.ways ≤ 4
  pub tied : (z : Size) → AreTied (order_of z) leaves (counts_of p z)

-- The cached sections of each size are as these leaves make them.
abbrev pub AreFresh : RowParts → List Leaf → Type 0
AreFresh p leaves =
    (z : Size) → SectionsFresh (order_of z) leaves (ways_of (order_of z) (ways_in p)) (sections_in (size_in z p).cache)

-- What a row keeps of its leaves.
pub record IsRow (p : RowParts) : Type 0 where
  pub holds : HoldsLeaves p (leaves_of_ways (ways_in p))
  pub fresh : AreFresh p (leaves_of_ways (ways_in p))
