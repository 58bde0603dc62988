-- TLB arrays in levels: look-up, fills, purges and fences. Each set of an array is a recency list. An access asks,
-- touches and fills only the arrays that serve its kind.
use Rattle.std.specs.Prelude.{ℕ, ◌+◌, ◌/◌, ◌%◌, ◌==◌, Bool, true, false, ◌&&◌, not, nat_le, nat_lt, if◌then◌else◌, List, [], ◌∷◌, find, map, length, replicate, slice_index_or, slice_set, is_some, Option, None, Some}
use Rattle.xl_model.specs.declared.address.Kind.{Kind}
use Rattle.xl_model.specs.declared.address.Kind.TheVariants as kind
use Rattle.xl_model.specs.declared.address.Order.{Order}
use Rattle.xl_model.specs.declared.address.Order.TheVariants as order
use Rattle.xl_model.specs.declared.leaf.Leaf.{Leaf}
use Rattle.xl_model.specs.declared.event.Reach.{Reach}
use Rattle.xl_model.specs.declared.event.Reach.TheVariants as reach
use Rattle.xl_model.specs.declared.row.Purge.{Purge}
use Rattle.xl_model.specs.declared.row.Purge.TheVariants as purge
use Rattle.xl_model.specs.declared.row.Serves.{Serves}
use Rattle.xl_model.specs.declared.row.Serves.TheVariants as serves
use Rattle.xl_model.specs.declared.row.TlbSpec.{TlbSpec}
use Rattle.xl_model.specs.Addresses.{pages_of, same_order}
use Rattle.xl_model.specs.Recency.{touched, with_newest, purged}
use Rattle.xl_model.specs.Mapping.{covers, is_leaf}

-- A TLB array: what it is, and the leaves of each of its sets, newest first.
pub record TlbArray : Type 0 where
  pub spec : TlbSpec
  pub sets : List (List Leaf)

-- An array takes leaves of this order.
abbrev pub takes_order : TlbSpec → Order → Bool
takes_order spec order.K4 = spec.k4
takes_order spec order.M2 = spec.m2
takes_order spec order.G1 = spec.g1

-- the set of the leaf of this order that would cover the page
abbrev pub set_number : TlbSpec → Order → ℕ → ℕ
set_number spec o page = page / pages_of o % spec.sets

-- The leaves of the set in which a leaf of this order that covers the page would be.
abbrev pub set_at : TlbArray → Order → ℕ → List Leaf
set_at a o page = slice_index_or a.sets (set_number a.spec o page) []

-- A leaf of this order that covers the page.
abbrev pub covers_as : ℕ → ℕ → Order → Leaf → Bool
covers_as space page o leaf = same_order leaf.order o && covers space page leaf

-- What was found, where the array takes the order.
abbrev pub where_taken : Bool → Option Leaf → Option Leaf
where_taken true found = found
where_taken false found = None

-- The newest leaf of this order in the array that covers the page.
abbrev pub found_as : TlbArray → ℕ → ℕ → Order → Option Leaf
found_as a space page o = where_taken (takes_order a.spec o) (find (covers_as space page o) (set_at a o page))

-- The first of two leaves that is there.
abbrev pub first_found : Option Leaf → Option Leaf → Option Leaf
first_found (Some leaf) next = Some leaf
first_found None next = next

-- the orders are tried from 4 KiB up, and the newest leaf of the first that has one hits
unfoldable pub array_hit : TlbArray → ℕ → ℕ → Option Leaf
array_hit a space page =
    first_found (found_as a space page order.K4)
    (first_found (found_as a space page order.M2) (found_as a space page order.G1))

-- An array with other leaves in a set.
abbrev pub with_set : TlbArray → ℕ → List Leaf → TlbArray
with_set a i items = record a { sets = slice_set a.sets i items }

-- the array with the leaf that hit in front of its set
unfoldable pub array_touched : ℕ → ℕ → Leaf → TlbArray → TlbArray
array_touched space page leaf a =
    with_set a (set_number a.spec leaf.order page) (touched (covers_as space page leaf.order) (set_at a leaf.order page))

-- A leaf in front of its set, which keeps as many as the width says, where the array takes its
-- order.
abbrev pub filled_where : Bool → Leaf → TlbArray → TlbArray
filled_where true leaf a =
    with_set a (set_number a.spec leaf.order leaf.first) (with_newest a.spec.width leaf (set_at a leaf.order leaf.first))
filled_where false leaf a = a

-- the array with the leaf in front of its set, where it takes the leaf's order
unfoldable pub array_filled : Leaf → TlbArray → TlbArray
array_filled leaf a = filled_where (takes_order a.spec leaf.order) leaf a

-- What serves all, fetches or data serves an access of this kind: loads and stores are data.
abbrev pub serves_as : Serves → Kind → Bool
serves_as serves.All k = true
serves_as serves.Fetch kind.Fetch = true
serves_as serves.Fetch kind.Load = false
serves_as serves.Fetch kind.Store = false
serves_as serves.Data kind.Fetch = false
serves_as serves.Data kind.Load = true
serves_as serves.Data kind.Store = true

-- An array serves accesses of this kind.
abbrev pub serves_kind : Kind → TlbArray → Bool
serves_kind k a = serves_as a.spec.serves k

-- The leaf in an array that an access of this kind hits, where the array serves such accesses.
abbrev pub asked : Kind → TlbArray → ℕ → ℕ → Option Leaf
asked k a space page = where_taken (serves_kind k a) (array_hit a space page)

-- The arrays are in rising level; the first that an access hits gives its reply.
pub record Answer : Type 0 where
  pub leaf : Leaf
  pub level : ℕ

-- The answer of an array that hits, or else that of those after it.
abbrev pub answered_by : Option Leaf → ℕ → Option Answer → Option Answer
answered_by (Some leaf) level next = Some (record { leaf = leaf; level = level })
answered_by None level next = next

-- The first array that an access of this kind hits, with its level.
abbrev pub answer_of : Kind → List TlbArray → ℕ → ℕ → Option Answer
answer_of k [] space page = None
answer_of k (a ∷ arrays) space page = answered_by (asked k a space page) a.spec.level (answer_of k arrays space page)

-- arrays of the levels up to the one that hit, or of all levels, are looked at, where they serve
-- the access
abbrev pub is_looked : Kind → Option Answer → TlbArray → Bool
is_looked k None a = serves_kind k a
is_looked k (Some answer) a = serves_kind k a && nat_le a.spec.level answer.level

-- An array that is looked at, and hits.
abbrev pub hits_at : Kind → Option Answer → ℕ → ℕ → TlbArray → Bool
hits_at k answer space page a = is_looked k answer a && is_some (array_hit a space page)

-- An array that is looked at, and misses.
abbrev pub misses_at : Kind → Option Answer → ℕ → ℕ → TlbArray → Bool
misses_at k answer space page a = is_looked k answer a && not (is_some (array_hit a space page))

-- An array that serves the access is filled where its level is lower than the one that hit.
abbrev pub filled_below : Kind → ℕ → Leaf → TlbArray → TlbArray
filled_below k level leaf a = if serves_kind k a && nat_lt a.spec.level level then array_filled leaf a else a

-- The first array that hits is touched, and those after it stay.
abbrev pub touched_or : Option Leaf → ℕ → ℕ → TlbArray → List TlbArray → List TlbArray → List TlbArray
touched_or (Some leaf) space page a arrays before = array_touched space page leaf a ∷ arrays
touched_or None space page a arrays before = before

-- The arrays after a hit: those before the array that hit are filled where they serve the access
-- and their level is a lower one, and that array is touched.
unfoldable pub arrays_hit : Kind → Answer → ℕ → ℕ → List TlbArray → List TlbArray
arrays_hit k answer space page [] = []
arrays_hit k answer space page (a ∷ arrays) =
    touched_or (asked k a space page) space page a arrays
    (filled_below k answer.level answer.leaf a ∷ arrays_hit k answer space page arrays)

-- A hit at this level fills an array.
abbrev pub fills_array : Kind → ℕ → Leaf → TlbArray → Bool
fills_array k level leaf a = serves_kind k a && (nat_lt a.spec.level level && takes_order a.spec leaf.order)

-- An array after a walk that an access of this kind made: it is filled where it serves such
-- accesses.
abbrev pub filled_for : Kind → Leaf → TlbArray → TlbArray
filled_for k leaf a = if serves_kind k a then array_filled leaf a else a

-- a walk that found a leaf fills the arrays of every level that serve the access
unfoldable pub arrays_filled : Kind → Leaf → List TlbArray → List TlbArray
arrays_filled k leaf arrays = map (filled_for k leaf) arrays

-- A walk that an access of this kind made fills an array with its leaf.
abbrev pub takes_leaf : Kind → Leaf → TlbArray → Bool
takes_leaf k leaf a = serves_kind k a && takes_order a.spec leaf.order

-- what a purge removes: the leaf as it was before, all leaves of its space, or all
abbrev pub is_purged : Purge → Leaf → Leaf → Bool
is_purged purge.Page old leaf = is_leaf old.space old.first old.order leaf
is_purged purge.Space old leaf = leaf.space == old.space
is_purged purge.All old leaf = true

-- what a fence reaches
abbrev pub reaches_leaf : Reach → Leaf → Bool
reaches_leaf reach.All leaf = true
reaches_leaf (reach.Space s) leaf = leaf.space == s
reaches_leaf (reach.Addr page) leaf = covers leaf.space page leaf
reaches_leaf (reach.Page s page) leaf = covers s page leaf

-- An array without the leaves that pass a test.
abbrev pub array_without : (Leaf → Bool) → TlbArray → TlbArray
array_without p a = record a { sets = map (purged p) a.sets }

-- The arrays without the leaves that pass a test.
unfoldable pub arrays_without : (Leaf → Bool) → List TlbArray → List TlbArray
arrays_without p arrays = map (array_without p) arrays

-- How many leaves some sets hold.
abbrev pub leaves_in_sets : List (List Leaf) → ℕ
leaves_in_sets [] = 0
leaves_in_sets (s ∷ sets) = length s + leaves_in_sets sets

-- how many leaves the arrays hold
unfoldable pub leaf_count : List TlbArray → ℕ
leaf_count [] = 0
leaf_count (a ∷ arrays) = leaves_in_sets a.sets + leaf_count arrays

-- An array whose sets are empty.
abbrev pub opening_array : TlbSpec → TlbArray
opening_array spec = record { spec = spec; sets = replicate spec.sets [] }

-- The empty arrays of a row that is opened.
unfoldable pub opening_arrays : List TlbSpec → List TlbArray
opening_arrays specs = map opening_array specs
