-- How the orders are probed in a walk, and what it leaves in the caches.
use Rattle.std.specs.Prelude.{ℕ, ◌/◌, ◌<◌, ◌==◌, not, Bool, true, false, ◌&&◌, List, [], ◌∷◌, length, map, drop, Option, None, Some}
use Rattle.xl_model.specs.declared.address.Order.{Order}
use Rattle.xl_model.specs.declared.address.Order.TheVariants as order
use Rattle.xl_model.specs.declared.leaf.Leaf.{Leaf}
use Rattle.xl_model.specs.declared.event.Reach.{Reach}
use Rattle.xl_model.specs.Addresses.{pages_of}
use Rattle.xl_model.specs.Sections.{Section, way_where}
use Rattle.xl_model.specs.Placing.{way_at, holder_from, Displaced}
use Rattle.xl_model.specs.Ways.{WayShape}
use Rattle.xl_model.specs.Walks.{leaves_possible, way_known}
use Rattle.xl_model.specs.Caches.{Cached}
use Rattle.xl_model.specs.Recency.{touched, with_newest, purged}
use Rattle.xl_recency.specs.declared.item.Item.{Item}
use Rattle.xl_sections.specs.Counted.{Count, part, count_of}
use Rattle.xl_tagged.specs.Slots.{leaf_read}
use Rattle.xl_way.specs.Slots.{word_of}
use Rattle.xl_cuckoo.specs.Table.{CuckooState, value_of, loaded}
use Rattle.xl_cuckoo_walk.specs.declared.plan.Plan.{Plan}
use Rattle.xl_cuckoo_walk.specs.declared.plan.Plan.TheVariants as plan
use Rattle.xl_cuckoo_walk.specs.Coding.{word_by, has_tag, is_old, is_reached}

-- One way is probed where it is known, else every way.
abbrev pub plan_at : Option ℕ → Plan
plan_at None = plan.Every
plan_at (Some way) = plan.At way

-- The way in a cached section.
abbrev pub way_found : Option Section → Option ℕ
way_found None = None
way_found (Some s) = s.way

-- The cached section that says the way of a leaf of an order: that of the order's own size.
abbrev pub own_section : Order → Option Section → Option Section → Option Section
own_section order.K4 m2 g1 = None
own_section order.M2 m2 g1 = m2
own_section order.G1 m2 g1 = g1

-- How an order is probed: not at all where it isn't possible, in one way where that is known, else
-- in every way.
abbrev pub plan_by : Bool → Bool → Option ℕ → Plan
plan_by false known way = plan.Skip
plan_by true false way = plan.Every
plan_by true true way = plan_at way

-- How an order is probed, by the cached sections of the page.
unfoldable pub plan_of : Order → Option Section → Option Section → Plan
plan_of o m2 g1 = plan_by (leaves_possible m2 o && leaves_possible g1 o) (way_known o m2 g1) (way_found (own_section o m2 g1))

-- What a probe as planned finds.
abbrev pub value_by : Plan → ℕ → List WayShape → Option ℕ
value_by plan.Skip key ways = None
value_by plan.Every key ways = value_of key ways
value_by (plan.At way) key ways = word_of key (way_at ways way).entries

-- A table after a probe as planned.
abbrev pub probed : Plan → CuckooState → CuckooState
probed plan.Skip t = t
probed plan.Every t = loaded (length t.ways) t
probed (plan.At way) t = loaded 1 t

-- The way that a plan names is there.
abbrev pub IsIn : Plan → List WayShape → Type 0
IsIn plan.Skip ways = Unit {0}
IsIn plan.Every ways = Unit {0}
IsIn (plan.At way) ways = way < length ways

-- The loads of a probe as planned.
abbrev pub loads_by : Plan → ℕ → ℕ
loads_by plan.Skip count = 0
loads_by plan.Every count = count
loads_by (plan.At way) count = 1

-- The leaf of a page that a word says, if there is one.
unfoldable pub leaf_said_by : Order → ℕ → ℕ → Option ℕ → Option Leaf
leaf_said_by o space page None = None
leaf_said_by o space page (Some word) = leaf_read space o (page / pages_of o) word

-- Leaves of an order lie in the section of a key, by the counts.
abbrev pub is_counted : Order → ℕ → List Count → Bool
is_counted o key counts = not (part o (count_of key counts) == 0)

-- The word of the section of a key, by the counts of its leaves and the way of its own leaf.
unfoldable pub new_word : Order → ℕ → List Count → List WayShape → ℕ
new_word size key counts ways =
    word_by (is_counted order.K4 key counts) (is_counted order.M2 key counts) (is_counted order.G1 key counts)
    (way_where (is_counted size key counts) (holder_from 0 ways key))

-- A cache after a touch of the section of a tag.
abbrev pub touched_in : ℕ → Cached Item → Cached Item
touched_in tag c = record c { items = touched (has_tag tag) c.items }

-- A cache with a section in front.
abbrev pub newest_in : ℕ → ℕ → Cached Item → Cached Item
newest_in tag word c = record c { items = with_newest c.width (record { tag = tag; word = word }) c.items }

-- A cache after a walk that fills or doesn't: a section that was there isn't put again.
abbrev pub filled : Bool → Option ℕ → ℕ → ℕ → Cached Item → Cached Item
filled false hit tag word c = c
filled true (Some old) tag word c = c
filled true None tag word c = newest_in tag word c

-- A cache after the sections of these keys are compared with their new words: what isn't so leaves.
abbrev pub refreshed : (ℕ → ℕ) → List ℕ → Cached Item → Cached Item
refreshed word [] c = c
refreshed word (key ∷ keys) c = refreshed word keys (record c { items = purged (is_old key (word key)) c.items })

-- A cache after a fence: what it reaches leaves.
abbrev pub fenced : Reach → Cached Item → Cached Item
fenced reach c = record c { items = purged (is_reached reach) c.items }

-- The keys that an insertion displaced, from one on.
unfoldable pub keys_from : ℕ → List Displaced → List ℕ
keys_from at moved = drop at (map (λ d. d.key) moved)

-- The key of a logged displacement, if there is one.
abbrev pub key_known : Option Displaced → Option ℕ
key_known None = None
key_known (Some d) = Some d.key
