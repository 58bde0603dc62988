-- The rows of a report as JSON: an array with an object for each row, with its keys in rising order.
use Rattle.std.specs.Prelude.{ℕ, zero, suc, List, [], ◌∷◌, ◌++◌, map, codes}
use Rattle.serde_json.specs.Data.{Data, number, unsigned, string, array, object, no_items, item, Members, no_members, member, put as with_member}
use Rattle.serde_json.specs.View.{items_of}
use Rattle.serde_json.specs.Written.{compact_text}
use Rattle.xl_model.specs.declared.row.Counts.{Counts}
use Rattle.xl_model.specs.declared.row.Row.{Row}
use Rattle.xl_model.specs.Lines.{hex16}
use Rattle.xl_model.specs.Scenes.{Served}

-- A count.
abbrev pub amount : ℕ → Data
amount n = number (unsigned n)

-- Counts in a list.
abbrev pub amounts : List ℕ → Data
amounts ns = array (items_of (map amount ns))

-- The hits and the misses of an array.
abbrev pub pair : ℕ → ℕ → Data
pair hits misses = array (item (amount hits) (item (amount misses) no_items))

-- The hits and the misses of n arrays.
abbrev pub pairs : ℕ → List ℕ → List ℕ → List Data
pairs zero hits misses = []
pairs (suc n) (h ∷ hits) (m ∷ misses) = pair h m ∷ pairs n hits misses
pairs n hits misses = []

-- The hits and the misses of a row's arrays.
abbrev pub arrays_of : Counts → Data
arrays_of c = array (items_of (pairs c.arrays c.hits c.misses))

-- The object of a row: its name, and each count under its name, in the order of the names' bytes.
unfoldable pub row_object : List ℕ → Counts → Data
row_object name c = object (
    member (codes "accepted") (amount c.accepted) (
    member (codes "accesses") (amount c.accesses) (
    member (codes "denied") (amount c.denied) (
    member (codes "fences") (amount c.fences) (
    member (codes "fills") (amount c.fills) (
    member (codes "growths") (amount c.growths) (
    member (codes "invalidated") (amount c.invalidated) (
    member (codes "kicks") (amount c.kicks) (
    member (codes "migrated") (amount c.migrated) (
    member (codes "name") (string name) (
    member (codes "notcanonical") (amount c.not_canonical) (
    member (codes "ok") (amount c.ok) (
    member (codes "pasum") (string (hex16 c.pasum)) (
    member (codes "reads") (amount c.reads) (
    member (codes "refused") (amounts c.refused) (
    member (codes "tlb") (arrays_of c) (
    member (codes "undone") (amount c.undone) (
    member (codes "unmapped") (amount c.unmapped) (
    member (codes "walks") (amount c.walks) (
    member (codes "wchits") (amount c.wc_hits) no_members))))))))))))))))))))

-- Members with the counts of replies and of accepted commands put among them, each at its place.
unfoldable pub verdict_members : Counts → Members → Members
verdict_members c ms =
    with_member (codes "accepted") (amount c.accepted) (with_member (codes "notcanonical") (amount c.not_canonical)
    (with_member (codes "denied") (amount c.denied) (with_member (codes "unmapped") (amount c.unmapped)
    (with_member (codes "ok") (amount c.ok) (with_member (codes "accesses") (amount c.accesses) ms)))))

-- Members with the counts of walks and fills put among them, each at its place.
unfoldable pub walk_members : Counts → Members → Members
walk_members c ms =
    with_member (codes "fills") (amount c.fills) (with_member (codes "wchits") (amount c.wc_hits)
    (with_member (codes "reads") (amount c.reads) (with_member (codes "walks") (amount c.walks) ms)))

-- Members with the counts of cuckoo insertions and of fences put among them, each at its place.
unfoldable pub change_members : Counts → Members → Members
change_members c ms =
    with_member (codes "invalidated") (amount c.invalidated) (with_member (codes "fences") (amount c.fences)
    (with_member (codes "growths") (amount c.growths) (with_member (codes "migrated") (amount c.migrated)
    (with_member (codes "undone") (amount c.undone) (with_member (codes "kicks") (amount c.kicks) ms)))))

-- Members with the name of a row, its refusals, its sum and its arrays put among them, each at its
-- place.
unfoldable pub named_members : List ℕ → Counts → Members → Members
named_members name c ms =
    with_member (codes "tlb") (arrays_of c) (with_member (codes "pasum") (string (hex16 c.pasum))
    (with_member (codes "refused") (amounts c.refused) (with_member (codes "name") (string name) ms)))

-- The objects of rows with their counts.
abbrev pub objects_of : List Row → List Counts → List Data
objects_of [] counts = []
objects_of (r ∷ rows) [] = []
objects_of (r ∷ rows) (c ∷ counts) = row_object r.name.bytes c ∷ objects_of rows counts

-- The objects of rows that are served.
abbrev pub row_objects : List Served → List Data
row_objects [] = []
row_objects (r ∷ rows) = row_object r.row.name r.state.counts ∷ row_objects rows

-- The text of some objects, in an array.
abbrev pub objects_text : List Data → List ℕ
objects_text objects = compact_text (array (items_of objects))

-- The line of all rows.
unfoldable pub json_line : List Served → List ℕ
json_line rows = objects_text (row_objects rows) ++ codes "\n"
