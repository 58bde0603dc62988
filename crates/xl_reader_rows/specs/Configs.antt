-- Documents of one row, each of whose keys is in its limits, and what is read where one key has another number.
use Rattle.std.specs.Prelude.{ℕ, ◌*◌, ◌==◌, pos, Bool, true, List, [], ◌∷◌, codes, if◌then◌else◌, Option, None, Some, Result, Ok, Err}
use Rattle.std.specs.Str.{bytes_eq}
use Rattle.toml.specs.Data.{Data, string, integer, array, table, Items, no_items, item, Members, no_members, member}
use Rattle.xl_model.specs.Rows.{Row}
use Rattle.xl_config.specs.declared.fault.ConfigFault.{ConfigFault}
use Rattle.xl_config.specs.declared.fault.ConfigFault.TheVariants as fault
use Rattle.xl_config.specs.Config.{keyed}
use Rattle.xl_config.specs.Rows.{rows_in}

-- Members with a number at a key that is there.
abbrev pub with_number : List ℕ → ℕ → Members → Members
with_number name n no_members = no_members
with_number name n (member k d ms) =
    if bytes_eq k name then member k (integer (pos n)) ms else member k d (with_number name n ms)

-- A number at a key, before other members.
abbrev pub number : List ℕ → ℕ → Members → Members
number name n ms = member name (integer (pos n)) ms

-- A text at a key, before other members.
abbrev pub text : List ℕ → List ℕ → Members → Members
text name value ms = member name (string value) ms

-- The keys of every row, with a table of this kind and its own keys.
abbrev pub row_keys : List ℕ → Members → Members
row_keys kind ms =
    text (codes "name") (codes "a")
    (text (codes "mode") (codes "sv39")
    (number (codes "frames") 64
    (number (codes "spaces") 2
    (text (codes "table") kind ms))))

-- A row with a radix table.
abbrev pub radix_row : Members
radix_row = row_keys (codes "radix") (number (codes "table_frames") 64 no_members)

-- A row with a hashed table.
abbrev pub hashed_row : Members
hashed_row = row_keys (codes "hashed") (number (codes "buckets") 4 (number (codes "entries") 8 no_members))

-- A row with a clustered table.
abbrev pub clustered_row : Members
clustered_row = row_keys (codes "clustered") (number (codes "buckets") 4 (number (codes "blocks") 8 no_members))

-- A row with a cuckoo table.
abbrev pub cuckoo_row : Members
cuckoo_row = row_keys (codes "cuckoo")
    (number (codes "ways") 3
    (number (codes "start_bits") 7
    (number (codes "cap_bits") 12
    (number (codes "threshold") 60
    (number (codes "kick_limit") 32
    (number (codes "migrate") 4
    (number (codes "sections_2m") 16
    (number (codes "sections_1g") 8 no_members))))))))

-- A row with a table of ranges.
abbrev pub range_row : Members
range_row = row_keys (codes "range") (number (codes "ranges") 8 no_members)

-- The keys of an array of 4 KiB leaves.
abbrev pub array_keys : Members
array_keys =
    number (codes "level") 1
    (number (codes "sets") 4
    (number (codes "width") 8
    (member (codes "orders") (array (item (string (codes "4k")) no_items)) no_members)))

-- Tables with these keys.
abbrev pub tables : List Members → Items
tables [] = no_items
tables (ms ∷ rest) = item (table ms) (tables rest)

-- A row with these arrays.
abbrev pub row_with_arrays : List Members → Members
row_with_arrays arrays = member (codes "tlb") (array (tables arrays)) radix_row

-- The key and the rule that a reading of a document fails at; none where it has rows.
abbrev pub failed_at : Result (List Row) ConfigFault → Option (ℕ × ℕ)
failed_at (Ok rows) = None
failed_at (Err (fault.BadKey row key rule)) = Some (key, rule)
failed_at (Err fault.TooLong) = Some (0, 0)
failed_at (Err fault.BadToml) = Some (0, 0)
failed_at (Err fault.NoMemory) = Some (0, 0)

-- The key and the rule that a document of these rows breaks first.
abbrev pub broken_by : List Members → Option (ℕ × ℕ)
broken_by rows = failed_at (keyed (rows_in (member (codes "row") (array (tables rows)) no_members)))

-- The same of one row, where a key has this number.
abbrev pub broken_at : Members → List ℕ → ℕ → Option (ℕ × ℕ)
broken_at row name n = broken_by (with_number name n row ∷ [])

-- The same of an array of a row.
abbrev pub broken_in_array : List ℕ → ℕ → Option (ℕ × ℕ)
broken_in_array name n = broken_by (row_with_arrays (with_number name n array_keys ∷ []) ∷ [])

-- Rows of these names, each with a radix table.
abbrev pub rows_named : List (List ℕ) → List Members
rows_named [] = []
rows_named (name ∷ names) =
    text (codes "name") name
    (text (codes "mode") (codes "sv39")
    (number (codes "frames") 64
    (number (codes "spaces") 2
    (text (codes "table") (codes "radix") (number (codes "table_frames") 64 no_members))))) ∷ rows_named names

-- The names of orders, as values.
abbrev pub order_items : List (List ℕ) → Items
order_items [] = no_items
order_items (name ∷ names) = item (string name) (order_items names)

-- An array of a level, for leaves of these orders.
abbrev pub array_of_orders : ℕ → List (List ℕ) → Members
array_of_orders level names =
    number (codes "level") level
    (number (codes "sets") 4
    (number (codes "width") 8
    (member (codes "orders") (array (order_items names)) no_members)))

-- An array of a level, for leaves of one order.
abbrev pub array_of_order : ℕ → List ℕ → Members
array_of_order level name = array_of_orders level (name ∷ [])

-- The keys of an array that serves what a number says, which is no text.
abbrev pub with_serves : ℕ → Members → Members
with_serves n ms = number (codes "serves") n ms

-- An array of each order in each of two levels.
abbrev pub six_arrays : List Members
six_arrays =
    array_of_order 1 (codes "4k") ∷ array_of_order 1 (codes "2m") ∷ array_of_order 1 (codes "1g")
    ∷ array_of_order 2 (codes "4k") ∷ array_of_order 2 (codes "2m") ∷ array_of_order 2 (codes "1g") ∷ []

-- Sixteen names.
abbrev pub sixteen_names : List (List ℕ)
sixteen_names =
    codes "a" ∷ codes "b" ∷ codes "c" ∷ codes "d" ∷ codes "e" ∷ codes "f" ∷ codes "g" ∷ codes "h"
    ∷ codes "i" ∷ codes "j" ∷ codes "k" ∷ codes "l" ∷ codes "m" ∷ codes "n" ∷ codes "o" ∷ codes "p" ∷ []

-- The key and the rule that a row with these arrays breaks, if it breaks one.
abbrev pub broken_with : List Members → Option (ℕ × ℕ)
broken_with arrays = broken_by (row_with_arrays arrays ∷ [])

-- An array of this level.
abbrev pub at_level : ℕ → Members
at_level level = with_number (codes "level") level array_keys

-- An array of this number of sets, of this width.
abbrev pub of_size : ℕ → ℕ → Members
of_size sets width = with_number (codes "width") width (with_number (codes "sets") sets array_keys)

-- A row of a cuckoo table with this cap.
abbrev pub capped_at : ℕ → Members
capped_at bits = with_number (codes "cap_bits") bits cuckoo_row
