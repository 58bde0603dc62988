-- The rows of a document.
use Rattle.std.specs.Prelude.{ℕ, ◌+◌, ◌&&◌, Bool, true, List, [], ◌∷◌, ◌++◌, codes, Result, Ok, is_some}
use Rattle.std.specs.Str.{bytes_eq}
use Rattle.toml.specs.Data.{Data, Items, no_items, item, Members, as_table}
use Rattle.xl_model.specs.Rows.{Row, is_within}
use Rattle.xl_config.specs.declared.fault.KeyFault.{KeyFault}
use Rattle.xl_config.specs.declared.fault.Rule.TheVariants as rule
use Rattle.xl_config.specs.Keys.{◌>>=◌, bad, checked, found, array_of, table_of, number_in, count_items, name_in, mode_in, kind_in, purge_in}
use Rattle.xl_config.specs.Arrays.{only_known, arrays_in}
use Rattle.xl_config.specs.Tables.{table_in, is_known}

-- The names of rows.
abbrev pub names_of : List Row → List (List ℕ)
names_of [] = []
names_of (r ∷ rs) = r.name ∷ names_of rs

-- The row of this number, after rows of these names: each key in its turn, and then no other.
unfoldable pub row_in : ℕ → List (List ℕ) → Members → Result Row KeyFault
row_in row earlier ms =
    name_in row earlier ms >>= (λ name.
    mode_in row ms >>= (λ mode.
    number_in row 3 (codes "frames") 1 4194304 ms >>= (λ frames.
    number_in row 4 (codes "spaces") 1 64 ms >>= (λ spaces.
    kind_in row ms >>= (λ kind.
    purge_in row ms >>= (λ purge.
    table_in kind row mode spaces ms >>= (λ table.
    arrays_in row ms >>= (λ tlb.
    checked (bad row 23 rule.NotAllowed) (only_known (is_known kind) ms)
    (record {
      name = name;
      mode = mode;
      frames = frames;
      spaces = spaces;
      purge = purge;
      table = table;
      tlb = tlb;
    })))))))))

-- The row that an element of the array is.
abbrev pub element_in : ℕ → List (List ℕ) → Data → Result Row KeyFault
element_in number earlier d = table_of 0 0 d >>= row_in number earlier

-- Rows after those so far.
abbrev pub rows_from : ℕ → Items → List Row → Result (List Row) KeyFault
rows_from number no_items rows = Ok rows
rows_from number (item d ds) rows =
    element_in number (names_of rows) d >>= (λ r. rows_from (number + 1) ds (rows ++ r ∷ []))

-- Each element is a table.
abbrev pub all_tables : Items → Bool
all_tables no_items = true
all_tables (item d ds) = is_some (as_table d) && all_tables ds

-- The key of a document.
abbrev pub is_top_key : List ℕ → Bool
is_top_key k = bytes_eq k (codes "row")

-- The array of rows: it is there, an array, of 1 to 16 tables, and alone in its document.
unfoldable pub elements_in : Members → Result Items KeyFault
elements_in ms =
    found 0 0 (codes "row") ms >>= array_of 0 0
    >>= (λ ds. checked (bad 0 0 rule.Outside) (is_within 1 16 (count_items ds)) ds)
    >>= (λ ds. checked (bad 0 0 rule.WrongType) (all_tables ds) ds)
    >>= (λ ds. checked (bad 0 0 rule.NotAllowed) (only_known is_top_key ms) ds)

-- The rows of a document.
unfoldable pub rows_in : Members → Result (List Row) KeyFault
rows_in ms = elements_in ms >>= (λ ds. rows_from 1 ds [])
