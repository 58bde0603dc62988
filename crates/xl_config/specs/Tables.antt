-- The keys of each kind of table.
use Rattle.std.specs.Prelude.{ℕ, ◌-◌, ◌||◌, Bool, List, [], ◌∷◌, codes, Result, Ok}
use Rattle.std.specs.Str.{bytes_eq}
use Rattle.toml.specs.Data.{Members, get_member}
use Rattle.xl_model.specs.Addresses.{levels_of}
use Rattle.xl_model.specs.declared.address.Mode.{Mode}
use Rattle.xl_model.specs.declared.row.Table.{Table}
use Rattle.xl_model.specs.declared.row.Table.TheVariants as table
use Rattle.xl_config.specs.declared.fault.KeyFault.{KeyFault}
use Rattle.xl_config.specs.declared.kind.TableKind.{TableKind}
use Rattle.xl_config.specs.declared.kind.TableKind.TheVariants as kind
use Rattle.xl_config.specs.Keys.{◌>>=◌, number_in, caches_in, range_tlb_by}

-- A radix table: its frames, at least the row's spaces, and a walk cache for each level of nodes
-- but the roots'.
unfoldable pub radix_in : ℕ → Mode → ℕ → Members → Result Table KeyFault
radix_in row mode spaces ms =
    number_in row 7 (codes "table_frames") spaces 16384 ms >>= (λ frames.
    caches_in row (levels_of mode - 1) (0 ∷ 0 ∷ 0 ∷ 0 ∷ []) ms >>= (λ caches.
    Ok (table.Radix frames caches)))

-- A hashed table: its buckets and entries.
unfoldable pub hashed_in : ℕ → Members → Result Table KeyFault
hashed_in row ms =
    number_in row 9 (codes "buckets") 1 1048576 ms >>= (λ buckets.
    number_in row 10 (codes "entries") 1 1048576 ms >>= (λ entries.
    Ok (table.Hashed buckets entries)))

-- A clustered table: its buckets and blocks.
unfoldable pub clustered_in : ℕ → Members → Result Table KeyFault
clustered_in row ms =
    number_in row 9 (codes "buckets") 1 1048576 ms >>= (λ buckets.
    number_in row 11 (codes "blocks") 1 131072 ms >>= (λ blocks.
    Ok (table.Clustered buckets blocks)))

-- A cuckoo table: its two section caches, ways, sizes, and limits of moves and sections.
unfoldable pub cuckoo_in : ℕ → Members → Result Table KeyFault
cuckoo_in row ms =
    caches_in row 2 (0 ∷ 0 ∷ []) ms >>= (λ caches.
    number_in row 12 (codes "ways") 2 4 ms >>= (λ ways.
    number_in row 13 (codes "start_bits") 0 18 ms >>= (λ start_bits.
    number_in row 14 (codes "cap_bits") start_bits 18 ms >>= (λ cap_bits.
    number_in row 15 (codes "threshold") 1 100 ms >>= (λ threshold.
    number_in row 16 (codes "kick_limit") 1 64 ms >>= (λ kick_limit.
    number_in row 17 (codes "migrate") 1 64 ms >>= (λ migrate.
    number_in row 18 (codes "sections_2m") 1 262144 ms >>= (λ sections_2m.
    number_in row 19 (codes "sections_1g") 1 4096 ms >>= (λ sections_1g.
    Ok (table.Cuckoo ways start_bits cap_bits threshold kick_limit migrate sections_2m sections_1g caches))))))))))

-- A range table: its ranges, and its TLB's width.
unfoldable pub range_in : ℕ → Members → Result Table KeyFault
range_in row ms =
    number_in row 20 (codes "ranges") 1 65536 ms >>= (λ ranges.
    range_tlb_by row (get_member (codes "range_tlb") ms) >>= (λ width.
    Ok (table.Range ranges width)))

-- The table of a row of this kind, mode and number of spaces.
abbrev pub table_in : TableKind → ℕ → Mode → ℕ → Members → Result Table KeyFault
table_in kind.Radix row mode spaces ms = radix_in row mode spaces ms
table_in kind.Hashed row mode spaces ms = hashed_in row ms
table_in kind.Clustered row mode spaces ms = clustered_in row ms
table_in kind.Cuckoo row mode spaces ms = cuckoo_in row ms
table_in kind.Range row mode spaces ms = range_in row ms

-- The keys of every row.
abbrev pub is_common_key : List ℕ → Bool
is_common_key k =
    bytes_eq k (codes "name") || bytes_eq k (codes "mode") || bytes_eq k (codes "frames") || bytes_eq k (codes "spaces")
    || bytes_eq k (codes "table") || bytes_eq k (codes "purge") || bytes_eq k (codes "tlb")

-- The keys of the rows of a kind.
abbrev pub is_key_of : TableKind → List ℕ → Bool
is_key_of kind.Radix k = bytes_eq k (codes "table_frames") || bytes_eq k (codes "walk_caches")
is_key_of kind.Hashed k = bytes_eq k (codes "buckets") || bytes_eq k (codes "entries")
is_key_of kind.Clustered k = bytes_eq k (codes "buckets") || bytes_eq k (codes "blocks")
is_key_of kind.Cuckoo k =
    bytes_eq k (codes "walk_caches") || bytes_eq k (codes "ways") || bytes_eq k (codes "start_bits")
    || bytes_eq k (codes "cap_bits") || bytes_eq k (codes "threshold") || bytes_eq k (codes "kick_limit") || bytes_eq k (codes "migrate")
    || bytes_eq k (codes "sections_2m") || bytes_eq k (codes "sections_1g")
is_key_of kind.Range k = bytes_eq k (codes "ranges") || bytes_eq k (codes "range_tlb")

-- The keys that a row of a kind may have.
abbrev pub is_known : TableKind → List ℕ → Bool
is_known t k = is_common_key k || is_key_of t k
