-- A row of the configuration, as contracts see it, and the rules that it keeps.
use Rattle.std.specs.Prelude.{ℕ, ◌≡◌, ◌+◌, ◌-◌, ◌*◌, ◌≤◌, ◌==◌, Bool, true, false, ◌&&◌, ◌||◌, nat_le, if◌then◌else◌, List, [], ◌∷◌, length, drop}
use Rattle.std.specs.List.{list_all, list_any}
use Rattle.xl_model.specs.Addresses.{levels_of}
use Rattle.xl_model.specs.declared.row.Table.TheVariants as table
use Rattle.xl_model.specs.declared.address.Mode.{Mode}
use Rattle.xl_model.specs.declared.row.Purge.{Purge}
use Rattle.xl_model.specs.declared.row.Row.{Row as RowFields}
use Rattle.xl_model.specs.declared.row.Table.{Table}
use Rattle.xl_model.specs.declared.row.Serves.{Serves}
use Rattle.xl_model.specs.declared.row.Serves.TheVariants as serves
use Rattle.xl_model.specs.declared.row.TlbSpec.{TlbSpec}

-- A row: a translation design with its limits.
pub record Row : Type 0 where
  pub name : List ℕ
  pub mode : Mode
  pub frames : ℕ
  pub spaces : ℕ
  pub purge : Purge
  pub table : Table
  pub tlb : List TlbSpec

-- the row that a value of the code's row is
abbrev pub row_of : RowFields → Row
row_of r = record {
  name = r.name.bytes;
  mode = r.mode;
  frames = r.frames;
  spaces = r.spaces;
  purge = r.purge;
  table = r.table;
  tlb = r.tlb.items;
}

-- A byte of a row's name: a lower-case letter, a digit, `-` or `_`.
abbrev pub is_name_byte : ℕ → Bool
is_name_byte b =
    (nat_le 97 b && nat_le b 122) || ((nat_le 48 b && nat_le b 57) || ((b == 45) || (b == 95)))

-- The width of a recency list: 0, or one of nine others.
abbrev pub is_width : ℕ → Bool
is_width n = list_any (λ w. w == n) (0 ∷ 1 ∷ 2 ∷ 4 ∷ 6 ∷ 8 ∷ 12 ∷ 16 ∷ 32 ∷ 64 ∷ [])

-- A number lies in its limits.
abbrev pub is_within : ℕ → ℕ → ℕ → Bool
is_within least most n = nat_le least n && nat_le n most

-- A table of this many levels and spaces keeps its limits. Radix caches after the first levels - 1
-- are of width 0.
abbrev pub is_table : ℕ → ℕ → Table → Bool
is_table levels spaces (table.Radix frames caches) =
    is_within spaces 16384 frames && (list_all is_width caches && list_all (λ w. w == 0) (drop (levels - 1) caches))
is_table levels spaces (table.Hashed buckets entries) = is_within 1 1048576 buckets && is_within 1 1048576 entries
is_table levels spaces (table.Clustered buckets blocks) = is_within 1 1048576 buckets && is_within 1 131072 blocks
is_table levels spaces (table.Cuckoo ways start cap threshold kick_limit migrate sections_2m sections_1g caches) =
    (is_within 2 4 ways && (is_within 0 18 start && is_within start 18 cap))
    && ((is_within 1 100 threshold && (is_within 1 64 kick_limit && is_within 1 64 migrate))
    && (is_within 1 262144 sections_2m && (is_within 1 4096 sections_1g && list_all is_width caches)))
is_table levels spaces (table.Range ranges tlb) = is_within 1 65536 ranges && is_width tlb

-- A TLB array keeps its limits: it has some width and some order, and at most 2^14 leaves.
abbrev pub is_array : TlbSpec → Bool
is_array spec =
    (is_within 1 3 spec.level && is_within 1 16384 spec.sets)
    && ((is_width spec.width && nat_le 1 spec.width)
    && (nat_le (spec.sets * spec.width) 16384 && (spec.k4 || (spec.m2 || spec.g1))))

-- Levels begin at the next one after this, or at this one, and none is left out.
abbrev pub levels_rise_from : ℕ → List TlbSpec → Bool
levels_rise_from level [] = true
levels_rise_from level (t ∷ ts) = ((t.level == level) || (t.level == level + 1)) && levels_rise_from t.level ts

-- The first level is 1, and each next one is the same or one more.
abbrev pub levels_rise : List TlbSpec → Bool
levels_rise [] = true
levels_rise (t ∷ ts) = (t.level == 1) && levels_rise_from t.level ts

-- Two arrays serve one kind of access: not one fetches and the other data.
abbrev pub serve_together : Serves → Serves → Bool
serve_together serves.Fetch serves.Data = false
serve_together serves.Data serves.Fetch = false
serve_together serves.All u = true
serve_together serves.Fetch serves.All = true
serve_together serves.Fetch serves.Fetch = true
serve_together serves.Data serves.All = true
serve_together serves.Data serves.Data = true

-- Two arrays of one level have an order in common for one kind of access.
abbrev pub clash : TlbSpec → TlbSpec → Bool
clash t u =
    (t.level == u.level && serve_together t.serves u.serves)
    && ((t.k4 && u.k4) || ((t.m2 && u.m2) || (t.g1 && u.g1)))

-- No two arrays clash.
abbrev pub none_clash : List TlbSpec → Bool
none_clash [] = true
none_clash (t ∷ ts) = list_all (λ u. if clash t u then false else true) ts && none_clash ts

-- A row keeps the rules of the configuration.
pub record IsRow (row : Row) : Type 0 where
  pub name_bytes : list_all is_name_byte row.name ≡ true
  pub name_length : is_within 1 16 (length row.name) ≡ true
  pub frames_in : is_within 1 4194304 row.frames ≡ true
  pub spaces_in : is_within 1 64 row.spaces ≡ true
  pub table_is : is_table (levels_of row.mode) row.spaces row.table ≡ true
  pub few_arrays : length row.tlb ≤ 6
  pub arrays_are : list_all is_array row.tlb ≡ true
  pub levels_are : levels_rise row.tlb ≡ true
  pub apart : none_clash row.tlb ≡ true
