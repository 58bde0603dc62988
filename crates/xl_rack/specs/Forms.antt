-- The forms of a machine, one for each variant of a slot.
use Rattle.std.specs.Prelude.{ℕ, zero, suc, ◌≡◌, Option, None, Some}
use Rattle.xl_model.specs.declared.address.Mode.{Mode}
use Rattle.xl_model.specs.declared.address.Mode.TheVariants as mode
use Rattle.xl_model.specs.declared.row.Table.{Table}
use Rattle.xl_model.specs.declared.row.Table.TheVariants as table
use Rattle.xl_model.specs.Rows.{Row}

-- What a machine is over: a radix table of three, four or five levels, a hashed
-- table, a clustered table, a cuckoo table of two, three or four ways, or a table
-- of ranges.
pub data Form : Type 0 where
  Radix3 : Form
  Radix4 : Form
  Radix5 : Form
  HashedForm : Form
  ClusteredForm : Form
  CuckooForm2 : Form
  CuckooForm3 : Form
  CuckooForm4 : Form
  RangeForm : Form

-- The form of a radix table, by the mode.
abbrev pub radix_form : Mode → Form
radix_form mode.Sv39 = Radix3
radix_form mode.Sv48 = Radix4
radix_form mode.Sv57 = Radix5

-- The form of a cuckoo table, by its ways; none has another number of ways.
abbrev pub cuckoo_form : ℕ → Option Form
cuckoo_form (suc (suc zero)) = Some CuckooForm2
cuckoo_form (suc (suc (suc zero))) = Some CuckooForm3
cuckoo_form (suc (suc (suc (suc zero)))) = Some CuckooForm4
cuckoo_form _ = None

-- The form that a table names in a mode.
abbrev pub form_by : Mode → Table → Option Form
form_by m (table.Radix frames caches) = Some (radix_form m)
form_by m (table.Hashed buckets entries) = Some HashedForm
form_by m (table.Clustered buckets blocks) = Some ClusteredForm
form_by m (table.Cuckoo ways start cap threshold kick_limit migrate sections_2m sections_1g caches) = cuckoo_form ways
form_by m (table.Range ranges range_tlb) = Some RangeForm

-- A cuckoo table of `n` ways.
abbrev pub IsCuckoo : ℕ → Table → Type 0
IsCuckoo count (table.Cuckoo ways start cap threshold kick_limit migrate sections_2m sections_1g caches) = ways ≡ count
IsCuckoo count _ = ⊥

-- The form that a row names.
abbrev pub form_named : Row → Option Form
form_named row = form_by row.mode row.table
