-- The reading of one key of a table.
use Rattle.std.specs.Prelude.{◌≡◌, ℕ, ℤ, pos, ◌+◌, suc, ◌==◌, ◌&&◌, Bool, true, false, nat_le, List, length, codes, slice_set, Option, None, Some, Result, Ok, Err, if◌then◌else◌}
use Rattle.std.specs.List.{list_all, list_any}
use Rattle.std.specs.Str.{bytes_eq}
use Rattle.toml.specs.Data.{Data, Items, no_items, item, Members, as_str, as_integer, as_array, as_table, get_member}
use Rattle.xl_model.specs.declared.address.Mode.{Mode}
use Rattle.xl_model.specs.declared.address.Mode.TheVariants as mode
use Rattle.xl_model.specs.declared.row.Purge.{Purge}
use Rattle.xl_model.specs.declared.row.Purge.TheVariants as purge
use Rattle.xl_model.specs.Rows.{is_name_byte, is_width, is_within}
use Rattle.xl_config.specs.declared.fault.ConfigFault.{ConfigFault}
use Rattle.xl_config.specs.declared.fault.ConfigFault.TheVariants as fault
use Rattle.xl_config.specs.declared.fault.KeyFault.{KeyFault}
use Rattle.xl_config.specs.declared.fault.Rule.{Rule}
use Rattle.xl_config.specs.declared.fault.Rule.TheVariants as rule
use Rattle.xl_config.specs.declared.kind.TableKind.{TableKind}
use Rattle.xl_config.specs.declared.kind.TableKind.TheVariants as kind

-- The key of a row that breaks a rule; row 0 is the document.
abbrev pub bad : ℕ → ℕ → Rule → KeyFault
bad row key broken = record { row = row; key = key; rule = broken }

infixl 10 ◌>>=◌
-- One reading after another: the first fault counts.
abbrev pub ◌>>=◌ : {A B : Type 0} → Result A KeyFault → (A → Result B KeyFault) → Result B KeyFault
Ok a >>= f = f a
Err e >>= f = Err e

-- What is needed, or the fault where it isn't there.
abbrev pub needed : {A : Type 0} → KeyFault → Option A → Result A KeyFault
needed e None = Err e
needed e (Some a) = Ok a

-- The value where the test holds, else the fault.
abbrev pub checked : {A : Type 0} → KeyFault → Bool → A → Result A KeyFault
checked e true a = Ok a
checked e false a = Err e

-- A reader that takes no memory returns what is read, as its value is seen.
abbrev pub Reads : {A B : Type 0} → (A → B) → Result A KeyFault → Result B KeyFault → Type 0
Reads view (Ok x) read = read ≡ Ok (view x)
Reads view (Err e) read = read ≡ Err e

-- A reader that writes its value returns what is read.
abbrev pub Fills : {B : Type 0} → Result (Unit {0}) KeyFault → B → Result B KeyFault → Type 0
Fills (Ok done) new read = read ≡ Ok new
Fills (Err e) new read = read ≡ Err e

-- A reader that takes memory returns what is read, or that there is none.
abbrev pub Gives : {A B : Type 0} → (A → B) → Result A ConfigFault → Result B ConfigFault → Type 0
Gives view (Ok x) read = read ≡ Ok (view x)
Gives view (Err e) read = ¬ (e ≡ fault.NoMemory) → read ≡ Err e

-- A key that must be there.
abbrev pub found : ℕ → ℕ → List ℕ → Members → Result Data KeyFault
found row key name ms = needed (bad row key rule.Missing) (get_member name ms)

-- A value that must be a text.
abbrev pub text_of : ℕ → ℕ → Data → Result (List ℕ) KeyFault
text_of row key d = needed (bad row key rule.WrongType) (as_str d)

-- A value that must be an array.
abbrev pub array_of : ℕ → ℕ → Data → Result Items KeyFault
array_of row key d = needed (bad row key rule.WrongType) (as_array d)

-- A value that must be a table.
abbrev pub table_of : ℕ → ℕ → Data → Result Members KeyFault
table_of row key d = needed (bad row key rule.WrongType) (as_table d)

-- An integer from least to most.
abbrev pub between : ℕ → ℕ → ℤ → Option ℕ
between least most (pos n) = if is_within least most n then Some n else None
between least most _ = None

-- A value that must be a number from least to most.
abbrev pub number_of : ℕ → ℕ → ℕ → ℕ → Data → Result ℕ KeyFault
number_of row key least most d =
    needed (bad row key rule.WrongType) (as_integer d) >>= (λ z. needed (bad row key rule.Outside) (between least most z))

-- The number at a key that must be there.
abbrev pub number_in : ℕ → ℕ → List ℕ → ℕ → ℕ → Members → Result ℕ KeyFault
number_in row key name least most ms = found row key name ms >>= number_of row key least most

-- An integer that is a width from `least` on.
abbrev pub width_by : ℕ → ℤ → Option ℕ
width_by least (pos n) = if is_width n && nat_le least n then Some n else None
width_by least _ = None

-- A value that must be a width from `least` on.
abbrev pub width_of : ℕ → ℕ → ℕ → Data → Result ℕ KeyFault
width_of row key least d =
    needed (bad row key rule.WrongType) (as_integer d) >>= (λ z. needed (bad row key rule.Outside) (width_by least z))

-- A row's name: 1 to 16 bytes of a few kinds.
abbrev pub is_name : List ℕ → Bool
is_name s = is_within 1 16 (length s) && list_all is_name_byte s

-- The name of a row, which none of the earlier rows has.
abbrev pub name_in : ℕ → List (List ℕ) → Members → Result (List ℕ) KeyFault
name_in row earlier ms =
    found row 1 (codes "name") ms >>= text_of row 1
    >>= (λ s. checked (bad row 1 rule.Outside) (is_name s) s)
    >>= (λ s. checked (bad row 1 rule.Disagrees) (if list_any (bytes_eq s) earlier then false else true) s)

-- The words for the modes.
abbrev pub mode_named : List ℕ → Option Mode
mode_named s =
    if bytes_eq s (codes "sv39") then Some mode.Sv39
    else (if bytes_eq s (codes "sv48") then Some mode.Sv48
    else (if bytes_eq s (codes "sv57") then Some mode.Sv57
    else None))

-- The mode of a row.
abbrev pub mode_in : ℕ → Members → Result Mode KeyFault
mode_in row ms =
    found row 2 (codes "mode") ms >>= text_of row 2 >>= (λ s. needed (bad row 2 rule.Outside) (mode_named s))

-- The words for the kinds of table.
abbrev pub kind_named : List ℕ → Option TableKind
kind_named s =
    if bytes_eq s (codes "radix") then Some kind.Radix
    else (if bytes_eq s (codes "hashed") then Some kind.Hashed
    else (if bytes_eq s (codes "clustered") then Some kind.Clustered
    else (if bytes_eq s (codes "cuckoo") then Some kind.Cuckoo
    else (if bytes_eq s (codes "range") then Some kind.Range
    else None))))

-- The kind of a row's table.
abbrev pub kind_in : ℕ → Members → Result TableKind KeyFault
kind_in row ms =
    found row 5 (codes "table") ms >>= text_of row 5 >>= (λ s. needed (bad row 5 rule.Outside) (kind_named s))

-- The words for what leaves the TLB arrays.
abbrev pub purge_named : List ℕ → Option Purge
purge_named s =
    if bytes_eq s (codes "page") then Some purge.Page
    else (if bytes_eq s (codes "space") then Some purge.Space
    else (if bytes_eq s (codes "all") then Some purge.All
    else None))

-- The purge that a value is: the page's leaf alone where the key isn't there.
abbrev pub purge_by : ℕ → Option Data → Result Purge KeyFault
purge_by row None = Ok purge.Page
purge_by row (Some d) = text_of row 6 d >>= (λ s. needed (bad row 6 rule.Outside) (purge_named s))

-- The purge of a row.
abbrev pub purge_in : ℕ → Members → Result Purge KeyFault
purge_in row ms = purge_by row (get_member (codes "purge") ms)

-- The width of a range TLB, 0 where the key isn't there.
abbrev pub range_tlb_by : ℕ → Option Data → Result ℕ KeyFault
range_tlb_by row None = Ok 0
range_tlb_by row (Some d) = width_of row 21 0 d

-- The length of an array.
abbrev pub count_items : Items → ℕ
count_items no_items = 0
count_items (item d ds) = suc (count_items ds)

-- Widths in a list, one after another from a place on.
abbrev pub widths_from : ℕ → ℕ → Items → List ℕ → Result (List ℕ) KeyFault
widths_from row i no_items widths = Ok widths
widths_from row i (item d ds) widths = width_of row 8 0 d >>= (λ w. widths_from row (i + 1) ds (slice_set widths i w))

-- The widths of `count` walk caches, at the front of zeros; all are 0 where the key isn't there.
abbrev pub caches_by : ℕ → ℕ → List ℕ → Option Data → Result (List ℕ) KeyFault
caches_by row count zeros None = Ok zeros
caches_by row count zeros (Some d) =
    array_of row 8 d
    >>= (λ ds. checked (bad row 8 rule.Outside) (count_items ds == count) ds)
    >>= (λ ds. widths_from row 0 ds zeros)

-- The widths of a row's walk caches.
abbrev pub caches_in : ℕ → ℕ → List ℕ → Members → Result (List ℕ) KeyFault
caches_in row count zeros ms = caches_by row count zeros (get_member (codes "walk_caches") ms)
