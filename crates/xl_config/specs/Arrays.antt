-- The TLB arrays of a row.
use Rattle.std.specs.Prelude.{ℕ, ◌*◌, ◌&&◌, ◌||◌, Bool, true, false, nat_le, List, [], ◌∷◌, ◌++◌, codes, Option, None, Some, Result, Ok, if◌then◌else◌}
use Rattle.std.specs.Str.{bytes_eq}
use Rattle.toml.specs.Data.{Data, Items, no_items, item, Members, no_members, member, get_member}
use Rattle.xl_model.specs.declared.address.Order.{Order}
use Rattle.xl_model.specs.declared.address.Order.TheVariants as order
use Rattle.xl_model.specs.declared.row.Serves.{Serves}
use Rattle.xl_model.specs.declared.row.Serves.TheVariants as serves
use Rattle.xl_model.specs.declared.row.TlbSpec.{TlbSpec}
use Rattle.xl_model.specs.Rows.{is_within, levels_rise, none_clash}
use Rattle.xl_config.specs.declared.fault.KeyFault.{KeyFault}
use Rattle.xl_config.specs.declared.fault.Rule.TheVariants as rule
use Rattle.xl_config.specs.Keys.{◌>>=◌, bad, needed, checked, found, text_of, array_of, table_of, number_in, width_of, count_items}

-- The words for the orders.
abbrev pub order_named : List ℕ → Option Order
order_named s =
    if bytes_eq s (codes "4k") then Some order.K4
    else (if bytes_eq s (codes "2m") then Some order.M2
    else (if bytes_eq s (codes "1g") then Some order.G1
    else None))

-- The array with one order more, which it hasn't yet.
abbrev pub with_order : Order → TlbSpec → Option TlbSpec
with_order order.K4 t = if t.k4 then None else Some (record t { k4 = true })
with_order order.M2 t = if t.m2 then None else Some (record t { m2 = true })
with_order order.G1 t = if t.g1 then None else Some (record t { g1 = true })

-- The array with the order that a value must be.
abbrev pub order_of : ℕ → Data → TlbSpec → Result TlbSpec KeyFault
order_of row d t =
    text_of row 22 d
    >>= (λ s. needed (bad row 22 rule.Outside) (order_named s))
    >>= (λ o. needed (bad row 22 rule.Outside) (with_order o t))

-- The array with the orders of these values, one after another.
abbrev pub orders_from : ℕ → Items → TlbSpec → Result TlbSpec KeyFault
orders_from row no_items t = Ok t
orders_from row (item d ds) t = order_of row d t >>= orders_from row ds

-- The array with its orders: 1 to 3.
abbrev pub orders_in : ℕ → Members → TlbSpec → Result TlbSpec KeyFault
orders_in row ms t =
    found row 22 (codes "orders") ms >>= array_of row 22
    >>= (λ ds. checked (bad row 22 rule.Outside) (is_within 1 3 (count_items ds)) ds)
    >>= (λ ds. orders_from row ds t)

-- The width of an array: any but 0.
abbrev pub width_in : ℕ → Members → Result ℕ KeyFault
width_in row ms = found row 22 (codes "width") ms >>= width_of row 22 1

-- The words for what an array serves.
abbrev pub serves_named : List ℕ → Option Serves
serves_named s =
    if bytes_eq s (codes "all") then Some serves.All
    else (if bytes_eq s (codes "fetch") then Some serves.Fetch
    else (if bytes_eq s (codes "data") then Some serves.Data
    else None))

-- The accesses that a value says: all where the key isn't there.
abbrev pub serves_by : ℕ → Option Data → Result Serves KeyFault
serves_by row None = Ok serves.All
serves_by row (Some d) = text_of row 22 d >>= (λ s. needed (bad row 22 rule.Outside) (serves_named s))

-- The accesses that an array serves.
abbrev pub serves_in : ℕ → Members → Result Serves KeyFault
serves_in row ms = serves_by row (get_member (codes "serves") ms)

-- The keys of an array.
abbrev pub is_array_key : List ℕ → Bool
is_array_key k =
    bytes_eq k (codes "level") || bytes_eq k (codes "sets") || bytes_eq k (codes "width") || bytes_eq k (codes "orders")
    || bytes_eq k (codes "serves")

-- All keys of a table are known.
abbrev pub only_known : (List ℕ → Bool) → Members → Bool
only_known known no_members = true
only_known known (member k d ms) = known k && only_known known ms

-- An array that has no orders yet, and serves all accesses.
abbrev pub without_orders : ℕ → ℕ → ℕ → TlbSpec
without_orders level sets width = record { level = level; sets = sets; width = width; k4 = false; m2 = false; g1 = false; serves = serves.All }

-- One array, read whole.
unfoldable pub array_in : ℕ → Members → Result TlbSpec KeyFault
array_in row ms =
    number_in row 22 (codes "level") 1 3 ms >>= (λ level.
    number_in row 22 (codes "sets") 1 16384 ms >>= (λ sets.
    width_in row ms >>= (λ width.
    orders_in row ms (without_orders level sets width) >>= (λ t.
    serves_in row ms >>= (λ s.
    checked (bad row 22 rule.Outside) (nat_le (sets * width) 16384) t >>= (λ t.
    checked (bad row 22 rule.NotAllowed) (only_known is_array_key ms) (record t { serves = s })))))))

-- Arrays after those so far, each read whole.
abbrev pub arrays_from : ℕ → Items → List TlbSpec → Result (List TlbSpec) KeyFault
arrays_from row no_items ts = Ok ts
arrays_from row (item d ds) ts = table_of row 22 d >>= array_in row >>= (λ t. arrays_from row ds (ts ++ t ∷ []))

-- The levels rise from 1 on, and no two arrays of one level have an order in common for one kind of
-- access.
abbrev pub agree : List TlbSpec → Bool
agree ts = levels_rise ts && none_clash ts

-- All arrays, each whole, and then what they say together; none where the key isn't there.
abbrev pub arrays_by : ℕ → Option Data → Result (List TlbSpec) KeyFault
arrays_by row None = Ok []
arrays_by row (Some d) =
    array_of row 22 d
    >>= (λ ds. checked (bad row 22 rule.Outside) (nat_le (count_items ds) 6) ds)
    >>= (λ ds. arrays_from row ds [])
    >>= (λ ts. checked (bad row 22 rule.Disagrees) (agree ts) ts)

-- The arrays of a row: at most six.
abbrev pub arrays_in : ℕ → Members → Result (List TlbSpec) KeyFault
arrays_in row ms = arrays_by row (get_member (codes "tlb") ms)
