-- The words for a page's size and for a permission.
use Rattle.std.specs.Prelude.{ℕ, ◌==◌, Bool, true, false, List, [], ◌∷◌, codes, Option, None, Some, refl, if◌then◌else◌}
use Rattle.std.specs.Str.{bytes_eq}
use Rattle.xl_model.specs.declared.address.Order.{Order}
use Rattle.xl_model.specs.declared.address.Order.TheVariants as order
use Rattle.xl_model.specs.declared.perm.Perm.{Perm}

-- The size that `4k`, `2m` or `1g` names.
unfoldable pub order_of : List ℕ → Option Order
order_of word =
    if bytes_eq word (codes "4k") then Some order.K4
    else (if bytes_eq word (codes "2m") then Some order.M2
    else (if bytes_eq word (codes "1g") then Some order.G1
    else None))

-- One character of a permission: its letter where the bit is set, `-` where it isn't.
abbrev pub flag : ℕ → ℕ → Option Bool
flag letter c = if c == letter then Some true else (if c == 45 then Some false else None)

-- The permission with these bits, where it is legal: one of read, write and execute, and no write
-- without read.
abbrev pub perm_with : Bool → Bool → Bool → Bool → Option Perm
perm_with true w x u = Some (record { r = true; w = w; x = x; u = u; legal = refl })
perm_with false true x u = None
perm_with false false true u = Some (record { r = false; w = false; x = true; u = u; legal = refl })
perm_with false false false u = None

-- The permission with these bits, where each is one.
abbrev pub of_flags : Option Bool → Option Bool → Option Bool → Option Bool → Option Perm
of_flags (Some r) (Some w) (Some x) (Some u) = perm_with r w x u
of_flags _ _ _ _ = None

-- A permission is four characters, for read, write, execute and user.
abbrev pub perm_of : List ℕ → Option Perm
perm_of (r ∷ w ∷ x ∷ u ∷ []) = of_flags (flag 114 r) (flag 119 w) (flag 120 x) (flag 117 u)
perm_of _ = None
