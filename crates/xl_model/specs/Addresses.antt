-- Addresses, page sizes and permissions (RISC-V Privileged manual, Sv39, Sv48, Sv57; user accesses).
use Rattle.std.specs.Prelude.{ℕ, zero, suc, ◌+◌, ◌-◌, ◌*◌, ◌/◌, ◌%◌, ◌^◌, ◌==◌, Bool, ◌&&◌, ◌||◌, not}
use Rattle.xl_model.specs.declared.address.Mode.{Mode}
use Rattle.xl_model.specs.declared.address.Mode.TheVariants as mode
use Rattle.xl_model.specs.declared.address.Order.{Order}
use Rattle.xl_model.specs.declared.address.Order.TheVariants as order
use Rattle.xl_model.specs.declared.address.Kind.{Kind}
use Rattle.xl_model.specs.declared.address.Kind.TheVariants as kind
use Rattle.xl_model.specs.declared.perm.Perm.{Perm}

-- the levels of the mode's radix table
abbrev pub levels_of : Mode → ℕ
levels_of mode.Sv39 = 3
levels_of mode.Sv48 = 4
levels_of mode.Sv57 = 5

-- An address has 9 bits of index a level, and 12 bits within the page. It is canonical where its
-- highest such bit and all bits above it are equal: all 0, or all 1.
unfoldable pub is_canonical : Mode → ℕ → Bool
is_canonical m va =
    (va / 2 ^ (9 * levels_of m + 11) == 0) || (va / 2 ^ (9 * levels_of m + 11) == 2 ^ (53 - 9 * levels_of m) - 1)

-- the number of the page of an address
unfoldable pub page_of : Mode → ℕ → ℕ
page_of m va = va / 4096 % 2 ^ (9 * levels_of m)

-- the level of the radix table at which a leaf of this order is
abbrev pub level_of : Order → ℕ
level_of order.K4 = 0
level_of order.M2 = 1
level_of order.G1 = 2

-- The order of a level; each level above 1 is that of 1 GiB.
abbrev pub order_at : ℕ → Order
order_at zero = order.K4
order_at (suc zero) = order.M2
order_at (suc (suc n)) = order.G1

-- the 4 KiB pages of a leaf of this order
abbrev pub pages_of : Order → ℕ
pages_of order.K4 = 1
pages_of order.M2 = 512
pages_of order.G1 = 262144

-- Two orders are the same.
abbrev pub same_order : Order → Order → Bool
same_order a b = level_of a == level_of b

-- whether an address is that of a block of this order's first byte
abbrev pub is_aligned : Order → ℕ → Bool
is_aligned o va = va % (4096 * pages_of o) == 0

-- The rule of a leaf's permission bits: at least one of read, write and execute, and no write
-- without read.
abbrev pub is_legal : Bool → Bool → Bool → Bool
is_legal r w x = (r || x) && (r || not w)

-- Every access here is a user access: it needs u, and the bit of its kind.
abbrev pub allows : Perm → Kind → Bool
allows p kind.Fetch = p.u && p.x
allows p kind.Load = p.u && p.r
allows p kind.Store = p.u && p.w

-- the code of the page fault of an access of this kind
abbrev pub code_of : Kind → ℕ
code_of kind.Fetch = 12
code_of kind.Load = 13
code_of kind.Store = 15
