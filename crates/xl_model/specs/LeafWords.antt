-- A leaf's frame and permission in one word: the frame times 16, and four bits.
use Rattle.std.specs.Prelude.{ℕ, ◌+◌, ◌*◌, ◌/◌, ◌%◌, ◌==◌, Bool, true, false, refl}
use Rattle.xl_model.specs.declared.address.Order.{Order}
use Rattle.xl_model.specs.declared.address.Order.TheVariants as order
use Rattle.xl_model.specs.declared.leaf.Leaf.{Leaf}
use Rattle.xl_model.specs.declared.perm.Perm.{Perm}
use Rattle.xl_model.specs.Addresses.{pages_of}
use Rattle.xl_model.specs.Words.{bit_if}

-- The number of a permission: one bit each for read, write, execute and user.
unfoldable pub perm_code : Perm → ℕ
perm_code p = bit_if p.r 1 + bit_if p.w 2 + bit_if p.x 4 + bit_if p.u 8

-- The permission of four bits. Those that aren't legal give one that may only be executed.
abbrev pub perm_by : Bool → Bool → Bool → Bool → Perm
perm_by true w x u = record { r = true; w = w; x = x; u = u; legal = refl }
perm_by false w x u = record { r = false; w = false; x = true; u = u; legal = refl }

-- The permission in the lowest four bits of a word.
unfoldable pub perm_at : ℕ → Perm
perm_at code = perm_by (code % 2 == 1) (code / 2 % 2 == 1) (code / 4 % 2 == 1) (code / 8 % 2 == 1)

-- The leaf of this space and order that covers the page, with the frame and permission of the word.
abbrev pub leaf_with : ℕ → ℕ → Order → ℕ → Leaf
leaf_with space page o word = record {
  space = space;
  first = page / pages_of o * pages_of o;
  order = o;
  frame = word / 16;
  perm = perm_at word;
}

-- The 4 KiB leaf of the space that covers the page, with the frame and permission of the word.
abbrev pub small_leaf : ℕ → ℕ → ℕ → Leaf
small_leaf space page word = leaf_with space page order.K4 word
