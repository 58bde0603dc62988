-- PTE words (RISC-V Privileged manual). Bit 0 is V, 1 R, 2 W, 3 X, 4 U, 6 A, 7 D; bits 10 to 53 are the PPN.
use Rattle.std.specs.Prelude.{ℕ, ◌+◌, ◌*◌, Bool, true, false}
use Rattle.xl_model.specs.declared.perm.Perm.{Perm}

-- The value of a bit, where it is set.
abbrev pub bit_if : Bool → ℕ → ℕ
bit_if true value = value
bit_if false value = 0

-- the word of a pointer to the node of this number: V alone is set
unfoldable pub pointer_word : ℕ → ℕ
pointer_word node = node * 1024 + 1

-- the word of a leaf: V, A, D and the permission bits are set
unfoldable pub leaf_word : ℕ → Perm → ℕ
leaf_word frame p =
    frame * 1024 + (0xc1 + (bit_if p.r 2 + (bit_if p.w 4 + (bit_if p.x 8 + bit_if p.u 16))))
