-- What a PTE word says at a level (RISC-V Privileged manual). Bit 0 is V, 1 R, 2 W, 3 X, 4 U; bits 10 to 53
-- are the PPN. Any of bits 54 to 63 makes a word reserved; bits 5 to 9 are not looked at.
use Rattle.std.specs.Prelude.{ℕ, ◌*◌, ◌/◌, ◌%◌, ◌^◌, ◌<◌, ◌==◌, ◌≡◌, Bool, true, false, ◌&&◌, if◌then◌else◌, IsTrue, refl}
use Rattle.xl_model.specs.Addresses.{allows, is_legal}
use Rattle.xl_model.specs.LeafWords.{perm_at}
use Rattle.xl_model.specs.declared.address.Kind.{Kind}
use Rattle.xl_model.specs.declared.perm.Perm.{Perm}
use Rattle.xl_pte.specs.declared.word.Pte.{Pte}
use Rattle.xl_pte.specs.declared.word.Pte.TheVariants.{Invalid, Pointer, Leaf, Reserved, Misaligned}

-- Whether bit k of a word is set.
abbrev pub bit : ℕ → ℕ → Bool
bit word k = word / 2 ^ k % 2 == 1

-- The PPN: the number of a node, or of a leaf's first frame.
abbrev pub ppn_of : ℕ → ℕ
ppn_of word = word / 2 ^ 10 % 2 ^ 44

-- A pointer gives its node; at level 0 it is reserved, since the walk can't continue.
abbrev pub pointer_at : ℕ → ℕ → Pte
pointer_at level number = if level == 0 then Reserved else Pointer number

-- A leaf of a level is misaligned unless its first frame is a multiple of its 512^level frames.
abbrev pub leaf_at : ℕ → ℕ → Perm → Pte
leaf_at level number p = if number % 2 ^ (9 * level) == 0 then Leaf number p else Misaligned

-- By the bits R, W, X and U: W without R is reserved, a word without R, W and X points, all else is
-- a leaf.
abbrev pub says : Bool → Bool → Bool → Bool → ℕ → ℕ → Pte
says false true x u level number = Reserved
says false false false u level number = pointer_at level number
says false false true u level number =
    leaf_at level number (record { r = false; w = false; x = true; u = u; legal = refl })
says true w x u level number = leaf_at level number (record { r = true; w = w; x = x; u = u; legal = refl })

-- What a word says at a level: nothing where V isn't set, reserved where any of bits 54 to 63 is
-- set, else what the bits R, W, X and U say.
unfoldable pub decode_of : ℕ → ℕ → Pte
decode_of word level =
    if bit word 0
    then (if word / 2 ^ 54 == 0
    then says (bit word 1) (bit word 2) (bit word 3) (bit word 4) level (ppn_of word)
    else Reserved)
    else Invalid

-- The number that a word says is below 2^44, and its permission is legal.
abbrev pub IsProper : Pte → Type 0
IsProper (Pointer node) = node < 2 ^ 44
IsProper (Leaf frame p) = (frame < 2 ^ 44) × IsTrue (is_legal p.r p.w p.x)
IsProper Invalid = Unit {0}
IsProper Reserved = Unit {0}
IsProper Misaligned = Unit {0}

-- At level 0 a word says a leaf, whose frame and permission are in this word.
abbrev pub SaysSmall : ℕ → ℕ → Type 0
SaysSmall word small = decode_of word 0 ≡ Leaf (small / 16) (perm_at small)

-- At level 0 a word says no leaf.
abbrev pub SaysNone : ℕ → Type 0
SaysNone word = (frame : ℕ) (p : Perm) → decode_of word 0 ≡ Leaf frame p → ⊥

-- The six lowest bits of a word say a leaf that allows an access of this kind: V is set, and the
-- permission is legal and allows it.
abbrev pub low_allows : ℕ → Kind → Bool
low_allows word kind = bit word 0 && (is_legal (bit word 1) (bit word 2) (bit word 3) && allows (perm_at (word / 2)) kind)

-- At level 0 a word says a leaf, whose frame and permission are in this word, and which allows an
-- access of this kind.
pub record SaysAllowed (word : ℕ) (kind : Kind) (small : ℕ) : Type 0 where
  pub says : SaysSmall word small
  pub allowed : allows (perm_at small) kind ≡ true

-- No leaf that a word says at level 0 allows an access of this kind.
abbrev pub SaysNoneAllowed : ℕ → Kind → Type 0
SaysNoneAllowed word kind = (frame : ℕ) (p : Perm) → decode_of word 0 ≡ Leaf frame p → allows p kind ≡ false
