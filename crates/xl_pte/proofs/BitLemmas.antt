-- The bits of made words.
use Rattle.std.proofs.Common.{ℕ, ◌≡◌, ◌+◌, ◌*◌, ◌/◌, ◌%◌, ◌^◌, ◌<◌, ◌==◌, Bool, true, false, refl, ap, sym, ◌∙◌, arith}
use Rattle.std.proofs.Math.Bool.{Bool-set}
use Rattle.xl_model.specs.Addresses.{is_legal}
use Rattle.xl_model.specs.Words.{leaf_word, pointer_word, bit_if}
use Rattle.xl_model.specs.declared.perm.Perm.{Perm}
use Rattle.xl_pte.specs.Decode.{bit, ppn_of, says, leaf_at, decode_of}
use Rattle.xl_pte.specs.declared.word.Pte.TheVariants.{Pointer, Leaf}

pub says-legal : (r w x u : Bool) (h : is_legal r w x ≡ true) (level number : ℕ) →
    says r w x u level number ≡ leaf_at level number (record { r = r; w = w; x = x; u = u; legal = h })
says-legal true w x u h level number =
    ap
    (λ (k : is_legal true w x ≡ true). leaf_at level number (record { r = true; w = w; x = x; u = u; legal = k }))
    (Bool-set _ _ refl h)
says-legal false false true u h level number =
    ap
    (λ (k : is_legal false false true ≡ true). leaf_at level number (record { r = false; w = false; x = true; u = u; legal = k }))
    (Bool-set _ _ refl h)
says-legal false true true u h level number = cc
says-legal false true false u h level number = cc
says-legal false false false u h level number = cc

-- At a legal permission the bits say a leaf.
pub says-leaf : (p : Perm) (level number : ℕ) → says p.r p.w p.x p.u level number ≡ leaf_at level number p
says-leaf p level number = says-legal p.r p.w p.x p.u p.legal level number

pub record AreBits (word frame : ℕ) (r w x u : Bool) : Type 0 where
  pub v : bit word 0 ≡ true
  pub high : (word / 2 ^ 54 == 0) ≡ true
  pub is_r : bit word 1 ≡ r
  pub is_w : bit word 2 ≡ w
  pub is_x : bit word 3 ≡ x
  pub is_u : bit word 4 ≡ u
  pub number : ppn_of word ≡ frame

pub leaf-bits : (r w x u : Bool) (frame : ℕ) → frame < 2 ^ 44 →
    AreBits (frame * 1024 + (0xc1 + (bit_if r 2 + (bit_if w 4 + (bit_if x 8 + bit_if u 16))))) frame r w x u
leaf-bits true true true true frame h = grind arith
leaf-bits true true true false frame h = grind arith
leaf-bits true true false true frame h = grind arith
leaf-bits true true false false frame h = grind arith
leaf-bits true false true true frame h = grind arith
leaf-bits true false true false frame h = grind arith
leaf-bits true false false true frame h = grind arith
leaf-bits true false false false frame h = grind arith
leaf-bits false true true true frame h = grind arith
leaf-bits false true true false frame h = grind arith
leaf-bits false true false true frame h = grind arith
leaf-bits false true false false frame h = grind arith
leaf-bits false false true true frame h = grind arith
leaf-bits false false true false frame h = grind arith
leaf-bits false false false true frame h = grind arith
leaf-bits false false false false frame h = grind arith

pub number-shifted : (word : ℕ) → word / 2 ^ 54 ≡ 0 → ppn_of word ≡ word / 2 ^ 10
number-shifted word h = omega arith

-- A word whose bits are those of a legal permission is decoded as a leaf.
pub decode-leaf : (word level number : ℕ) (p : Perm) → bit word 0 ≡ true → (word / 2 ^ 54 == 0) ≡ true →
    ppn_of word ≡ number → bit word 1 ≡ p.r → bit word 2 ≡ p.w → bit word 3 ≡ p.x → bit word 4 ≡ p.u →
    leaf_at level number p ≡ decode_of word level
unfolding decode_of
decode-leaf word level number p v high en er ew ex eu =
    rw (v, high, er, ew, ex, eu, en) (sym (says-leaf p level number))

pub decode-made-leaf : (frame level : ℕ) (p : Perm) → frame < 2 ^ 44 → frame % 2 ^ (9 * level) ≡ 0 →
    decode_of (leaf_word frame p) level ≡ Leaf frame p
unfolding leaf_word
decode-made-leaf frame level p h e =
    let b = leaf-bits p.r p.w p.x p.u frame h in
    sym (decode-leaf _ level frame p b.v b.high b.number b.is_r b.is_w b.is_x b.is_u) ∙ leaf-aligned frame level p e
  where
    leaf-aligned : (frame level : ℕ) (p : Perm) → frame % 2 ^ (9 * level) ≡ 0 → leaf_at level frame p ≡ Leaf frame p
    leaf-aligned frame level p e = rw e refl

pub decode-made-pointer : (node level : ℕ) → node < 2 ^ 44 → 0 < level → decode_of (pointer_word node) level ≡ Pointer node
unfolding decode_of pointer_word
decode-made-pointer node level h low = grind arith
