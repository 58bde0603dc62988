-- What a word of level 0 says, and the word of its leaf.
use Rattle.std.proofs.Common.{◌≡◌, refl, ℕ, zero, suc, ◌+◌, ◌*◌, ◌/◌, ◌%◌, ◌^◌, ◌<◌, ◌==◌, Bool, true, false, not, ◌||◌, ◌&&◌, if◌then◌else◌, arith}
use Rattle.std.proofs.lemmas.Bool.Decides.{nat_tests}
use Rattle.xl_model.specs.declared.perm.Perm.{Perm}
use Rattle.xl_model.specs.LeafWords.{perm_at, perm_by}
use Rattle.xl_pte.specs.Decode.{bit, decode_of, ppn_of, says, SaysSmall, SaysNone}
use Rattle.xl_pte.specs.declared.word.Pte.TheVariants as pte
use Rattle.xl_pte.specs.declared.word.TheConstants.{LEGAL}

-- a leaf of one page is aligned
pub aligned : (n : ℕ) → (n % 2 ^ (9 * 0) == 0) ≡ true
aligned n = grind (arith, nat_tests)

-- a leaf that may be read, or else executed and not written
said-by : (r w x u : Bool) (n : ℕ) → (r ≡ false → (w ≡ false) × (x ≡ true)) → says r w x u 0 n ≡ pte.Leaf n (perm_by r w x u)
said-by true w x u n legal = rw (aligned n) refl
said-by false true x u n legal = let l = legal refl in cc
said-by false false false u n legal = let l = legal refl in cc
said-by false false true u n legal = rw (aligned n) refl

-- the bits and the number of a word, in the word of its leaf
record Bits (word small : ℕ) : Type 0 where
  r : (small % 2 == 1) ≡ bit word 1
  w : (small / 2 % 2 == 1) ≡ bit word 2
  x : (small / 4 % 2 == 1) ≡ bit word 3
  u : (small / 8 % 2 == 1) ≡ bit word 4
  number : small / 16 ≡ ppn_of word

same-bits : (word : ℕ) → word < 2 ^ 54 → Bits word (word / 1024 * 16 + word / 2 % 16)
same-bits word low = record {
  r = grind (arith, nat_tests);
  w = grind (arith, nat_tests);
  x = grind (arith, nat_tests);
  u = grind (arith, nat_tests);
  number = omega arith;
}

pub small_said : (word : ℕ) → word % 2 ≡ 1 → word < 2 ^ 54 → (word / 2 % 2 ≡ 0 → word / 2 % 8 ≡ 4) → SaysSmall word (word / 1024 * 16 + word / 2 % 16)
unfolding decode_of perm_at
small_said word v low legal =
    let b = same-bits word low in
    let valid : bit word 0 ≡ true = grind (arith, nat_tests) in
    let free : (word / 2 ^ 54 == 0) ≡ true = grind (arith, nat_tests) in
    let lead : bit word 1 ≡ false → (bit word 2 ≡ false) × (bit word 3 ≡ true) = λ off. (grind (arith, nat_tests), grind (arith, nat_tests)) in
    rw (valid, free, b.r, b.w, b.x, b.u, b.number) (said-by (bit word 1) (bit word 2) (bit word 3) (bit word 4) (ppn_of word) lead)

-- the bits of the legal codes
legal_code : (n : ℕ) → n < 16 → (LEGAL / 2 ^ n % 2 == 1) ≡ ((n % 2 == 1) || (n % 8 == 4))
legal_code zero h = refl
legal_code (suc zero) h = refl
legal_code (suc (suc zero)) h = refl
legal_code (suc (suc (suc zero))) h = refl
legal_code (suc (suc (suc (suc zero)))) h = refl
legal_code (suc (suc (suc (suc (suc zero))))) h = refl
legal_code (suc (suc (suc (suc (suc (suc zero)))))) h = refl
legal_code (suc (suc (suc (suc (suc (suc (suc zero))))))) h = refl
legal_code (suc (suc (suc (suc (suc (suc (suc (suc zero)))))))) h = refl
legal_code (suc (suc (suc (suc (suc (suc (suc (suc (suc zero))))))))) h = refl
legal_code (suc (suc (suc (suc (suc (suc (suc (suc (suc (suc zero)))))))))) h = refl
legal_code (suc (suc (suc (suc (suc (suc (suc (suc (suc (suc (suc zero))))))))))) h = refl
legal_code (suc (suc (suc (suc (suc (suc (suc (suc (suc (suc (suc (suc zero)))))))))))) h = refl
legal_code (suc (suc (suc (suc (suc (suc (suc (suc (suc (suc (suc (suc (suc zero))))))))))))) h = refl
legal_code (suc (suc (suc (suc (suc (suc (suc (suc (suc (suc (suc (suc (suc (suc zero)))))))))))))) h = refl
legal_code (suc (suc (suc (suc (suc (suc (suc (suc (suc (suc (suc (suc (suc (suc (suc zero))))))))))))))) h = refl
legal_code (suc (suc (suc (suc (suc (suc (suc (suc (suc (suc (suc (suc (suc (suc (suc (suc n)))))))))))))))) h = absurd (omega arith)

pub legal_one : (word : ℕ) → LEGAL / 2 ^ (word / 2 % 16) % 2 ≡ 1 → word / 2 % 2 ≡ 0 → word / 2 % 8 ≡ 4
legal_one word h off =
    let l = legal_code (word / 2 % 16) (omega arith) in
    grind (arith, nat_tests, l, h, off)

pub one_legal : (word : ℕ) → (word / 2 % 2 ≡ 0 → word / 2 % 8 ≡ 4) → LEGAL / 2 ^ (word / 2 % 16) % 2 ≡ 1
one_legal word h =
    let l = legal_code (word / 2 % 16) (omega arith) in
    grind (arith, nat_tests, l, h)

none-by : (v f r w x u : Bool) (n frame : ℕ) (p : Perm) → (v ≡ true → f ≡ true → (r || (not w && x)) ≡ true → ⊥) → (if v then (if f then says r w x u 0 n else pte.Reserved) else pte.Invalid) ≡ pte.Leaf frame p → ⊥
none-by false f r w x u n frame p h e = cc
none-by true false r w x u n frame p h e = cc
none-by true true true w x u n frame p h e = h refl refl refl
none-by true true false true x u n frame p h e = cc
none-by true true false false false u n frame p h e = cc
none-by true true false false true u n frame p h e = h refl refl refl

pub small_none : (word : ℕ) → (word % 2 ≡ 1 → word < 2 ^ 54 → (word / 2 % 2 ≡ 0 → word / 2 % 8 ≡ 4) → ⊥) → SaysNone word
unfolding decode_of
small_none word h frame p e =
    none-by (bit word 0) (word / 2 ^ 54 == 0) (bit word 1) (bit word 2) (bit word 3) (bit word 4) (ppn_of word) frame p (λ a b c. h (grind (arith, nat_tests)) (grind (arith, nat_tests)) (λ off. grind (arith, nat_tests))) e
