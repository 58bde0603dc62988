-- What the lowest bits of a word of level 0 say of an access.
use Rattle.std.proofs.Common.{◌≡◌, refl, sym, ap, ◌∙◌, ℕ, ◌+◌, ◌*◌, ◌/◌, ◌%◌, ◌^◌, ◌<◌, ◌==◌, Bool, true, false, ◌&&◌, if◌then◌else◌, arith}
use Rattle.std.proofs.lemmas.Bool.Decides.{nat_tests}
use Rattle.xl_model.specs.declared.address.Kind.{Kind}
use Rattle.xl_model.specs.declared.address.Kind.TheVariants as kind
use Rattle.xl_model.specs.declared.perm.Perm.{Perm}
use Rattle.xl_model.specs.Addresses.{allows, is_legal}
use Rattle.xl_model.specs.LeafWords.{perm_at, perm_by}
use Rattle.xl_model.proofs.AllowedLemmas.{listed, bit_of, same_answers, same_perm}
use Rattle.xl_pte.specs.Decode.{bit, decode_of, low_allows, ppn_of, says, SaysAllowed, SaysNoneAllowed}
use Rattle.xl_pte.specs.declared.word.Pte.TheVariants as pte
use Rattle.xl_pte.proofs.SmallLemmas.{aligned, small_said}

abbrev pub mask_of : Kind → ℕ
mask_of kind.Fetch = 9943947979549310976
mask_of kind.Load = 9838113388281462784
mask_of kind.Store = 9259400836029612032

abbrev low_said : Kind → ℕ → Bool
low_said k low = low_allows low k

all_low : (k : Kind) → listed (bit_of (mask_of k)) 0 64 ≡ listed (low_said k) 0 64
unfolding perm_at
all_low kind.Fetch = refl
all_low kind.Load = refl
all_low kind.Store = refl

pub low_bit : (k : Kind) (low : ℕ) → low < 64 → bit_of (mask_of k) low ≡ low_allows low k
low_bit k low h = same_answers (bit_of (mask_of k)) (low_said k) 64 low (all_low k) h

-- the lowest bits are those of the word
pub low_same : (word : ℕ) (k : Kind) → low_allows (word % 64) k ≡ low_allows word k
low_same word k =
    let v : word % 64 / 2 ^ 0 % 2 ≡ word / 2 ^ 0 % 2 = omega arith in
    let r : word % 64 / 2 ^ 1 % 2 ≡ word / 2 ^ 1 % 2 = omega arith in
    let w : word % 64 / 2 ^ 2 % 2 ≡ word / 2 ^ 2 % 2 = omega arith in
    let x : word % 64 / 2 ^ 3 % 2 ≡ word / 2 ^ 3 % 2 = omega arith in
    let p : perm_at (word % 64 / 2) ≡ perm_at (word / 2) = same_perm (word % 64 / 2) (word / 2) (omega arith) in
    rw (v, r, w, x, p) refl

-- what three answers that are all given say
record AreSo (v l a : Bool) : Type 0 where
  valid : v ≡ true
  legal : l ≡ true
  allowed : a ≡ true

are_so : (v l a : Bool) → (v && (l && a)) ≡ true → AreSo v l a
are_so true true true e = record { valid = refl; legal = refl; allowed = refl }
are_so true true false e = cc
are_so true false a e = cc
are_so false l a e = cc

lead : (r w x : Bool) → is_legal r w x ≡ true → r ≡ false → (w ≡ false) × (x ≡ true)
lead true w x h e = absurd (cc)
lead false true true h e = absurd (cc)
lead false true false h e = absurd (cc)
lead false false true h e = (refl, refl)
lead false false false h e = absurd (cc)

small_perm : (word : ℕ) → perm_at (word / 1024 * 16 + word / 2 % 16) ≡ perm_at (word / 2)
small_perm word = same_perm (word / 1024 * 16 + word / 2 % 16) (word / 2) (omega arith)

pub allowed_said : (word : ℕ) (k : Kind) → word < 2 ^ 54 → low_allows word k ≡ true → SaysAllowed word k (word / 1024 * 16 + word / 2 % 16)
allowed_said word k low e =
    let so = are_so (bit word 0) (is_legal (bit word 1) (bit word 2) (bit word 3)) (allows (perm_at (word / 2)) k) e in
    let legal : word / 2 % 2 ≡ 0 → word / 2 % 8 ≡ 4 = λ off.
    let l = lead (bit word 1) (bit word 2) (bit word 3) so.legal (grind (arith, nat_tests)) in
    grind (arith, nat_tests, l.0, l.1, off) in
    record {
      says = small_said word (grind (arith, nat_tests, so.valid)) low legal;
      allowed = ap (λ (p : Perm). allows p k) (small_perm word) ∙ so.allowed;
    }

-- a leaf that does not allow it
denied : (q : Perm) (n frame : ℕ) (p : Perm) (k : Kind) → allows q k ≡ false → (if n % 2 ^ (9 * 0) == 0 then pte.Leaf n q else pte.Misaligned) ≡ pte.Leaf frame p → allows p k ≡ false
denied q n frame p k h e =
    let leaf : pte.Leaf n q ≡ pte.Leaf frame p = rw (aligned n) at e in
    let same : q ≡ p = cc in
    ap (λ (z : Perm). allows z k) (sym same) ∙ h

none-by : (v f r w x u : Bool) (n frame : ℕ) (p : Perm) (k : Kind) → (f ≡ true → (v && (is_legal r w x && allows (perm_by r w x u) k)) ≡ false)
    → (if v then (if f then says r w x u 0 n else pte.Reserved) else pte.Invalid) ≡ pte.Leaf frame p → allows p k ≡ false
none-by false f r w x u n frame p k h e = cc
none-by true false r w x u n frame p k h e = cc
none-by true true false true x u n frame p k h e = cc
none-by true true false false false u n frame p k h e = cc
none-by true true true w x u n frame p k h e = denied (perm_by true w x u) n frame p k (h refl) e
none-by true true false false true u n frame p k h e = denied (perm_by false false true u) n frame p k (h refl) e

perm_bits : (word : ℕ) → perm_at (word / 2) ≡ perm_by (bit word 1) (bit word 2) (bit word 3) (bit word 4)
unfolding perm_at
perm_bits word =
    let w : word / 2 / 2 ≡ word / 2 ^ 2 = omega arith in
    let x : word / 2 / 4 ≡ word / 2 ^ 3 = omega arith in
    let u : word / 2 / 8 ≡ word / 2 ^ 4 = omega arith in
    rw (w, x, u) refl

pub allowed_none : (word : ℕ) (k : Kind) → (word / 2 ^ 54 ≡ 0 → low_allows word k ≡ false) → SaysNoneAllowed word k
unfolding decode_of
allowed_none word k h frame p e =
    none-by (bit word 0) (word / 2 ^ 54 == 0) (bit word 1) (bit word 2) (bit word 3) (bit word 4) (ppn_of word) frame p k (λ f. rw (perm_bits word) at h (grind (arith, nat_tests, f))) e
