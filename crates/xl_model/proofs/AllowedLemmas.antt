-- A mask has a bit for each of the lowest bits of a word, and those of what permissions allow say what the rule says.
use Rattle.std.proofs.Common.{◌≡◌, ℕ, zero, suc, ◌+◌, ◌/◌, ◌%◌, ◌<◌, ◌^◌, ◌==◌, Bool, List, [], ◌∷◌, refl, arith}
use Rattle.xl_model.specs.declared.address.Kind.{Kind}
use Rattle.xl_model.specs.declared.address.Kind.TheVariants as kind
use Rattle.xl_model.specs.Addresses.{allows}
use Rattle.xl_model.specs.LeafWords.{perm_at}

-- `m` answers, from that for `i` on
abbrev pub listed : (ℕ → Bool) → ℕ → ℕ → List Bool
listed f i zero = []
listed f i (suc m) = f i ∷ listed f (suc i) m

alike : (f g : ℕ → Bool) (i m j : ℕ) → listed f i m ≡ listed g i m → j < m → f (i + j) ≡ g (i + j)
alike f g i zero j e h = absurd (omega arith)
alike f g i (suc m) zero e h = let z : i ≡ i + 0 = omega arith in cc
alike f g i (suc m) (suc j) e h =
    let s : suc i + j ≡ i + suc j = omega arith in
    let rest : listed f (suc i) m ≡ listed g (suc i) m = cc in
    let there = alike f g (suc i) m j rest (omega arith) in
    cc

-- what is alike for `m` numbers is alike for each of them
pub same_answers : (f g : ℕ → Bool) (m j : ℕ) → listed f 0 m ≡ listed g 0 m → j < m → f j ≡ g j
same_answers f g m j e h =
    let z : 0 + j ≡ j = omega arith in
    let there = alike f g 0 m j e h in
    cc

-- Bit j of a mask is set.
abbrev pub bit_of : ℕ → ℕ → Bool
bit_of mask j = mask / 2 ^ j % 2 == 1

abbrev pub allowed : Kind → ℕ → Bool
allowed k code = allows (perm_at code) k

abbrev pub mask_of : Kind → ℕ
mask_of kind.Fetch = 4110480640
mask_of kind.Load = 2852170240
mask_of kind.Store = 2281736192

all_codes : (k : Kind) → listed (bit_of (mask_of k)) 0 32 ≡ listed (allowed k) 0 32
unfolding perm_at
all_codes kind.Fetch = refl
all_codes kind.Load = refl
all_codes kind.Store = refl

pub allowed_code : (k : Kind) (code : ℕ) → code < 32 → bit_of (mask_of k) code ≡ allowed k code
allowed_code k code h = same_answers (bit_of (mask_of k)) (allowed k) 32 code (all_codes k) h

-- a permission is in the lowest four bits
pub same_perm : (v w : ℕ) → v % 16 ≡ w % 16 → perm_at v ≡ perm_at w
unfolding perm_at
same_perm v w same =
    let r : v % 2 ≡ w % 2 = omega arith in
    let m : v / 2 % 2 ≡ w / 2 % 2 = omega arith in
    let x : v / 4 % 2 ≡ w / 4 % 2 = omega arith in
    let u : v / 8 % 2 ≡ w / 8 % 2 = omega arith in
    rw (r, m, x, u) refl
