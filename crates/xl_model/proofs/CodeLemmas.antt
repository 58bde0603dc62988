-- Orders and permissions come back from their numbers.
use Rattle.std.proofs.Common.{◌≡◌, ℕ, zero, suc, ◌+◌, ◌*◌, ◌/◌, ◌%◌, ◌<◌, ◌==◌, Bool, true, false, not, ◌&&◌, ◌||◌, refl, sym, arith}
use Rattle.std.proofs.lemmas.Bool.Decides.{nat_tests}
use Rattle.xl_model.specs.declared.address.Order.{Order}
use Rattle.xl_model.specs.declared.address.Order.TheVariants as order
use Rattle.xl_model.specs.declared.perm.Perm.{Perm}
use Rattle.xl_model.specs.Addresses.{level_of, order_at}
use Rattle.xl_model.specs.LeafWords.{perm_code, perm_by, perm_at}
use Rattle.xl_model.specs.Words.{bit_if}
unfoldable use Rattle.xl_model.specs.Words.{leaf_word}
use Rattle.xl_model.proofs.PermLemmas.{same-bits}

-- an order and its level
pub level-at : (n : ℕ) → n < 3 → level_of (order_at n) ≡ n
level-at zero h = refl
level-at (suc zero) h = refl
level-at (suc (suc zero)) h = refl
level-at (suc (suc (suc n))) h = absurd (omega arith)

pub at-level : (o : Order) → order_at (level_of o) ≡ o
at-level order.K4 = refl
at-level order.M2 = refl
at-level order.G1 = refl

-- the bits of a number with a permission below its frame
bits : (frame : ℕ) (r w x u : Bool) → let n : ℕ = frame * 16 + (bit_if r 1 + bit_if w 2 + bit_if x 4 + bit_if u 8) in
    ((n % 2 == 1) ≡ r) × ((n / 2 % 2 == 1) ≡ w) × ((n / 4 % 2 == 1) ≡ x) × ((n / 8 % 2 == 1) ≡ u) × (n / 16 ≡ frame)
bits frame true true true true = (grind (arith, nat_tests), grind (arith, nat_tests), grind (arith, nat_tests), grind (arith, nat_tests), omega arith)
bits frame true true true false = (grind (arith, nat_tests), grind (arith, nat_tests), grind (arith, nat_tests), grind (arith, nat_tests), omega arith)
bits frame true true false true = (grind (arith, nat_tests), grind (arith, nat_tests), grind (arith, nat_tests), grind (arith, nat_tests), omega arith)
bits frame true true false false = (grind (arith, nat_tests), grind (arith, nat_tests), grind (arith, nat_tests), grind (arith, nat_tests), omega arith)
bits frame true false true true = (grind (arith, nat_tests), grind (arith, nat_tests), grind (arith, nat_tests), grind (arith, nat_tests), omega arith)
bits frame true false true false = (grind (arith, nat_tests), grind (arith, nat_tests), grind (arith, nat_tests), grind (arith, nat_tests), omega arith)
bits frame true false false true = (grind (arith, nat_tests), grind (arith, nat_tests), grind (arith, nat_tests), grind (arith, nat_tests), omega arith)
bits frame true false false false = (grind (arith, nat_tests), grind (arith, nat_tests), grind (arith, nat_tests), grind (arith, nat_tests), omega arith)
bits frame false true true true = (grind (arith, nat_tests), grind (arith, nat_tests), grind (arith, nat_tests), grind (arith, nat_tests), omega arith)
bits frame false true true false = (grind (arith, nat_tests), grind (arith, nat_tests), grind (arith, nat_tests), grind (arith, nat_tests), omega arith)
bits frame false true false true = (grind (arith, nat_tests), grind (arith, nat_tests), grind (arith, nat_tests), grind (arith, nat_tests), omega arith)
bits frame false true false false = (grind (arith, nat_tests), grind (arith, nat_tests), grind (arith, nat_tests), grind (arith, nat_tests), omega arith)
bits frame false false true true = (grind (arith, nat_tests), grind (arith, nat_tests), grind (arith, nat_tests), grind (arith, nat_tests), omega arith)
bits frame false false true false = (grind (arith, nat_tests), grind (arith, nat_tests), grind (arith, nat_tests), grind (arith, nat_tests), omega arith)
bits frame false false false true = (grind (arith, nat_tests), grind (arith, nat_tests), grind (arith, nat_tests), grind (arith, nat_tests), omega arith)
bits frame false false false false = (grind (arith, nat_tests), grind (arith, nat_tests), grind (arith, nat_tests), grind (arith, nat_tests), omega arith)

-- legal bits are those of one permission
by-bits : (q : Perm) (r w x u : Bool) → ((r || x) && (r || not w)) ≡ true → q.r ≡ r → q.w ≡ w → q.x ≡ x → q.u ≡ u → perm_by r w x u ≡ q
by-bits q true w x u legal a b c d = sym (same-bits q true w x u refl a b c d)
by-bits q false true true u legal a b c d = cc
by-bits q false true false u legal a b c d = cc
by-bits q false false true u legal a b c d = sym (same-bits q false false true u refl a b c d)
by-bits q false false false u legal a b c d = cc

-- a permission and a frame come back from the word that holds them
pub perm-back : (frame : ℕ) (q : Perm) → perm_at (frame * 16 + perm_code q) ≡ q
unfolding perm_at perm_code
perm-back frame q =
    let b = bits frame q.r q.w q.x q.u in
    rw (b.0, b.1, b.2, b.3) (by-bits q q.r q.w q.x q.u q.legal refl refl refl refl)

pub frame-back : (frame : ℕ) (q : Perm) → (frame * 16 + perm_code q) / 16 ≡ frame
unfolding perm_code
frame-back frame q = (bits frame q.r q.w q.x q.u).4

-- a leaf's word isn't 0
pub word-some : (frame : ℕ) (perm : Perm) → 0 < leaf_word frame perm
unfolding leaf_word
word-some frame perm = omega arith
