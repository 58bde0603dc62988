-- A permission is the same as itself.
use Rattle.xl_model_lemmas.proofs.Common.{◌≡◌, [], Bool, false, Perm, refl, same_bit, true}
use Rattle.xl_model.specs.Ranges.{same_perm}

pub bit-same : (b : Bool) → same_bit b b ≡ true
bit-same true = refl
bit-same false = refl

pub perm-same : (p : Perm) → same_perm p p ≡ true
perm-same p = rw (bit-same p.r, bit-same p.w, bit-same p.x, bit-same p.u) refl
