-- A permission is its four bits, whatever the proof that they are legal.
use Rattle.std.proofs.Common.{◌≡◌, Bool, true, false, not, ◌&&◌, ◌||◌, refl, ap, subst}
use Rattle.std.specs.Prelude.{IsTrue}
use Rattle.std.specs.Cmp.{first_so, second_so}
use Rattle.std.proofs.Props.{props}
use Rattle.xl_model.specs.declared.perm.Perm.{Perm}
use Rattle.xl_model.specs.Base.{same_bit}
use Rattle.xl_model.specs.Ranges.{same_perm}

pub one-proof : (b : Bool) (k l : b ≡ true) → k ≡ l
one-proof b = hlevel props

-- permissions with the same bits are one
pub same-bits : (q : Perm) (r w x u : Bool) (legal : IsTrue ((r || x) && (r || not w)))
    → q.r ≡ r → q.w ≡ w → q.x ≡ x → q.u ≡ u → q ≡ record { r = r; w = w; x = x; u = u; legal = legal }
same-bits q r w x u legal is_r is_w is_x is_u =
    let R : Bool → Type 0 = λ r. (l : IsTrue ((r || q.x) && (r || not q.w))) → q ≡ record { r = r; w = q.w; x = q.x; u = q.u; legal = l } in
    let W : Bool → Type 0 = λ w. (l : IsTrue ((r || q.x) && (r || not w))) → q ≡ record { r = r; w = w; x = q.x; u = q.u; legal = l } in
    let X : Bool → Type 0 = λ x. (l : IsTrue ((r || x) && (r || not w))) → q ≡ record { r = r; w = w; x = x; u = q.u; legal = l } in
    let U : Bool → Type 0 = λ u. (l : IsTrue ((r || x) && (r || not w))) → q ≡ record { r = r; w = w; x = x; u = u; legal = l } in
    let from : R q.r = λ l. ap (λ (k : IsTrue ((q.r || q.x) && (q.r || not q.w))). let p : Perm = record { r = q.r; w = q.w; x = q.x; u = q.u; legal = k } in p) (one-proof _ q.legal l) in
    subst U is_u (subst X is_x (subst W is_w (subst R is_r from))) legal

pub bits-same : (a b : Bool) → same_bit a b ≡ true → a ≡ b
bits-same true true h = refl
bits-same true false h = absurd (cc)
bits-same false true h = absurd (cc)
bits-same false false h = refl

pub perms-same : (a b : Perm) → same_perm a b ≡ true → a ≡ b
perms-same a b h =
    same-bits a b.r b.w b.x b.u b.legal (bits-same a.r b.r (first_so _ _ (first_so _ _ h))) (bits-same a.w b.w (second_so _ _ (first_so _ _ h)))
    (bits-same a.x b.x (first_so _ _ (second_so _ _ h))) (bits-same a.u b.u (second_so _ _ (second_so _ _ h)))
