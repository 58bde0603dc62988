-- Laws of permissions.
use Rattle.xl_script.proofs.Common.{◌&&◌, ◌<◌, ◌||◌, ◌∙◌, ◌∷◌, ◌≡◌, ◌≤◌, [], ap, arith, Bool, false, get_or, IfNone, IfSome, length, List, None, not, Option, refl, Some, sym, true, ℕ}
use Rattle.xl_model.proofs.PermLemmas.{same-bits}
use Rattle.xl_model.specs.declared.perm.Perm.{Perm}
use Rattle.xl_script.specs.Words.{flag, of_flags, perm_of, perm_with}

no_write : (r w x : Bool) → ((r || x) && (r || not w)) ≡ true → r ≡ false → w ≡ true → ⊥
no_write true w x legal is_r is_w = cc
no_write false true true legal is_r is_w = cc
no_write false true false legal is_r is_w = cc
no_write false false x legal is_r is_w = cc

no_use : (r w x : Bool) → ((r || x) && (r || not w)) ≡ true → r ≡ false → x ≡ false → ⊥
no_use true w x legal is_r is_x = cc
no_use false w true legal is_r is_x = cc
no_use false w false legal is_r is_x = cc

-- what `Perm::new` returns is the permission with these bits
pub perm_is : (r w x u : Bool) (p : Option Perm) → IfSome p (λ q. (q.r ≡ r) × (q.w ≡ w) × (q.x ≡ x) × (q.u ≡ u))
    → IfNone p (((r || x) && (r || not w)) ≡ false) → p ≡ perm_with r w x u
perm_is true w x u (Some q) bits unfit = ap Some (same-bits q true w x u refl bits.0 bits.1 bits.2 bits.3)
perm_is true w x u None bits unfit = cc
perm_is false true x u (Some q) bits unfit = absurd (no_write q.r q.w q.x q.legal bits.0 bits.1)
perm_is false true x u None bits unfit = refl
perm_is false false true u (Some q) bits unfit = ap Some (same-bits q false false true u refl bits.0 bits.1 bits.2 bits.3)
perm_is false false true u None bits unfit = cc
perm_is false false false u (Some q) bits unfit = absurd (no_use q.r q.w q.x q.legal bits.0 bits.2)
perm_is false false false u None bits unfit = refl

-- a word of four characters
four : (word : List ℕ) → 4 ≤ length word → length word < 5
    → perm_of word ≡ of_flags (flag 114 (get_or word 0 0)) (flag 119 (get_or word 1 0)) (flag 120 (get_or word 2 0)) (flag 117 (get_or word 3 0))
four [] least most = absurd (omega arith)
four (a ∷ []) least most = absurd (omega arith)
four (a ∷ b ∷ []) least most = absurd (omega arith)
four (a ∷ b ∷ c ∷ []) least most = absurd (omega arith)
four (a ∷ b ∷ c ∷ d ∷ []) least most = refl
four (a ∷ b ∷ c ∷ d ∷ e ∷ rest) least most = absurd (omega arith)

pub perm_read : (word : List ℕ) (r w x u : Bool) (p : Option Perm) → 4 ≤ length word → length word < 5
    → Some r ≡ flag 114 (get_or word 0 0) → Some w ≡ flag 119 (get_or word 1 0)
    → Some x ≡ flag 120 (get_or word 2 0) → Some u ≡ flag 117 (get_or word 3 0)
    → IfSome p (λ q. (q.r ≡ r) × (q.w ≡ w) × (q.x ≡ x) × (q.u ≡ u)) → IfNone p (((r || x) && (r || not w)) ≡ false)
    → p ≡ perm_of word
perm_read word r w x u p least most is_r is_w is_x is_u bits unfit =
    perm_is r w x u p bits unfit ∙ sym (four word least most ∙ rw (sym is_r, sym is_w, sym is_x, sym is_u) refl)
