-- Slots of two pages that agree at one level agree at each above.
use Rattle.xl_model_lemmas.proofs.Common.{◌+◌, ◌-◌, ◌/◌, ◌≡◌, ◌≤◌, ap, arith, subst, suc, zero, ℕ}
use Rattle.xl_model.specs.Nodes.{up}

up-more : (k l first page : ℕ) → up l first ≡ up l page → up (k + l) first ≡ up (k + l) page
up-more zero l first page h = let e : zero + l ≡ l = omega arith in rw e h
up-more (suc k) l first page h =
    let e : suc k + l ≡ suc (k + l) = omega arith in
    rw e (ap (λ (n : ℕ). n / 512) (up-more k l first page h))

pub up-from : (l m first page : ℕ) → up l first ≡ up l page → l ≤ m → up m first ≡ up m page
up-from l m first page h le = let e : m - l + l ≡ m = omega arith in let P : ℕ → Type 0 = λ k. up k first ≡ up k page in subst P e (up-more (m - l) l first page h)
