-- How many slots of a block are in use.
use Rattle.xl_clustered.proofs.Common.{◌+◌, ◌<◌, ◌==◌, ◌∙◌, ◌≡◌, ◌≤◌, ap, arith, Bool, eqb-true, false, ne_eqb, not, refl, suc, sym, true, used_in, zero, ℕ}
use Rattle.std.proofs.lemmas.Bool.Decides.{nat_tests}
use Rattle.xl_model.specs.Base.{one_if}

one-low : (b : Bool) → one_if b ≤ 1
one-low true = omega arith
one-low false = omega arith

pub used-low : (w : ℕ → ℕ) (n : ℕ) → used_in w n ≤ n
unfolding used_in
used-low w zero = omega arith
used-low w (suc n) = let a = used-low w n in let b = one-low (not (w n == 0)) in omega arith

pub used-same : (v w : ℕ → ℕ) (n : ℕ) → ((i : ℕ) → i < n → w i ≡ v i) → used_in w n ≡ used_in v n
unfolding used_in
used-same v w zero same = refl
used-same v w (suc n) same =
    ap (λ m. one_if (not (m == 0)) + used_in w n) (same n (omega arith)) ∙ ap (λ m. one_if (not (v n == 0)) + m) (used-same v w n (λ i h. same i (omega arith)))

-- one slot changes
pub used-change : (v w : ℕ → ℕ) (slot n : ℕ) → slot < n → ((i : ℕ) → i < n → (i ≡ slot → ⊥) → w i ≡ v i)
    → used_in w n + one_if (not (v slot == 0)) ≡ used_in v n + one_if (not (w slot == 0))
unfolding used_in
used-change v w slot zero h same = absurd (omega arith)
used-change v w slot (suc n) h same =
    elim (slot == n) as (λ b. (slot == n) ≡ b → one_if (not (w n == 0)) + used_in w n + one_if (not (v slot == 0)) ≡ one_if (not (v n == 0)) + used_in v n + one_if (not (w slot == 0))) [
      | true ↦ λ t.
          let e : slot ≡ n = eqb-true slot n t in
          let a : one_if (not (v slot == 0)) ≡ one_if (not (v n == 0)) = ap (λ i. one_if (not (v i == 0))) e in
          let b : one_if (not (w slot == 0)) ≡ one_if (not (w n == 0)) = ap (λ i. one_if (not (w i == 0))) e in
          let c : used_in w n ≡ used_in v n = used-same v w n (λ i l. same i (omega arith) (λ k. absurd (omega arith))) in
          omega arith
      | false ↦ λ t.
          let l : slot < n = grind (arith, nat_tests) in
          let a = used-change v w slot n l (λ i k. same i (omega arith)) in
          let b : one_if (not (w n == 0)) ≡ one_if (not (v n == 0)) = ap (λ m. one_if (not (m == 0))) (same n (omega arith) (λ k. absurd (omega arith))) in
          omega arith
    ] refl

-- where some slot is in use there is one
pub used-some : (w : ℕ → ℕ) (n : ℕ) → 0 < used_in w n → (i : ℕ) × (i < n) × (w i ≡ 0 → ⊥)
unfolding used_in
used-some w zero h = absurd (omega arith)
used-some w (suc n) h =
    elim (w n == 0) as (λ b. (w n == 0) ≡ b → 0 < one_if (not b) + used_in w n → (i : ℕ) × (i < suc n) × (w i ≡ 0 → ⊥)) [
      | true ↦ λ t l. let r = used-some w n (omega arith) in let k : r.0 < n = r.1 in (r.0, omega arith, r.2)
      | false ↦ λ t l. (n, omega arith, λ e. absurd (grind (arith, nat_tests)))
    ] refl h

-- where no slot is in use each word is 0
pub used-none : (w : ℕ → ℕ) (n : ℕ) → used_in w n ≡ 0 → (i : ℕ) → i < n → w i ≡ 0
unfolding used_in
used-none w zero h i l = absurd (omega arith)
used-none w (suc n) h i l =
    elim (w n == 0) as (λ b. (w n == 0) ≡ b → one_if (not b) + used_in w n ≡ 0 → w i ≡ 0) [
      | true ↦ λ t k. elim (i == n) as (λ b. (i == n) ≡ b → w i ≡ 0) [
        | true ↦ λ e. ap w (eqb-true i n e) ∙ eqb-true (w n) 0 t
        | false ↦ λ e. used-none w n (omega arith) i (let m : i < n = grind (arith, nat_tests) in m)
      ] refl
      | false ↦ λ t k. absurd (omega arith)
    ] refl h

nonzero : (n : ℕ) → (n ≡ 0 → ⊥) → one_if (not (n == 0)) ≡ 1
nonzero n h = ap (λ b. one_if (not b)) (ne_eqb n 0 h)

pub zero-one : (n : ℕ) → n ≡ 0 → one_if (not (n == 0)) ≡ 0
zero-one n h = ap (λ m. one_if (not (m == 0))) h

-- a slot that comes into use, one that stays in use, and one that is emptied
pub used-more : (v w : ℕ → ℕ) (slot : ℕ) → slot < 16 → ((i : ℕ) → i < 16 → (i ≡ slot → ⊥) → w i ≡ v i) → v slot ≡ 0 → (w slot ≡ 0 → ⊥) → used_in w 16 ≡ used_in v 16 + 1
used-more v w slot l same a b = let e = used-change v w slot 16 l same in let c = zero-one (v slot) a in let d = nonzero (w slot) b in omega arith

pub used-stays : (v w : ℕ → ℕ) (slot : ℕ) → slot < 16 → ((i : ℕ) → i < 16 → (i ≡ slot → ⊥) → w i ≡ v i) → (v slot ≡ 0 → ⊥) → (w slot ≡ 0 → ⊥) → used_in w 16 ≡ used_in v 16
used-stays v w slot l same a b = let e = used-change v w slot 16 l same in let c = nonzero (v slot) a in let d = nonzero (w slot) b in omega arith

pub used-less : (v w : ℕ → ℕ) (slot : ℕ) → slot < 16 → ((i : ℕ) → i < 16 → (i ≡ slot → ⊥) → w i ≡ v i) → (v slot ≡ 0 → ⊥) → w slot ≡ 0 → used_in w 16 + 1 ≡ used_in v 16
used-less v w slot l same a b = let e = used-change v w slot 16 l same in let c = nonzero (v slot) a in let d = zero-one (w slot) b in omega arith

-- a slot that alone is in use
abbrev only : Bool → ℕ → ℕ
only true n = 0
only false n = n

pub used-only : (v : ℕ → ℕ) (slot : ℕ) → slot < 16 → used_in v 16 ≤ 1 → (v slot ≡ 0 → ⊥) → (i : ℕ) → i < 16 → (i ≡ slot → ⊥) → v i ≡ 0
used-only v slot l few some i k other =
    let w : ℕ → ℕ = λ j. only (j == slot) (v j) in
    let same : (j : ℕ) → j < 16 → (j ≡ slot → ⊥) → w j ≡ v j = (λ j m o. ap (λ b. only b (v j)) (ne_eqb j slot o)) in
    let here : w slot ≡ 0 = ap (λ b. only b (v slot)) (own slot) in
    let e = used-less v w slot l same some here in
    let none : used_in w 16 ≡ 0 = omega arith in
    sym (same i k other) ∙ used-none w 16 none i k
  where
    own : (n : ℕ) → (n == n) ≡ true
    own n = grind (arith, nat_tests)

nothing-used : (n : ℕ) → used_in (λ i. 0) n ≡ 0
unfolding used_in
nothing-used zero = refl
nothing-used (suc n) = let e = nothing-used n in omega arith

pub used-single : (w : ℕ → ℕ) (slot : ℕ) → slot < 16 → (w slot ≡ 0 → ⊥) → ((i : ℕ) → i < 16 → (i ≡ slot → ⊥) → w i ≡ 0) → used_in w 16 ≡ 1
used-single w slot l some none =
    let e = used-more (λ i. 0) w slot l none refl some in
    let z : used_in (λ i. 0) 16 ≡ 0 = nothing-used 16 in
    omega arith
