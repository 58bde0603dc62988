-- The number of keys is the number of sections.
use Rattle.xl_sections.proofs.Common.{◌==◌, ◌∙◌, ◌≡◌, ◌≤◌, ap, AreCounts, arith, Count, count_of, false, find, find-In, find-None, find-passes, In, In-map, IsTied, keys_of, Leaf, length, length-map, List, map-In, nat_tests, None, not, number_of, Option, Order, refl, Some, subst, suc, sym, true, word_of, zero, ℕ}
use Rattle.xl_model.specs.Sections.{section_count}
use Rattle.xl_model_lemmas.proofs.SectionLemmas.{count-keys}
use Rattle.xl_sections.proofs.WordLemmas.{any-is}

-- a key that is counted is that of a section
pub counted : (key : ℕ) (cs : List Count) → AreCounts cs → In key (keys_of cs) → (count_of key cs ≡ 0 → ⊥)
unfolding count_of
counted key cs a i z = go (find (λ c. c.key == key) cs) refl
  where
    go : (o : Option Count) → find (λ c. c.key == key) cs ≡ o → ⊥
    go None f =
        let r = map-In (λ (c : Count). c.key) key cs i in
        let t : (r.0.key == key) ≡ false = find-None (λ c. c.key == key) r.0 cs f r.1 in
        let e : key ≡ r.0.key = r.2 in
        grind (arith, nat_tests)
    go (Some c) f =
        let l = a.some c (find-In (λ c. c.key == key) c cs f) in
        let k : c.number ≡ 0 = sym (ap number_of f) ∙ z in
        omega arith

In-counted : (key : ℕ) (cs : List Count) → (count_of key cs ≡ 0 → ⊥) → In key (keys_of cs)
unfolding count_of
In-counted key cs h = go (find (λ c. c.key == key) cs) refl
  where
    go : (o : Option Count) → find (λ c. c.key == key) cs ≡ o → In key (keys_of cs)
    go None f = absurd (h (ap number_of f))
    go (Some c) f =
        let i = In-map (λ (c : Count). c.key) c cs (find-In (λ c. c.key == key) c cs f) in
        let t = find-passes (λ c. c.key == key) c cs f in
        let e : c.key ≡ key = grind (arith, nat_tests) in
        let P : ℕ → Type 0 = λ k. In k (keys_of cs) in subst P e i

zero-or : (n : ℕ) → not (n == 0) ≡ true → n ≡ 0 → ⊥
zero-or n h e = grind (arith, nat_tests)

or-zero : (n : ℕ) → (n ≡ 0 → ⊥) → not (n == 0) ≡ true
or-zero zero h = absurd (h refl)
or-zero (suc n) h = grind (arith, nat_tests)

-- as many keys as sections
pub keys-count : (size : Order) (leaves : List Leaf) (cs : List Count) → AreCounts cs → IsTied size leaves cs → length cs ≡ section_count size leaves
keys-count size leaves cs a tie =
    sym (length-map cs (λ (c : Count). c.key))
    ∙ count-keys size leaves (keys_of cs) a.once
    (λ k i. any-is size k leaves ∙ or-zero (word_of size k leaves) (λ z. counted k cs a i (tie k ∙ z)))
    (λ k t. In-counted k cs (λ z. zero-or (word_of size k leaves) (sym (any-is size k leaves) ∙ t) (sym (tie k) ∙ z)))
