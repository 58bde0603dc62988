-- The search of words in which every chain can be followed to its end.
use Rattle.xl_chain.proofs.Common.{◌*◌, ◌+◌, ◌-◌, ◌<◌, ◌==◌, ◌∙◌, ◌∷◌, ◌≡◌, ◌≤◌, [], ap, AreLinked, arith, base_at, chain_in, ChainShape, cond, ended, false, In, inl, inr, IsChain, IsLinked, IsTable, length, line_at, List, loaded_before, nat_tests, next_in, pick-no, refl, search_from, Searched, slice_index, subst, suc, sym, true, Visit, visit_of, visited, ℕ}
use Rattle.xl_chain.proofs.FrontLemmas.{chain-short}
use Rattle.xl_chain.proofs.PlaceLemmas.{base_past}
use Rattle.xl_chain.proofs.SearchLemmas.{from-visit, more-loads}
use Rattle.xl_chain.specs.declared.along.Visit.TheVariants as visit
use Rattle.xl_chain.specs.declared.shape.Seek.TheVariants as seek

pub are-linked : (s : ChainShape) (words free : List ℕ) → IsTable s words free → AreLinked s words
are-linked s words free t = record {
  shape_is = t.shape_is;
  size = t.size;
  each = λ b less. record {
    chain = chain_in s words b;
    links = t.chains b less;
    inside = λ e i. t.inside b e less i;
    few = (let l = chain-short s words free b t less in omega arith);
  };
}

-- a word that leads to an entry, and what that entry's next word leads to
pub record IsLed (s : ChainShape) (words : List ℕ) (at left : ℕ) : Type 0 where
  pub inside : at ≤ s.entries
  pub some : 0 < left
  pub rest : IsLinked s words (slice_index words (base_at s (at - 1) + 1)) (left - 1)

pub led : (s : ChainShape) (words : List ℕ) (at left : ℕ) → IsLinked s words at left → (at ≡ 0 → ⊥) → IsLed s words at left
led s words at left l some = go l.chain l.links l.inside l.few
  where
    go : (es : List ℕ) → IsChain (next_in s words) at es → ((e : ℕ) → In e es → e < s.entries) → length es ≤ left → IsLed s words at left
    go [] h inside few = absurd (some h)
    go (e ∷ es) (is, rest) inside few =
        let here : e < s.entries = inside e (inl refl) in
        let same : e ≡ at - 1 = omega arith in
        record {
          inside = omega arith;
          some = omega arith;
          rest = record {
            chain = es;
            links = subst (λ k. IsChain (next_in s words) (slice_index words (base_at s k + 1)) es) same rest;
            inside = λ x i. inside x (inr i);
            few = omega arith;
          };
        }

-- an entry that is there
there : (s : ChainShape) (words : List ℕ) (e tag : ℕ) → length words ≡ base_at s s.entries → 0 < s.lines → e < s.entries
    → visit_of words (line_at s e) tag ≡ cond (slice_index words (base_at s e) == tag) (visit.Here (slice_index words (base_at s e + 2))) (visit.Goes (slice_index words (base_at s e + 1)))
there s words e tag size lines less =
    let past = base_past s e s.entries less in
    pick-no (length words) (4 * line_at s e + 4) visit.Gone _ (omega arith)

-- one examined entry, after `k` loads
module _ (s : ChainShape) (words : List ℕ) (tag k at base : ℕ) (linked : AreLinked s words) (left : k ≤ s.entries) (some : 0 < at) (inside : at ≤ s.entries)
    (is : base ≡ base_at s (at - 1)) (x : Searched) (h : x ≡ loaded_before k (search_from (s.entries + 1 - k) words s at tag)) where
  stepped : (v : Visit) → cond (slice_index words base == tag) (visit.Here (slice_index words (base + 2))) (visit.Goes (slice_index words (base + 1))) ≡ v
      → x ≡ loaded_before k (visited (at - 1) v (λ next. search_from (s.entries + 1 - (k + 1)) words s next tag))
  stepped v f =
      let a : s.entries + 1 - k ≡ suc (s.entries + 1 - (k + 1)) = omega arith in
      let b : at ≡ suc (at - 1) = omega arith in
      let P : ℕ → ℕ → Type 0 = λ n m. x ≡ loaded_before k (search_from n words s m tag) in
      let g : x ≡ loaded_before k (search_from (suc (s.entries + 1 - (k + 1))) words s (suc (at - 1)) tag) = subst (P (suc (s.entries + 1 - (k + 1)))) b (subst (λ n. P n at) a h) in
      let Q : ℕ → Type 0 = λ p. visit_of words (line_at s (at - 1)) tag ≡ cond (slice_index words p == tag) (visit.Here (slice_index words (p + 2))) (visit.Goes (slice_index words (p + 1))) in
      let d : visit_of words (line_at s (at - 1)) tag ≡ v = subst Q (sym is) (there s words (at - 1) tag linked.size linked.shape_is.some_lines (omega arith)) ∙ f in
      g ∙ ap (loaded_before k) (from-visit (s.entries + 1 - (k + 1)) words s (at - 1) tag (omega arith)
      ∙ ap (λ w. visited (at - 1) w (λ next. search_from (s.entries + 1 - (k + 1)) words s next tag)) d)

  pub own-here : slice_index words base ≡ tag → x ≡ ended (k + 1) (seek.Found (at - 1) (slice_index words (base + 2)))
  own-here t =
      let b : (slice_index words base == tag) ≡ true = grind (arith, nat_tests) in
      stepped (visit.Here (slice_index words (base + 2))) (ap (λ c. cond c (visit.Here (slice_index words (base + 2))) (visit.Goes (slice_index words (base + 1)))) b)

  pub own-goes : (slice_index words base ≡ tag → ⊥) → x ≡ loaded_before (k + 1) (search_from (s.entries + 1 - (k + 1)) words s (slice_index words (base + 1)) tag)
  own-goes t =
      let b : (slice_index words base == tag) ≡ false = (elim (slice_index words base == tag) as (λ c. (slice_index words base == tag) ≡ c → c ≡ false) [
        | true ↦ λ c. absurd (t (grind (arith, nat_tests)))
        | false ↦ λ c. refl
      ] refl) in
      stepped (visit.Goes (slice_index words (base + 1))) (ap (λ c. cond c (visit.Here (slice_index words (base + 2))) (visit.Goes (slice_index words (base + 1)))) b)
      ∙ more-loads k 1 (search_from (s.entries + 1 - (k + 1)) words s (slice_index words (base + 1)) tag)
