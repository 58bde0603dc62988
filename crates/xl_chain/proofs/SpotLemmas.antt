-- The place of the word that leads to a tag's entry.
use Rattle.xl_chain.proofs.Common.{◌+◌, ◌<◌, ◌==◌, ◌∙◌, ◌∷◌, ◌≡◌, [], ap, arith, base_at, bucket_of, chain_in, ChainShape, cond, false, find, find-only, found_by, found_of, has, has_tag, Held, held_in, held_of, held_with, In, inl, inr, is_some, IsChain, IsTable, Leads, length, List, nat_tests, next_in, None, Option, place_from, refl, slice_index, Some, suc, sym, tag_in, tags_of, true, values_in, ℕ}
use Rattle.xl_chain.proofs.FrontLemmas.{absent, chain-short, held-In}
use Rattle.xl_chain.proofs.LineLemmas.{held-single}
use Rattle.xl_chain.proofs.PlaceLemmas.{base_past, head-before}
use Rattle.xl_chain.proofs.RemovalLemmas.{along-place, found-place, place-reads, place-where, place_in}

-- the places of tags by the words
abbrev pub spot : ChainShape → List ℕ → ℕ → Option ℕ
spot s words t = place_from s.entries words s (bucket_of s.buckets t) t

-- the place of a tag, along the chain of its bucket
module _ (s : ChainShape) (words free : List ℕ) (t : IsTable s words free) (u : ℕ) where
  pub some_bucket : bucket_of s.buckets u < s.buckets
  some_bucket = let some : 0 < s.buckets = t.shape_is.some_buckets in omega arith

  pub place-read : spot s words u ≡ place_in s words u (bucket_of s.buckets u) (chain_in s words (bucket_of s.buckets u))
  place-read = let b : ℕ = bucket_of s.buckets u in
      along-place s words u s.entries b (chain_in s words b) (t.chains b some_bucket) (let l = chain-short s words free b t some_bucket in omega arith) (λ e i. t.inside b e some_bucket i)

-- a place leads to the entry of its tag
led-on : (s : ChainShape) (words : List ℕ) (tag p q : ℕ) (es : List ℕ) → IsChain (next_in s words) (slice_index words p) es → place_in s words tag p es ≡ Some q → (r : ℕ) × (slice_index words q ≡ suc r)
led-on s words tag p q [] h w = absurd (cc)
led-on s words tag p q (e ∷ es) (is, rest) w =
    elim (tag_in s words e == tag) as (λ b. cond b (Some p) (place_in s words tag (base_at s e + 1) es) ≡ Some q → (r : ℕ) × (slice_index words q ≡ suc r)) [
      | true ↦ λ k. let f : p ≡ q = cc in (e, ap (slice_index words) (sym f) ∙ is)
      | false ↦ λ k. led-on s words tag (base_at s e + 1) q es rest k
    ] w

pub record IsAt (s : ChainShape) (words : List ℕ) (tag p : ℕ) : Type 0 where
  pub entry : ℕ
  pub led : slice_index words p ≡ suc entry
  pub there : In entry (chain_in s words (bucket_of s.buckets tag))
  pub tag_is : tag_in s words entry ≡ tag
  pub inside : entry < s.entries
  pub within : p < length words

pub is-at : (s : ChainShape) (words free : List ℕ) (tag p : ℕ) → IsTable s words free → spot s words tag ≡ Some p → IsAt s words tag p
is-at s words free tag p i found =
    let b : ℕ = bucket_of s.buckets tag in
    let b_in : b < s.buckets = some_bucket s words free i tag in
    let es : List ℕ = chain_in s words b in
    let place : place_in s words tag b es ≡ Some p = sym (place-read s words free i tag) ∙ found in
    let l = led-on s words tag b p es (i.chains b b_in) place in
    let r = place-reads s words tag b p l.0 es (i.chains b b_in) place l.1 in
    let size = i.size in
    record {
      entry = l.0;
      led = l.1;
      there = r.0;
      tag_is = r.1;
      inside = i.inside b l.0 b_in r.0;
      within = elim (place-where s words tag b p es place) [
        | inl q ↦ (let h = head-before s b s.entries b_in in omega (arith, q, h))
        | inr q ↦ (let past = base_past s q.0 s.entries (i.inside b q.0 b_in q.1) in let some = i.shape_is.some_lines in let e = q.2 in omega (arith, e, past, some))
      ];
    }

pub found-at : (s : ChainShape) (words free : List ℕ) (tag p : ℕ) → IsTable s words free → spot s words tag ≡ Some p
    → found_by s words (slice_index words p) ≡ found_of (held_with tag (held_of s words))
unfolding held_with values_in
found-at s words free tag p i k =
    let a = is-at s words free tag p i k in
    let h : Held = held_in s words a.entry in
    let there : In h (held_of s words) = held-In s words (bucket_of s.buckets tag) a.entry (some_bucket s words free i tag) a.there in
    let is = a.tag_is in
    let only : find (has tag) (held_of s words) ≡ Some h = find-only (has tag) h (held_of s words) there (grind (arith, nat_tests))
    (λ y j l. let e : y.tag ≡ tag = grind (arith, nat_tests) in (held-single s words free i).by_tag y h j there (e ∙ sym is)) in
    ap (found_by s words) a.led ∙ sym (ap found_of only)

pub leads-at : (s : ChainShape) (words free : List ℕ) (tag p : ℕ) → IsTable s words free → spot s words tag ≡ Some p → Leads s words p
leads-at s words free tag p i k =
    let a = is-at s words free tag p i k in
    let led = a.led in let inside = a.inside in
    record { there = a.within; some = omega arith; inside = omega arith }

-- the tags that have a place are those that are held
pub placed-held : (s : ChainShape) (words free : List ℕ) (tag : ℕ) → IsTable s words free → is_some (spot s words tag) ≡ has_tag (tags_of (held_of s words)) tag
placed-held s words free tag i =
    elim (has_tag (tags_of (held_of s words)) tag) as (λ b. has_tag (tags_of (held_of s words)) tag ≡ b → is_some (spot s words tag) ≡ b) [
      | true ↦ λ k. ap is_some (found-place s words free tag (bucket_of s.buckets tag) i refl k).1
      | false ↦ λ k. elim (spot s words tag) as (λ o. spot s words tag ≡ o → is_some o ≡ false) [
        | None ↦ λ l. refl
        | Some p ↦ λ l. let a = is-at s words free tag p i l in
            absurd (absent tag (held_of s words) (held_in s words a.entry) k (held-In s words (bucket_of s.buckets tag) a.entry (some_bucket s words free i tag) a.there) a.tag_is)
      ] refl
    ] refl

-- where a tag has a place, an entry is held
pub one-held : (s : ChainShape) (words free : List ℕ) (tag p : ℕ) → IsTable s words free → spot s words tag ≡ Some p → 0 < length (held_of s words)
one-held s words free tag p i k =
    let a = is-at s words free tag p i k in
    some (held_of s words) (held_in s words a.entry) (held-In s words (bucket_of s.buckets tag) a.entry (some_bucket s words free i tag) a.there)
  where
    some : (hs : List Held) (h : Held) → In h hs → 0 < length hs
    some [] h i = absurd i
    some (x ∷ hs) h i = omega arith
