-- The places of tags after an entry came in front of its bucket, and after one was taken out.
use Rattle.xl_chain.proofs.Common.{◌++◌, ◌+◌, ◌<◌, ◌==◌, ◌∙◌, ◌∷◌, ◌≡◌, [], ap, Apart, arith, base_at, bucket_of, chain_in, ChainShape, cond, false, In, inl, inr, IsChain, IsFront, IsPast, IsTable, IsTaken, List, moved, nat_lt, nat_tests, next_in, None, not, Option, pick-yes, placed, refl, seen_in, set_place, slice_index, Some, suc, sym, tag_by, tag_in, true, unequal, zero, ℕ}
use Rattle.xl_chain.proofs.FrontLemmas.{Fronted}
use Rattle.xl_chain.proofs.PlaceLemmas.{is-set, IsSet}
use Rattle.xl_chain.proofs.RemovalLemmas.{gone, left-all, left_in, place_in, Removed}
use Rattle.xl_chain.proofs.SpotLemmas.{place-read, some_bucket, spot}
use Rattle.xl_chain.proofs.ValueLemmas.{Valued}

-- what a change of places makes of a tag goes by the tag's place before
pub moved-same : (x : Option ℕ) (p t : ℕ) (f g : ℕ → Option ℕ) → f t ≡ g t → moved x p f t ≡ moved x p g t
moved-same None p t f g e = e
moved-same (Some x) p t f g e = ap (λ o. cond (x == t) (set_place p o) o) e

pub placed-same : (tag t : ℕ) (to : Option ℕ) (f g : ℕ → Option ℕ) → f t ≡ g t → placed tag to f t ≡ placed tag to g t
placed-same tag t to f g e = ap (λ o. cond (tag == t) to o) e

placed-other : (tag t : ℕ) (to : Option ℕ) (f : ℕ → Option ℕ) → (tag ≡ t → ⊥) → placed tag to f t ≡ f t
placed-other tag t to f n = ap (λ c. cond c to (f t)) (unequal tag t n)

moved-other : (x : Option ℕ) (p t : ℕ) (f : ℕ → Option ℕ) → ((y : ℕ) → x ≡ Some y → y ≡ t → ⊥) → moved x p f t ≡ f t
moved-other None p t f n = refl
moved-other (Some x) p t f n = ap (λ c. cond c (set_place p (f t)) (f t)) (unequal x t (n x refl))

-- the first tag of a chain, and the one after the entry of a tag
abbrev first_in : ChainShape → List ℕ → List ℕ → Option ℕ
first_in s words [] = None
first_in s words (e ∷ es) = Some (tag_in s words e)

abbrev following_in : ChainShape → List ℕ → ℕ → List ℕ → Option ℕ
following_in s words tag [] = None
following_in s words tag (e ∷ es) = cond (tag_in s words e == tag) (first_in s words es) (following_in s words tag es)

first-In : (s : ChainShape) (words : List ℕ) (x : ℕ) (es : List ℕ) → first_in s words es ≡ Some x → (y : ℕ) × In y es × (tag_in s words y ≡ x)
first-In s words x [] h = absurd (cc)
first-In s words x (e ∷ es) h = (e, inl refl, cc)

following-In : (s : ChainShape) (words : List ℕ) (tag x : ℕ) (es : List ℕ) → following_in s words tag es ≡ Some x → (y : ℕ) × In y es × (tag_in s words y ≡ x)
following-In s words tag x [] h = absurd (cc)
following-In s words tag x (e ∷ es) h =
    elim (tag_in s words e == tag) as (λ b. cond b (first_in s words es) (following_in s words tag es) ≡ Some x → (y : ℕ) × In y (e ∷ es) × (tag_in s words y ≡ x)) [
      | true ↦ λ k. let r = first-In s words x es k in (r.0, inr r.1, r.2)
      | false ↦ λ k. let r = following-In s words tag x es k in (r.0, inr r.1, r.2)
    ] h

led-first : (s : ChainShape) (words : List ℕ) (at : ℕ) (es : List ℕ) → IsChain (next_in s words) at es → ((e : ℕ) → In e es → e < s.entries) → tag_by s words at ≡ first_in s words es
led-first s words at [] h inside = ap (tag_by s words) h
led-first s words at (e ∷ es) (is, rest) inside = ap (tag_by s words) is ∙ pick-yes e s.entries (Some (tag_in s words e)) None (inside e (inl refl))

led-following : (s : ChainShape) (words : List ℕ) (tag p q r : ℕ) (es : List ℕ) → IsChain (next_in s words) (slice_index words p) es → ((e : ℕ) → In e es → e < s.entries)
    → place_in s words tag p es ≡ Some q → slice_index words q ≡ suc r → tag_by s words (next_in s words r) ≡ following_in s words tag es
led-following s words tag p q r [] h inside w l = absurd (cc)
led-following s words tag p q r (e ∷ es) (is, rest) inside w l =
    elim (tag_in s words e == tag) as (λ b. cond b (Some p) (place_in s words tag (base_at s e + 1) es) ≡ Some q → tag_by s words (next_in s words r) ≡ cond b (first_in s words es) (following_in s words tag es)) [
      | true ↦ λ k. let f : q ≡ p = cc in let g : r ≡ e = (let u : slice_index words q ≡ slice_index words p = ap (slice_index words) f in omega arith) in
          ap (λ x. tag_by s words (next_in s words x)) g ∙ led-first s words (next_in s words e) es rest (λ x i. inside x (inr i))
      | false ↦ λ k. led-following s words tag (base_at s e + 1) q r es rest (λ x i. inside x (inr i)) k l
    ] w

-- places along a chain
place-same : (s : ChainShape) (old new : List ℕ) (t p : ℕ) (es : List ℕ) → ((x : ℕ) → In x es → tag_in s new x ≡ tag_in s old x) → place_in s new t p es ≡ place_in s old t p es
place-same s old new t p [] h = refl
place-same s old new t p (e ∷ es) h =
    ap (λ k. cond (k == t) (Some p) (place_in s new t (base_at s e + 1) es)) (h e (inl refl))
    ∙ ap (λ o. cond (tag_in s old e == t) (Some p) o) (place-same s old new t (base_at s e + 1) es (λ x i. h x (inr i)))

place-absent : (s : ChainShape) (words : List ℕ) (t p : ℕ) (es : List ℕ) → ((x : ℕ) → In x es → tag_in s words x ≡ t → ⊥) → place_in s words t p es ≡ None
place-absent s words t p [] n = refl
place-absent s words t p (e ∷ es) n = rw (unequal (tag_in s words e) t (n e (inl refl))) (place-absent s words t (base_at s e + 1) es (λ x i. n x (inr i)))

-- from another word the first entry alone has another place
place-first : (s : ChainShape) (words : List ℕ) (t p n : ℕ) (es : List ℕ) → place_in s words t n es ≡ moved (first_in s words es) n (λ u. place_in s words u p es) t
place-first s words t p n [] = refl
place-first s words t p n (e ∷ es) =
    elim (tag_in s words e == t) as (λ b. cond b (Some n) (place_in s words t (base_at s e + 1) es)
    ≡ cond b (set_place n (cond b (Some p) (place_in s words t (base_at s e + 1) es))) (cond b (Some p) (place_in s words t (base_at s e + 1) es))) [
      | true ↦ refl
      | false ↦ refl
    ]

place-gone : (s : ChainShape) (words : List ℕ) (tag t p q : ℕ) (es : List ℕ) → Apart (tag_in s words) es → place_in s words tag p es ≡ Some q
    → place_in s words t p (left_in s words tag es) ≡ placed tag None (moved (following_in s words tag es) q (λ u. place_in s words u p es)) t
place-gone s words tag t p q [] a w = absurd (cc)
place-gone s words tag t p q (e ∷ es) (first, others) w =
    let f : ℕ → Option ℕ = λ u. place_in s words u p (e ∷ es) in
    let g : ℕ → Option ℕ = λ u. place_in s words u (base_at s e + 1) es in
    let skip : (tag_in s words e ≡ t → ⊥) → f t ≡ g t = (λ n. ap (λ c. cond c (Some p) (g t)) (unequal (tag_in s words e) t n)) in
    elim (tag_in s words e == tag) as (λ b. (tag_in s words e == tag) ≡ b → cond b (Some p) (g tag) ≡ Some q
    → place_in s words t p (cond (not b) (e ∷ left_in s words tag es) (left_in s words tag es)) ≡ placed tag None (moved (cond b (first_in s words es) (following_in s words tag es)) q f) t) [
      | true ↦ λ b k.
          let is : tag_in s words e ≡ tag = grind (arith, nat_tests) in
          let at : p ≡ q = cc in
          ap (λ xs. place_in s words t p xs) (left-all s words tag es (λ x i z. first x i (z ∙ sym is)))
          ∙ elim (tag == t) as (λ c. (tag == t) ≡ c → place_in s words t p es ≡ cond c None (moved (first_in s words es) q f t)) [
            | true ↦ λ c. let o : tag ≡ t = grind (arith, nat_tests) in place-absent s words t p es (λ x i z. first x i (z ∙ sym o ∙ sym is))
            | false ↦ λ c. place-first s words t (base_at s e + 1) p es ∙ ap (λ m. moved (first_in s words es) m g t) at
                ∙ sym (moved-same (first_in s words es) q t f g (skip (λ z. let h : tag ≡ t = sym is ∙ z in grind (arith, nat_tests))))
          ] refl
      | false ↦ λ b k.
          elim (tag_in s words e == t) as (λ c. (tag_in s words e == t) ≡ c
          → cond c (Some p) (place_in s words t (base_at s e + 1) (left_in s words tag es)) ≡ placed tag None (moved (following_in s words tag es) q f) t) [
            | true ↦ λ c.
                let is : tag_in s words e ≡ t = grind (arith, nat_tests) in
                sym (placed-other tag t None (moved (following_in s words tag es) q f) (λ z. let h : tag_in s words e ≡ tag = is ∙ sym z in grind (arith, nat_tests))
                ∙ moved-other (following_in s words tag es) q t f (λ y h z. let r = following-In s words tag y es h in first r.0 r.1 (r.2 ∙ z ∙ sym is))
                ∙ ap (λ d. cond d (Some p) (g t)) c)
            | false ↦ λ c.
                let n : tag_in s words e ≡ t → ⊥ = (λ z. grind (arith, nat_tests)) in
                place-gone s words tag t (base_at s e + 1) q es others k
                ∙ placed-same tag t None (moved (following_in s words tag es) q g) (moved (following_in s words tag es) q f)
                (moved-same (following_in s words tag es) q t g f (sym (skip n)))
          ] refl
    ] refl w

-- a change in one bucket is none to the tags of another
elsewhere : (s : ChainShape) (words free : List ℕ) (tag t n : ℕ) (to x : Option ℕ) (i : IsTable s words free) → (bucket_of s.buckets t ≡ bucket_of s.buckets tag → ⊥)
    → ((y : ℕ) → x ≡ Some y → (e : ℕ) × In e (chain_in s words (bucket_of s.buckets tag)) × (tag_in s words e ≡ y))
    → placed tag to (moved x n (spot s words)) t ≡ spot s words t
elsewhere s words free tag t n to x i o led =
    placed-other tag t to (moved x n (spot s words)) (λ z. o (ap (bucket_of s.buckets) (sym z)))
    ∙ moved-other x n t (spot s words)
    (λ y h z. let r = led y h in o (ap (bucket_of s.buckets) (sym z ∙ sym r.2) ∙ i.placed (bucket_of s.buckets tag) r.0 (some_bucket s words free i tag) r.1))

pub first-places : (s : ChainShape) (old new rest : List ℕ) (e tag t : ℕ) (values : List ℕ) → IsTable s old (rest ++ e ∷ []) → IsFront s old new (bucket_of s.buckets tag) e tag values
    → Fronted s old new rest (bucket_of s.buckets tag) (record { entry = e; tag = tag; values = values })
    → spot s new t ≡ placed tag (Some (bucket_of s.buckets tag)) (moved (tag_by s old (slice_index old (bucket_of s.buckets tag))) (base_at s e + 1) (spot s old)) t
first-places s old new rest e tag t values i front f =
    let a : ℕ = bucket_of s.buckets t in
    let b : ℕ = bucket_of s.buckets tag in
    let n : ℕ = base_at s e + 1 in
    let es : List ℕ = chain_in s old b in
    let a_in : a < s.buckets = some_bucket s old (rest ++ e ∷ []) i t in
    let b_in : b < s.buckets = some_bucket s old (rest ++ e ∷ []) i tag in
    let led : tag_by s old (slice_index old b) ≡ first_in s old es = led-first s old (slice_index old b) es (i.chains b b_in) (λ x j. i.inside b x b_in j) in
    let now : spot s new t ≡ place_in s new t a (chain_in s new a) = place-read s new rest f.table t in
    let before : spot s old t ≡ place_in s old t a (chain_in s old a) = place-read s old (rest ++ e ∷ []) i t in
    let F : ℕ → Option ℕ = λ u. place_in s old u b es in
    elim (a == b) as (λ d. (a == b) ≡ d → spot s new t ≡ placed tag (Some b) (moved (tag_by s old (slice_index old b)) n (spot s old)) t) [
      | true ↦ λ d. let q : a ≡ b = grind (arith, nat_tests) in
          now ∙ ap (λ k. place_in s new t k (chain_in s new k)) q ∙ ap (place_in s new t b) f.here
          ∙ ap (λ k. cond (k == t) (Some b) (place_in s new t n es)) front.tag_is
          ∙ placed-same tag t (Some b) (λ u. place_in s new u n es) (moved (first_in s old es) n (spot s old))
          (place-same s old new t n es (λ x j. f.tags b x b_in j) ∙ place-first s old t b n es
          ∙ moved-same (first_in s old es) n t F (spot s old) (sym (before ∙ ap (λ k. place_in s old t k (chain_in s old k)) q)))
          ∙ ap (λ o. placed tag (Some b) (moved o n (spot s old)) t) (sym led)
      | false ↦ λ d. let o : a ≡ b → ⊥ = λ z. grind (arith, nat_tests) in
          now ∙ ap (place_in s new t a) (f.elsewhere a a_in o) ∙ place-same s old new t a (chain_in s old a) (λ x j. f.tags a x a_in j) ∙ sym before
          ∙ sym (elsewhere s old (rest ++ e ∷ []) tag t n (Some b) (tag_by s old (slice_index old b)) i o (λ y h. first-In s old y es (sym led ∙ h)))
    ] refl

tag-by-same : (s : ChainShape) (old new : List ℕ) (at : ℕ) → ((x : ℕ) → tag_in s new x ≡ tag_in s old x) → tag_by s new at ≡ tag_by s old at
tag-by-same s old new zero h = refl
tag-by-same s old new (suc e) h = ap (λ k. cond (nat_lt e s.entries) (Some k) None) (h e)

pub gone-places : (s : ChainShape) (old new free : List ℕ) (tag p r t : ℕ) → IsTable s old free → spot s old tag ≡ Some p → IsPast s old new p r
    → Removed s old new free tag (bucket_of s.buckets tag) r
    → spot s new t ≡ placed tag None (moved (tag_by s new (slice_index new p)) p (spot s old)) t
gone-places s old new free tag p r t i found past g =
    let a : ℕ = bucket_of s.buckets t in
    let b : ℕ = bucket_of s.buckets tag in
    let es : List ℕ = chain_in s old b in
    let a_in : a < s.buckets = some_bucket s old free i t in
    let b_in : b < s.buckets = some_bucket s old free i tag in
    let place : place_in s old tag b es ≡ Some p = sym (place-read s old free i tag) ∙ found in
    let set : IsSet old new p (next_in s old r) = is-set old new p (next_in s old r) past.there past.now in
    let led : tag_by s new (slice_index new p) ≡ following_in s old tag es =
    ap (tag_by s new) set.here ∙ tag-by-same s old new (next_in s old r) g.tags ∙ led-following s old tag b p r es (i.chains b b_in) (λ x j. i.inside b x b_in j) place past.led in
    let now : spot s new t ≡ place_in s old t a (chain_in s new a) = place-read s new (free ++ r ∷ []) g.table t ∙ place-same s old new t a (chain_in s new a) (λ x j. g.tags x) in
    let before : spot s old t ≡ place_in s old t a (chain_in s old a) = place-read s old free i t in
    let F : ℕ → Option ℕ = λ u. place_in s old u b es in
    elim (a == b) as (λ d. (a == b) ≡ d → spot s new t ≡ placed tag None (moved (tag_by s new (slice_index new p)) p (spot s old)) t) [
      | true ↦ λ d. let q : a ≡ b = grind (arith, nat_tests) in
          now ∙ ap (λ k. place_in s old t k (chain_in s new k)) q ∙ ap (place_in s old t b) g.here
          ∙ place-gone s old tag t b p es (i.apart b b_in) place
          ∙ placed-same tag t None (moved (following_in s old tag es) p F) (moved (following_in s old tag es) p (spot s old))
          (moved-same (following_in s old tag es) p t F (spot s old) (sym (before ∙ ap (λ k. place_in s old t k (chain_in s old k)) q)))
          ∙ ap (λ o. placed tag None (moved o p (spot s old)) t) (sym led)
      | false ↦ λ d. let o : a ≡ b → ⊥ = λ z. grind (arith, nat_tests) in
          now ∙ ap (place_in s old t a) (g.elsewhere a a_in o) ∙ sym before
          ∙ sym (elsewhere s old free tag t p None (tag_by s new (slice_index new p)) i o (λ y h. following-In s old tag y es (sym led ∙ h)))
    ] refl

-- a value that is set leaves all places
pub value-places : (s : ChainShape) (old new free : List ℕ) (e i v t : ℕ) → IsTable s old free → Valued s old new free e i v → spot s new t ≡ spot s old t
value-places s old new free e i v t k d =
    let a : ℕ = bucket_of s.buckets t in
    place-read s new free d.table t ∙ ap (place_in s new t a) (d.chains a (some_bucket s old free k t))
    ∙ place-same s old new t a (chain_in s old a) (λ x j. d.tags x) ∙ sym (place-read s old free k t)

-- chains without the entry to which the word at a place leads
pub taken : (s : ChainShape) (old new free : List ℕ) (tag p r loads : ℕ) → IsTable s old free → spot s old tag ≡ Some p → IsPast s old new p r
    → IsTaken tag p (seen_in s old loads) (seen_in s new loads)
taken s old new free tag p r loads i found past =
    let g = gone s old new free tag (bucket_of s.buckets tag) p r i refl found past in
    record { held = g.held; places = λ t. gone-places s old new free tag p r t i found past g }
