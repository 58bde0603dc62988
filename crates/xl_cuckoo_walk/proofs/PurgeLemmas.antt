-- The purge of a few keys is the definition's purge of all sections that a change makes stale.
use Rattle.xl_cuckoo_walk.proofs.Common.{◌%◌, ◌&&◌, ◌++◌, ◌+◌, ◌/◌, ◌<◌, ◌==◌, ◌^◌, ◌||◌, ◌∙◌, ◌∷◌, ◌≡◌, [], ap, arith, Bool, both, Cached, Count, CuckooWays, Displaced, drop, false, has_changed, In, In-any, In-map, inl, inr, is_old, IsPlaced, IsSorted, IsTied, Item, key_known, keys_from, Leaf, List, list_any, map, nat_tests, new_word, None, not, Option, Order, purged, refl, refreshed, same_section, same_way, Section, section-after, section_by, section_in, section_key, section_of, sections-same, sections_in, SectionsFresh, slice_get, Some, subst, suc, sym, true, way_by, ways_of, without_items, zero, ℕ}
use Rattle.xl_model_lemmas.proofs.PermLemmas.{bit-same}
use Rattle.xl_cuckoo_walk.proofs.BitLemmas.{written-is}

-- one cut of several tests
old-any : (ℕ → ℕ) → List ℕ → Item → Bool
old-any word [] i = false
old-any word (k ∷ ks) i = is_old k (word k) i || old-any word ks i

purged-both : (p q : Item → Bool) (xs : List Item) → purged q (purged p xs) ≡ purged (λ i. p i || q i) xs
purged-both p q [] = refl
purged-both p q (x ∷ xs) = go (p x) (q x) refl refl (purged-both p q xs)
  where
    go : (a b : Bool) → p x ≡ a → q x ≡ b → purged q (purged p xs) ≡ purged (λ i. p i || q i) xs → purged q (purged p (x ∷ xs)) ≡ purged (λ i. p i || q i) (x ∷ xs)
    go true b e f r = rw e r
    go false true e f r = rw (e, f) r
    go false false e f r = rw (e, f) (ap (λ ys. x ∷ ys) r)

purged-none : (xs : List Item) → purged (λ i. false) xs ≡ xs
purged-none [] = refl
purged-none (x ∷ xs) = ap (λ ys. x ∷ ys) (purged-none xs)

refreshed-any : (word : ℕ → ℕ) (keys : List ℕ) (c : Cached Item) → refreshed word keys c ≡ record c { items = purged (old-any word keys) c.items }
unfolding old-any
refreshed-any word [] c = sym (ap (λ xs. record c { items = xs }) (purged-none c.items))
refreshed-any word (k ∷ ks) c =
    refreshed-any word ks (record c { items = purged (is_old k (word k)) c.items })
    ∙ ap (λ xs. record c { items = xs }) (purged-both (is_old k (word k)) (old-any word ks) c.items)

-- a cut by tests that agree on the members
purged-map : (p : Item → Bool) (q : Section → Bool) (xs : List Item) → ((i : Item) → In i xs → p i ≡ q (section_in i)) → map section_in (purged p xs) ≡ purged q (map section_in xs)
purged-map p q [] h = refl
purged-map p q (x ∷ xs) h =
    let e : p x ≡ q (section_in x) = h x (inl refl) in
    let r : map section_in (purged p xs) ≡ purged q (map section_in xs) = purged-map p q xs (λ i j. h i (inr j)) in
    go (p x) (q (section_in x)) refl refl e r
  where
    go : (a b : Bool) → p x ≡ a → q (section_in x) ≡ b → p x ≡ q (section_in x) → map section_in (purged p xs) ≡ purged q (map section_in xs) → map section_in (purged p (x ∷ xs)) ≡ purged q (map section_in (x ∷ xs))
    go true true e f g r = rw (e, f) r
    go false false e f g r = rw (e, f) (ap (λ ys. section_in x ∷ ys) r)
    go true false e f g r = let z : true ≡ false = sym e ∙ g ∙ f in absurd (cc)
    go false true e f g r = let z : true ≡ false = sym f ∙ sym g ∙ e in absurd (cc)

-- an item leaves where its tag is a key of the list, and its word is another
absorbed : (a b : Bool) → (b || (a && b)) ≡ b
absorbed a true = refl
absorbed true false = refl
absorbed false false = refl

old-any-is : (word : ℕ → ℕ) (keys : List ℕ) (i : Item) → old-any word keys i ≡ (list_any (λ k. i.tag == k) keys && is_old i.tag (word i.tag) i)
unfolding old-any
old-any-is word [] i = refl
old-any-is word (k ∷ ks) i =
    let any : Bool = list_any (λ k. i.tag == k) ks in
    let old : Bool = is_old i.tag (word i.tag) i in
    let other : Bool = not (i.word == word k) in
    ap (λ b. is_old k (word k) i || b) (old-any-is word ks i)
    ∙ elim (i.tag == k) as (λ b. (i.tag == k) ≡ b → ((b && other) || (any && old)) ≡ ((b || any) && old)) [
      | true ↦ λ e. let q : k ≡ i.tag = grind (arith, nat_tests) in
          ap (λ b. b || (any && old)) (ap (λ b. b && other) (sym e) ∙ ap (λ t. is_old t (word t) i) q) ∙ absorbed any old
      | false ↦ λ e. refl
    ] refl

-- a word of a section is known by the section
one-bit : (a b : ℕ) → a < 2 → b < 2 → (a == 1) ≡ (b == 1) → a ≡ b
one-bit zero zero h k e = refl
one-bit (suc zero) (suc zero) h k e = refl
one-bit zero (suc b) h k e = let l : b ≡ 0 = omega arith in let f : (0 == 1) ≡ (suc 0 == 1) = e ∙ ap (λ n. suc n == 1) l in absurd (cc)
one-bit (suc a) zero h k e = let l : a ≡ 0 = omega arith in let f : (suc 0 == 1) ≡ (0 == 1) = sym (ap (λ n. suc n == 1) l) ∙ e in absurd (cc)
one-bit (suc a) (suc b) h k e = omega arith

way-inj : (a b : ℕ) → way_by a ≡ way_by b → a ≡ b
way-inj zero zero e = refl
way-inj zero (suc b) e = absurd (cc)
way-inj (suc a) zero e = absurd (cc)
way-inj (suc a) (suc b) e = let f : a ≡ b = cc in ap suc f

word-inj : (tag v w : ℕ) → section_by tag v ≡ section_by tag w → v ≡ w
word-inj tag v w e =
    let a : v % 2 ≡ w % 2 = one-bit (v % 2) (w % 2) (omega arith) (omega arith) (ap (λ (s : Section). s.has_k4) e) in
    let b : v / 2 % 2 ≡ w / 2 % 2 = one-bit (v / 2 % 2) (w / 2 % 2) (omega arith) (omega arith) (ap (λ (s : Section). s.has_m2) e) in
    let c : v / 4 % 2 ≡ w / 4 % 2 = one-bit (v / 4 % 2) (w / 4 % 2) (omega arith) (omega arith) (ap (λ (s : Section). s.has_g1) e) in
    let d : v / 8 ≡ w / 8 = way-inj (v / 8) (w / 8) (ap (λ (s : Section). s.way) e) in
    omega arith

way-self : (w : Option ℕ) → same_way w w ≡ true
way-self None = refl
way-self (Some n) = grind (arith, nat_tests)

section-self : (s : Section) → same_section s s ≡ true
section-self s = rw (bit-same s.has_k4, bit-same s.has_m2, bit-same s.has_g1, way-self s.way) refl

-- the code's test of an item is the definition's test of its section
changed-is : (i : Item) (word : ℕ) (old new : Section) → section_in i ≡ old → section_by i.tag word ≡ new → is_old i.tag word i ≡ not (same_section old new)
changed-is i word old new o n = go (i.word == word) refl
  where
    own : (i.tag == i.tag) ≡ true
    own = grind (arith, nat_tests)

    go : (b : Bool) → (i.word == word) ≡ b → is_old i.tag word i ≡ not (same_section old new)
    go true e =
        let w : i.word ≡ word = grind (arith, nat_tests) in
        let s : old ≡ new = sym o ∙ ap (section_by i.tag) w ∙ n in
        rw (own, e) refl ∙ sym (ap not (ap (λ z. same_section z new) s ∙ section-self new))
    go false e = rw (own, e) refl ∙ sym (ap not (diff (same_section old new) refl))
      where
        diff : (b : Bool) → same_section old new ≡ b → b ≡ false
        diff false u = refl
        diff true u =
            let s : old ≡ new = sections-same old new (sym (ap (λ (s : Section). s.space) o) ∙ ap (λ (s : Section). s.space) n) (sym (ap (λ (s : Section). s.block) o) ∙ ap (λ (s : Section). s.block) n) u in
            let w : i.word ≡ word = word-inj i.tag i.word word (o ∙ s ∙ sym n) in
            let c : (i.word == word) ≡ true = grind (arith, nat_tests) in
            let z : true ≡ false = sym c ∙ e in absurd (cc)

module _ (size : Order) (before after : List Leaf) (ws now : CuckooWays) (old new : List Count) (c : Cached Item) (keys : List ℕ)
    (sorted : IsSorted before) (placed : (x : Leaf) → In x before → IsPlaced x) (tied : IsTied size before old)
    (sorted_now : IsSorted after) (placed_now : (x : Leaf) → In x after → IsPlaced x) (tied_now : IsTied size after new)
    (fresh : SectionsFresh size before (ways_of size ws) (sections_in c))
    (same : (key : ℕ) → (In key keys → ⊥) → new_word size key new (ways_of size now) ≡ new_word size key old (ways_of size ws)) where
  abbrev word : ℕ → ℕ
  word k = new_word size k new (ways_of size now)

  abbrev is_changed : Section → Bool
  is_changed = has_changed size before ws after now

  parts : (t : ℕ) → (section_key (t / 2 ^ 45) (t % 2 ^ 45) ≡ t) × (t % 2 ^ 45 < 2 ^ 45)
  parts t = (omega arith, omega arith)

  before-is : (t : ℕ) → section_by t (new_word size t old (ways_of size ws)) ≡ section_of size (t / 2 ^ 45) (t % 2 ^ 45) before (ways_of size ws)
  before-is t = ap (λ k. section_by k (new_word size k old (ways_of size ws))) (sym (parts t).0) ∙ written-is size (t / 2 ^ 45) (t % 2 ^ 45) before old (ways_of size ws) (parts t).1 sorted placed tied

  after-is : (t : ℕ) → section_by t (word t) ≡ section_of size (t / 2 ^ 45) (t % 2 ^ 45) after (ways_of size now)
  after-is t = ap (λ k. section_by k (new_word size k new (ways_of size now))) (sym (parts t).0) ∙ written-is size (t / 2 ^ 45) (t % 2 ^ 45) after new (ways_of size now) (parts t).1 sorted_now placed_now tied_now

  exact : (i : Item) → In i c.items → is_old i.tag (word i.tag) i ≡ is_changed (section_in i)
  exact i j =
      changed-is i (word i.tag) (section_of size (i.tag / 2 ^ 45) (i.tag % 2 ^ 45) before (ways_of size ws)) (section_of size (i.tag / 2 ^ 45) (i.tag % 2 ^ 45) after (ways_of size now))
      (fresh (section_in i) (In-map section_in i c.items j)).is (after-is i.tag)

  stays : (i : Item) → (In i.tag keys → ⊥) → is_changed (section_in i) ≡ false
  stays i out =
      let O : Section = section_of size (i.tag / 2 ^ 45) (i.tag % 2 ^ 45) before (ways_of size ws) in
      let N : Section = section_of size (i.tag / 2 ^ 45) (i.tag % 2 ^ 45) after (ways_of size now) in
      let s : N ≡ O = sym (after-is i.tag) ∙ ap (section_by i.tag) (same i.tag out) ∙ before-is i.tag in
      ap not (ap (same_section O) s ∙ section-self O)

  here : (i : Item) → In i c.items → (b : Bool) → list_any (λ k. i.tag == k) keys ≡ b → (list_any (λ k. i.tag == k) keys && is_old i.tag (word i.tag) i) ≡ is_changed (section_in i)
  here i j true e = ap (λ b. b && is_old i.tag (word i.tag) i) e ∙ exact i j
  here i j false e =
      let own : (i.tag == i.tag) ≡ true = grind (arith, nat_tests) in
      ap (λ b. b && is_old i.tag (word i.tag) i) e ∙ sym (stays i (λ k. both (list_any (λ k. i.tag == k) keys) (In-any (λ k. i.tag == k) i.tag keys k own) e))

  -- what the code leaves in a cache is what the definition leaves
  pub purge-is : sections_in (refreshed word keys c) ≡ without_items is_changed (sections_in c)
  purge-is =
      ap sections_in (refreshed-any word keys c)
      ∙ ap (λ xs. record { width = c.width; items = xs })
      (purged-map (old-any word keys) is_changed c.items (λ i j. old-any-is word keys i ∙ here i j (list_any (λ k. i.tag == k) keys) refl))

  pub fresh-now : SectionsFresh size after (ways_of size now) (sections_in (refreshed word keys c))
  fresh-now = subst (λ u. SectionsFresh size after (ways_of size now) u) (sym purge-is) (section-after size before ws after now (sections_in c) fresh)

-- sections compared one list after another
pub refreshed-append : (word : ℕ → ℕ) (ks ls : List ℕ) (c : Cached Item) → refreshed word (ks ++ ls) c ≡ refreshed word ls (refreshed word ks c)
refreshed-append word [] ls c = refl
refreshed-append word (k ∷ ks) ls c = refreshed-append word ks ls (record c { items = purged (is_old k (word k)) c.items })

-- the logged keys, one by one
pub known-none : (moved : List Displaced) (at : ℕ) → key_known (slice_get moved at) ≡ None → keys_from at moved ≡ []
unfolding keys_from
known-none [] zero e = refl
known-none [] (suc at) e = refl
known-none (d ∷ ds) zero e = absurd (cc)
known-none (d ∷ ds) (suc at) e = known-none ds at e

pub known-some : (moved : List Displaced) (at key : ℕ) → key_known (slice_get moved at) ≡ Some key → keys_from at moved ≡ key ∷ keys_from (at + 1) moved
unfolding keys_from
known-some [] zero key e = absurd (cc)
known-some [] (suc at) key e = absurd (cc)
known-some (d ∷ ds) zero key e = let k : d.key ≡ key = cc in ap (λ n. n ∷ map (λ (d : Displaced). d.key) ds) k
known-some (d ∷ ds) (suc at) key e =
    let n : suc at + 1 ≡ suc (at + 1) = omega arith in
    known-some ds at key e ∙ ap (λ m. key ∷ drop m (map (λ (d : Displaced). d.key) (d ∷ ds))) (sym n)
