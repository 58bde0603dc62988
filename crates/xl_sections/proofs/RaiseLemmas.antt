-- A count that is raised, in a list of entries.
use Rattle.xl_sections.proofs.Common.{◌+◌, ◌<◌, ◌==◌, ◌∙◌, ◌∷◌, ◌≡◌, [], ap, AreCounts, AreKept, arith, bucket_of, ChainShape, ChainState, cond, Count, count_in, count_of, counts_of, false, find, find-In, find-None, find-passes, first_value, found_of, has, has_tag, Held, held_with, In, In-map, in_front_of, inl, inr, is_entry, IsInserted, IsRaised, keys_of, length, length-map, List, map, map-In, nat_lt, nat_tests, None, number_in, number_of, Once, Option, refl, slice_set, Some, subst, suc, sym, tags_of, true, with_value, ℕ}
use Rattle.xl_list_lemmas.proofs.BucketLemmas.{by-In, length-by}
use Rattle.xl_chain.specs.declared.shape.Seek.TheVariants as seek

pub count-held : (key : ℕ) (hs : List Held) → count_of key (counts_of hs) ≡ number_in (found_of (held_with key hs))
unfolding count_of held_with
count-held key [] = refl
count-held key (h ∷ hs) =
    elim (h.tag == key) as (λ b. number_of (cond b (Some (count_in h)) (find (λ c. c.key == key) (counts_of hs))) ≡ number_in (found_of (cond b (Some h) (find (has key) hs)))) [
      | true ↦ refl
      | false ↦ count-held key hs
    ]

pub record IsFoundAt (key e v : ℕ) (hs : List Held) : Type 0 where
  pub held : Held
  pub there : In held hs
  pub tag_is : held.tag ≡ key
  pub entry_is : held.entry ≡ e
  pub value_is : first_value held.values ≡ v

pub found-at : (key e v : ℕ) (hs : List Held) → found_of (held_with key hs) ≡ seek.Found e v → IsFoundAt key e v hs
unfolding held_with
found-at key e v hs f = go (find (has key) hs) refl f
  where
    go : (o : Option Held) → find (has key) hs ≡ o → found_of o ≡ seek.Found e v → IsFoundAt key e v hs
    go None w k = absurd (cc)
    go (Some h) w k = record {
      held = h;
      there = find-In (has key) h hs w;
      tag_is = (let t = find-passes (has key) h hs w in grind (arith, nat_tests));
      entry_is = cc;
      value_is = cc;
    }

pub not-found : (key : ℕ) (hs : List Held) → ((e v : ℕ) → found_of (held_with key hs) ≡ seek.Found e v → ⊥) → (h : Held) → In h hs → h.tag ≡ key → ⊥
unfolding held_with
not-found key hs n h i q = go (find (has key) hs) refl
  where
    go : (o : Option Held) → find (has key) hs ≡ o → ⊥
    go None w = let t : (h.tag == key) ≡ false = find-None (has key) h hs w i in grind (arith, nat_tests)
    go (Some g) w = n g.entry (first_value g.values) (ap found_of w)

none-has : (key : ℕ) (hs : List Held) → ((h : Held) → In h hs → h.tag ≡ key → ⊥) → has_tag (tags_of hs) key ≡ false
none-has key [] n = refl
none-has key (h ∷ hs) n =
    let t : (h.tag == key) ≡ false = (elim (h.tag == key) as (λ b. (h.tag == key) ≡ b → b ≡ false) [ true ↦ λ k. absurd (n h (inl refl) (grind (arith, nat_tests))) | false ↦ λ k. refl ] refl) in
    rw t (none-has key hs (λ g i. n g (inr i)))

pub absent-key : (key : ℕ) (hs : List Held) → ((e v : ℕ) → found_of (held_with key hs) ≡ seek.Found e v → ⊥) → has_tag (tags_of hs) key ≡ false
absent-key key hs n = none-has key hs (λ h i q. not-found key hs n h i q)

-- entries with one tag are one
once-tag : (g h : Held) (hs : List Held) → Once (keys_of (counts_of hs)) → In g hs → In h hs → g.tag ≡ h.tag → g ≡ h
once-tag g h [] o i j q = absurd i
once-tag g h (x ∷ xs) (out, rest) (inl e) (inl f) q = e ∙ sym f
once-tag g h (x ∷ xs) (out, rest) (inr i) (inr j) q = once-tag g h xs rest i j q
once-tag g h (x ∷ xs) (out, rest) (inl e) (inr j) q =
    absurd (out (subst (λ (k : ℕ). In k (keys_of (counts_of xs))) (sym q ∙ ap (λ (y : Held). y.tag) e) (In-map (λ (c : Count). c.key) (count_in h) (counts_of xs) (In-map count_in h xs j))))
once-tag g h (x ∷ xs) (out, rest) (inr i) (inl f) q =
    absurd (out (subst (λ (k : ℕ). In k (keys_of (counts_of xs))) (q ∙ ap (λ (y : Held). y.tag) f) (In-map (λ (c : Count). c.key) (count_in g) (counts_of xs) (In-map count_in g xs i))))

-- what the entry with the key shares with no other
pub same-test : (key e : ℕ) (hs : List Held) (h : Held) → AreKept hs → In h hs → h.tag ≡ key → h.entry ≡ e → (g : Held) → In g hs → is_entry e g ≡ (g.tag == key)
same-test key e hs h k i q p g j =
    elim (g.tag == key) as (λ b. (g.tag == key) ≡ b → is_entry e g ≡ b) [
      | true ↦ λ t. let s : g.tag ≡ key = grind (arith, nat_tests) in let same : g ≡ h = once-tag g h hs k.counts.once j i (s ∙ sym q) in
          let r : g.entry ≡ e = ap (λ (y : Held). y.entry) same ∙ p in grind (arith, nat_tests)
      | false ↦ λ t. elim (g.entry == e) as (λ b. (g.entry == e) ≡ b → b ≡ false) [
        | true ↦ λ u. let r : g.entry ≡ e = grind (arith, nat_tests) in let s : g.tag ≡ key = k.apart g h j i (r ∙ sym p) ∙ q in absurd (grind (arith, nat_tests))
        | false ↦ λ u. refl
      ] refl
    ] refl

-- the entry with the key gets another number
abbrev pub renewed : ℕ → ℕ → Held → Count
renewed key n g = cond (g.tag == key) (record { key = g.tag; number = n }) (count_in g)

renewed-is : (key e n : ℕ) (g : Held) → is_entry e g ≡ (g.tag == key) → ((v : ℕ) × (g.values ≡ v ∷ [])) → count_in (with_value e 0 n g) ≡ renewed key n g
renewed-is key e n g same single =
    ap (λ b. count_in (cond b (record g { values = slice_set g.values 0 n }) g)) same
    ∙ elim (g.tag == key) as (λ b. count_in (cond b (record g { values = slice_set g.values 0 n }) g) ≡ cond b (record { key = g.tag; number = n }) (count_in g)) [
      | true ↦ let f : List ℕ → Count = λ vs. record { key = g.tag; number = first_value (slice_set vs 0 n) } in ap f single.1
      | false ↦ refl
    ]

pub counts-renewed : (key e n : ℕ) (hs : List Held) → ((g : Held) → In g hs → is_entry e g ≡ (g.tag == key)) → ((g : Held) → In g hs → (v : ℕ) × (g.values ≡ v ∷ []))
    → counts_of (map (with_value e 0 n) hs) ≡ map (renewed key n) hs
counts-renewed key e n [] same single = refl
counts-renewed key e n (g ∷ hs) same single =
    ap (λ c. c ∷ counts_of (map (with_value e 0 n) hs)) (renewed-is key e n g (same g (inl refl)) (single g (inl refl)))
    ∙ ap (λ cs. renewed key n g ∷ cs) (counts-renewed key e n hs (λ x i. same x (inr i)) (λ x i. single x (inr i)))

renewed-key : (key n : ℕ) (g : Held) → (renewed key n g).key ≡ g.tag
renewed-key key n g = elim (g.tag == key) as (λ b. (cond b (record { key = g.tag; number = n }) (count_in g)).key ≡ g.tag) [ true ↦ refl | false ↦ refl ]

keys-renewed : (key n : ℕ) (hs : List Held) → keys_of (map (renewed key n) hs) ≡ keys_of (counts_of hs)
keys-renewed key n [] = refl
keys-renewed key n (g ∷ hs) = ap (λ k. k ∷ keys_of (map (renewed key n) hs)) (renewed-key key n g) ∙ ap (λ ks. g.tag ∷ ks) (keys-renewed key n hs)

pub count-renewed : (key n k : ℕ) (hs : List Held) → (k ≡ key → (h : Held) × In h hs × (h.tag ≡ key)) → count_of k (map (renewed key n) hs) ≡ cond (k == key) n (count_of k (counts_of hs))
unfolding count_of
count-renewed key n k [] ex =
    elim (k == key) as (λ b. (k == key) ≡ b → 0 ≡ cond b n 0) [
      | true ↦ λ t. let e : k ≡ key = grind (arith, nat_tests) in absurd ((ex e).1)
      | false ↦ λ t. refl
    ] refl
count-renewed key n k (g ∷ hs) ex =
    let rest : (g.tag == k) ≡ false → k ≡ key → (h : Held) × In h hs × (h.tag ≡ key) = (λ t e. let r = ex e in elim r.1 [
      | inl s ↦ absurd (let u : r.0.tag ≡ g.tag = ap (λ (y : Held). y.tag) s in let w : r.0.tag ≡ key = r.2 in grind (arith, nat_tests))
      | inr j ↦ (r.0, j, r.2)
    ]) in
    ap (λ m. number_of (cond (m == k) (Some (renewed key n g)) (find (λ c. c.key == k) (map (renewed key n) hs)))) (renewed-key key n g)
    ∙ elim (g.tag == k) as (λ b. (g.tag == k) ≡ b → number_of (cond b (Some (renewed key n g)) (find (λ c. c.key == k) (map (renewed key n) hs))) ≡ cond (k == key) n (number_of (cond b (Some (count_in g)) (find (λ c. c.key == k) (counts_of hs))))) [
      | true ↦ λ t. let e : g.tag ≡ k = grind (arith, nat_tests) in
          let s : (g.tag == key) ≡ (k == key) = ap (λ (z : ℕ). z == key) e in
          ap (λ b. (cond b (record { key = g.tag; number = n }) (count_in g)).number) s
          ∙ elim (k == key) as (λ b. (cond b (record { key = g.tag; number = n }) (count_in g)).number ≡ cond b n (first_value g.values)) [ true ↦ refl | false ↦ refl ]
      | false ↦ λ t. count-renewed key n k hs (rest t)
    ] refl

with-tag-same : (e n : ℕ) (g : Held) → (with_value e 0 n g).tag ≡ g.tag
with-tag-same e n g = elim (is_entry e g) as (λ b. (cond b (record g { values = slice_set g.values 0 n }) g).tag ≡ g.tag) [ true ↦ refl | false ↦ refl ]

with-entry-same : (e n : ℕ) (g : Held) → (with_value e 0 n g).entry ≡ g.entry
with-entry-same e n g = elim (is_entry e g) as (λ b. (cond b (record g { values = slice_set g.values 0 n }) g).entry ≡ g.entry) [ true ↦ refl | false ↦ refl ]

with-single : (e n : ℕ) (g : Held) → ((v : ℕ) × (g.values ≡ v ∷ [])) → (v : ℕ) × ((with_value e 0 n g).values ≡ v ∷ [])
with-single e n g s = elim (is_entry e g) as (λ b. (v : ℕ) × ((cond b (record g { values = slice_set g.values 0 n }) g).values ≡ v ∷ [])) [
  | true ↦ (n, ap (λ (vs : List ℕ). slice_set vs 0 n) s.1)
  | false ↦ s
]

renewed-some : (key n : ℕ) (g : Held) → 0 < n → 0 < (count_in g).number → 0 < (renewed key n g).number
renewed-some key n g a b = elim (g.tag == key) as (λ t. 0 < (cond t (record { key = g.tag; number = n }) (count_in g)).number) [ true ↦ a | false ↦ b ]

-- entries with a count that is set
pub kept-set : (key e n : ℕ) (hs : List Held) (h : Held) → AreKept hs → In h hs → h.tag ≡ key → h.entry ≡ e → 0 < n → AreKept (map (with_value e 0 n) hs)
kept-set key e n hs h k i q p some =
    let is : counts_of (map (with_value e 0 n) hs) ≡ map (renewed key n) hs = counts-renewed key e n hs (same-test key e hs h k i q p) k.single in
    record {
      counts = (let P : List Count → Type 0 = λ cs. AreCounts cs in
          subst P (sym is) (record {
            once = (let Q : List ℕ → Type 0 = λ ks. Once ks in subst Q (sym (keys-renewed key n hs)) k.counts.once);
            some = λ c j. (let r = map-In (renewed key n) c hs j in let Q : Count → Type 0 = λ d. 0 < d.number in
                subst Q (sym r.2) (renewed-some key n r.0 some (k.counts.some (count_in r.0) (In-map count_in r.0 hs r.1))));
          }));
      single = λ g j. (let r = map-In (with_value e 0 n) g hs j in let Q : Held → Type 0 = λ d. (v : ℕ) × (d.values ≡ v ∷ []) in subst Q (sym r.2) (with-single e n r.0 (k.single r.0 r.1)));
      apart = λ f g a b s. (let r = map-In (with_value e 0 n) f hs a in let u = map-In (with_value e 0 n) g hs b in
          ap (λ (y : Held). y.tag) r.2 ∙ with-tag-same e n r.0
          ∙ k.apart r.0 u.0 r.1 u.1 (sym (with-entry-same e n r.0) ∙ sym (ap (λ (y : Held). y.entry) r.2) ∙ s ∙ ap (λ (y : Held). y.entry) u.2 ∙ with-entry-same e n u.0)
          ∙ sym (with-tag-same e n u.0) ∙ sym (ap (λ (y : Held). y.tag) u.2));
    }

choose : (k key by : ℕ) (f : ℕ → ℕ) → cond (k == key) (f key + by) (f k) ≡ f k + cond (k == key) by 0
choose k key by f =
    elim (k == key) as (λ b. (k == key) ≡ b → cond b (f key + by) (f k) ≡ f k + cond b by 0) [
      | true ↦ λ t. let e : k ≡ key = grind (arith, nat_tests) in ap (λ m. f m + by) (sym e)
      | false ↦ λ t. omega arith
    ] refl

pub here-count : (key e v : ℕ) (hs : List Held) → AreKept hs → IsFoundAt key e v hs → count_of key (counts_of hs) ≡ v
unfolding count_of
here-count key e v hs k f = go (find (λ c. c.key == key) (counts_of hs)) refl
  where
    go : (o : Option Count) → find (λ c. c.key == key) (counts_of hs) ≡ o → number_of o ≡ v
    go None w =
        let t : (f.held.tag == key) ≡ false = find-None (λ c. c.key == key) (count_in f.held) (counts_of hs) w (In-map count_in f.held hs f.there) in
        let q : f.held.tag ≡ key = f.tag_is in
        absurd (grind (arith, nat_tests))
    go (Some c) w =
        let r = map-In count_in c hs (find-In (λ d. d.key == key) c (counts_of hs) w) in
        let t = find-passes (λ d. d.key == key) c (counts_of hs) w in
        let a : c.key ≡ key = grind (arith, nat_tests) in
        let same : r.0 ≡ f.held = once-tag r.0 f.held hs k.counts.once r.1 f.there (sym (ap (λ (d : Count). d.key) r.2) ∙ a ∙ sym f.tag_is) in
        ap (λ (d : Count). d.number) r.2 ∙ ap (λ (y : Held). first_value y.values) same ∙ f.value_is

pub raised-set : (key e v by : ℕ) (old new : ChainState) → AreKept old.held → IsFoundAt key e v old.held → 0 < by
    → new.held ≡ map (with_value e 0 (v + by)) old.held → new.shape ≡ old.shape
    → IsRaised key by (record { room = old.shape.entries; counts = counts_of old.held }) (record { room = new.shape.entries; counts = counts_of new.held })
raised-set key e v by old new k f some held shape =
    let hs = old.held in
    let is : counts_of new.held ≡ map (renewed key (v + by)) hs = ap counts_of held ∙ counts-renewed key e (v + by) hs (same-test key e hs f.held k f.there f.tag_is f.entry_is) k.single in
    let single = k.single f.held f.there in
    let here : count_of key (counts_of hs) ≡ v = here-count key e v hs k f in
    record {
      number = λ m. ap (count_of m) is ∙ count-renewed key (v + by) m hs (λ q. (f.held, f.there, f.tag_is))
          ∙ ap (λ z. cond (m == key) (z + by) (count_of m (counts_of hs))) (sym here) ∙ choose m key by (λ z. count_of z (counts_of hs));
      places = (let a : length (counts_of new.held) ≡ length hs = ap (λ (cs : List Count). length cs) is ∙ length-map hs (renewed key (v + by)) in
          let b : length (counts_of hs) ≡ length hs = length-map hs count_in in
          let c : 0 < v = (let l = k.counts.some (count_in f.held) (In-map count_in f.held hs f.there) in let m = f.value_is in omega arith) in
          let d : (count_of key (counts_of hs) == 0) ≡ false = grind (arith, nat_tests) in
          a ∙ sym b ∙ (rw d (omega arith)));
      room = ap (λ (s : ChainShape). s.entries) shape;
    }

-- a key that comes
pub keys-In : (k : ℕ) (hs : List Held) → In k (keys_of (counts_of hs)) → (h : Held) × In h hs × (h.tag ≡ k)
keys-In k hs i =
    let r = map-In (λ (c : Count). c.key) k (counts_of hs) i in
    let u = map-In count_in r.0 hs r.1 in
    (u.0, u.1, sym (ap (λ (c : Count). c.key) u.2) ∙ sym r.2)

once-front : (b : ℕ) (x : Held) (hs : List Held) → Once (keys_of (counts_of hs)) → ((h : Held) → In h hs → h.tag ≡ x.tag → ⊥) → Once (keys_of (counts_of (in_front_of b x hs)))
once-front b x [] o n = (λ i. i, tt)
once-front b x (g ∷ hs) (out, rest) n =
    elim (nat_lt (bucket_of b g.tag) (bucket_of b x.tag)) as (λ t. Once (keys_of (counts_of (cond t (g ∷ in_front_of b x hs) (x ∷ g ∷ hs))))) [
      | true ↦ (
        λ i. let r = keys-In g.tag (in_front_of b x hs) i in
            elim (by-In (λ (h : Held). h.tag) b r.0 x hs r.1) [
              | inl e ↦ n g (inl refl) (sym r.2 ∙ ap (λ (y : Held). y.tag) e)
              | inr j ↦ let P : ℕ → Type 0 = λ k. In k (keys_of (counts_of hs)) in out (subst P r.2 (In-map (λ (c : Count). c.key) (count_in r.0) (counts_of hs) (In-map count_in r.0 hs j)))
            ],
        once-front b x hs rest (λ h i q. n h (inr i) q),
      )
      | false ↦ (λ i. let r = keys-In x.tag (g ∷ hs) i in n r.0 r.1 r.2, (out, rest))
    ]

count-front : (b k : ℕ) (x : Held) (hs : List Held) → ((h : Held) → In h hs → h.tag ≡ x.tag → ⊥) → count_of k (counts_of (in_front_of b x hs)) ≡ cond (x.tag == k) (first_value x.values) (count_of k (counts_of hs))
unfolding count_of
count-front b k x [] n = elim (x.tag == k) as (λ t. number_of (cond t (Some (count_in x)) None) ≡ cond t (first_value x.values) 0) [ true ↦ refl | false ↦ refl ]
count-front b k x (g ∷ hs) n =
    let F : Option Count = find (λ c. c.key == k) (counts_of hs) in
    let on = count-front b k x hs (λ h i q. n h (inr i) q) in
    elim (nat_lt (bucket_of b g.tag) (bucket_of b x.tag)) as (λ t. number_of (find (λ c. c.key == k) (counts_of (cond t (g ∷ in_front_of b x hs) (x ∷ g ∷ hs)))) ≡ cond (x.tag == k) (first_value x.values) (number_of (cond (g.tag == k) (Some (count_in g)) F))) [
      | true ↦ elim (g.tag == k) as (λ t. (g.tag == k) ≡ t → number_of (cond t (Some (count_in g)) (find (λ c. c.key == k) (counts_of (in_front_of b x hs)))) ≡ cond (x.tag == k) (first_value x.values) (number_of (cond t (Some (count_in g)) F))) [
        | true ↦ λ t.
            let o : (x.tag == k) ≡ false = (elim (x.tag == k) as (λ u. (x.tag == k) ≡ u → u ≡ false) [ true ↦ λ u. absurd (n g (inl refl) (grind (arith, nat_tests))) | false ↦ λ u. refl ] refl) in
            rw o refl
        | false ↦ λ t. on
      ] refl
      | false ↦ elim (x.tag == k) as (λ t. number_of (cond t (Some (count_in x)) (cond (g.tag == k) (Some (count_in g)) F)) ≡ cond t (first_value x.values) (number_of (cond (g.tag == k) (Some (count_in g)) F))) [ true ↦ refl | false ↦ refl ]
    ]

pub zero-count : (key : ℕ) (hs : List Held) → ((h : Held) → In h hs → h.tag ≡ key → ⊥) → count_of key (counts_of hs) ≡ 0
unfolding count_of
zero-count key [] n = refl
zero-count key (h ∷ hs) n =
    let t : (h.tag == key) ≡ false = (elim (h.tag == key) as (λ b. (h.tag == key) ≡ b → b ≡ false) [ true ↦ λ k. absurd (n h (inl refl) (grind (arith, nat_tests))) | false ↦ λ k. refl ] refl) in
    rw t (zero-count key hs (λ g i. n g (inr i)))

swapped-test : (a b : ℕ) → (a == b) ≡ (b == a)
swapped-test a b = elim (b == a) as (λ t. (b == a) ≡ t → (a == b) ≡ t) [ true ↦ λ t. grind (arith, nat_tests) | false ↦ λ t. grind (arith, nat_tests) ] refl

pub record Come (key by : ℕ) (old new : ChainState) : Type 0 where
  pub kept : AreKept new.held
  pub raised : IsRaised key by (record { room = old.shape.entries; counts = counts_of old.held }) (record { room = new.shape.entries; counts = counts_of new.held })

pub raised-new : (key by : ℕ) (old new : ChainState) → AreKept old.held → ((h : Held) → In h old.held → h.tag ≡ key → ⊥) → 0 < by → IsInserted key (by ∷ []) old new → Come key by old new
raised-new key by old new k n some done =
    let hs = old.held in
    let b = old.shape.buckets in
    let x : Held = record { entry = done.held.0; tag = key; values = by ∷ [] } in
    let none : count_of key (counts_of hs) ≡ 0 = zero-count key hs n in
    record {
      kept = subst (λ (gs : List Held). AreKept gs) (sym done.held.3) (record {
        counts = record {
          once = once-front b x hs k.counts.once n;
          some = λ c j. (let r = map-In count_in c (in_front_of b x hs) j in let Q : Count → Type 0 = λ d. 0 < d.number in
              subst Q (sym r.2) (elim (by-In (λ (h : Held). h.tag) b r.0 x hs r.1) [
                | inl e ↦ (let R : Held → Type 0 = λ h. 0 < (count_in h).number in subst R (sym e) some)
                | inr i ↦ k.counts.some (count_in r.0) (In-map count_in r.0 hs i)
              ]));
        };
        single = λ g j. elim (by-In (λ (h : Held). h.tag) b g x hs j) [
          | inl e ↦ (let Q : Held → Type 0 = λ d. (v : ℕ) × (d.values ≡ v ∷ []) in subst Q (sym e) (by, refl))
          | inr i ↦ k.single g i
        ];
        apart = λ f g a c s. elim (by-In (λ (h : Held). h.tag) b f x hs a) [
          | inl e ↦ elim (by-In (λ (h : Held). h.tag) b g x hs c) [
            | inl d ↦ ap (λ (y : Held). y.tag) (e ∙ sym d)
            | inr i ↦ absurd (done.held.2 g i (sym s ∙ ap (λ (y : Held). y.entry) e))
          ]
          | inr j ↦ elim (by-In (λ (h : Held). h.tag) b g x hs c) [
            | inl d ↦ absurd (done.held.2 f j (s ∙ ap (λ (y : Held). y.entry) d))
            | inr i ↦ k.apart f g j i s
          ]
        ];
      });
      raised = record {
        number = λ m. ap (λ gs. count_of m (counts_of gs)) done.held.3 ∙ count-front b m x hs n
            ∙ ap (λ t. cond t by (count_of m (counts_of hs))) (swapped-test key m)
            ∙ ap (λ z. cond (m == key) z (count_of m (counts_of hs))) (let w : by ≡ 0 + by = omega arith in w)
            ∙ ap (λ z. cond (m == key) (z + by) (count_of m (counts_of hs))) (sym none) ∙ choose m key by (λ z. count_of z (counts_of hs));
        places = (let a : length (counts_of new.held) ≡ suc (length hs) = ap (λ (gs : List Held). length (counts_of gs)) done.held.3 ∙ length-map (in_front_of b x hs) count_in ∙ length-by (λ (h : Held). h.tag) b x hs in
            let c : length (counts_of hs) ≡ length hs = length-map hs count_in in
            let d : (count_of key (counts_of hs) == 0) ≡ true = grind (arith, nat_tests) in
            a ∙ ap suc (sym c) ∙ (rw d (omega arith)));
        room = ap (λ (s : ChainShape). s.entries) done.shape;
      };
    }
