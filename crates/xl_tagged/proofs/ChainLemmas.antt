-- What each call of chains makes of the values under tags.
use Rattle.xl_tagged.proofs.Common.{◌==◌, ◌||◌, ◌∙◌, ◌∷◌, ◌≡◌, [], ap, AreSingle, arith, Bool, bucket_of, cond, false, filter, find, find-In, find-passes, first_value, found_of, has, has_tag, Held, held_with, In, in_front_of, inl, inr, is_entry, List, map, nat_lt, nat_tests, None, not, Option, refl, slice_set, Some, sym, tags_of, true, values_by, values_under, with_value, without_tag, ℕ}
use Rattle.xl_chain.specs.declared.shape.Seek.TheVariants as seek

-- the values under a tag, entry by entry
pub values-none : (t : ℕ) → values_under [] t ≡ []
unfolding values_under held_with
values-none t = refl

pub values-cons : (h : Held) (hs : List Held) (t : ℕ) → values_under (h ∷ hs) t ≡ cond (h.tag == t) h.values (values_under hs t)
unfolding values_under held_with
values-cons h hs t = elim (h.tag == t) as (λ b. values_by (cond b (Some h) (find (has t) hs)) ≡ cond b h.values (values_by (find (has t) hs))) [ true ↦ refl | false ↦ refl ]

swap : (a b : Bool) (p q r : List ℕ) → (a ≡ true → b ≡ true → ⊥) → cond a p (cond b q r) ≡ cond b q (cond a p r)
swap true true p q r h = absurd (h refl refl)
swap true false p q r h = refl
swap false b p q r h = refl

-- an entry that comes, under a tag that isn't held
pub values-front : (b : ℕ) (h : Held) (hs : List Held) (t : ℕ) → has_tag (tags_of hs) h.tag ≡ false → values_under (in_front_of b h hs) t ≡ cond (h.tag == t) h.values (values_under hs t)
values-front b h [] t new = values-cons h [] t
values-front b h (g ∷ hs) t new =
    elim (nat_lt (bucket_of b g.tag) (bucket_of b h.tag)) as (λ c. values_under (cond c (g ∷ in_front_of b h hs) (h ∷ g ∷ hs)) t ≡ cond (h.tag == t) h.values (values_under (g ∷ hs) t)) [
      | true ↦
          values-cons g (in_front_of b h hs) t
          ∙ ap (cond (g.tag == t) g.values) (values-front b h hs t (rest new))
          ∙ swap (g.tag == t) (h.tag == t) g.values h.values (values_under hs t) (λ p q. apart new p q)
          ∙ ap (cond (h.tag == t) h.values) (sym (values-cons g hs t))
      | false ↦ values-cons h (g ∷ hs) t
    ]
  where
    rest : ((g.tag == h.tag) || has_tag (tags_of hs) h.tag) ≡ false → has_tag (tags_of hs) h.tag ≡ false
    rest n = elim (g.tag == h.tag) as (λ c. (c || has_tag (tags_of hs) h.tag) ≡ false → has_tag (tags_of hs) h.tag ≡ false) [ true ↦ λ k. absurd (cc) | false ↦ λ k. k ] n

    apart : ((g.tag == h.tag) || has_tag (tags_of hs) h.tag) ≡ false → (g.tag == t) ≡ true → (h.tag == t) ≡ true → ⊥
    apart n p q =
        let e : (g.tag == h.tag) ≡ true = grind (arith, nat_tests) in
        elim (g.tag == h.tag) as (λ c. c ≡ true → (c || has_tag (tags_of hs) h.tag) ≡ false → ⊥) [ true ↦ λ k m. absurd (cc) | false ↦ λ k m. absurd (cc) ] e n

-- an entry whose value is set
pub record IsUnderTag (tag : ℕ) (hs : List Held) (e v : ℕ) : Type 0 where
  pub held : Held
  pub there : In held hs
  pub tag_is : held.tag ≡ tag
  pub entry_is : held.entry ≡ e
  pub value_is : first_value held.values ≡ v
  pub values_are : values_under hs tag ≡ held.values

pub found-under : (tag : ℕ) (hs : List Held) (e v : ℕ) → found_of (held_with tag hs) ≡ seek.Found e v → IsUnderTag tag hs e v
unfolding values_under held_with
found-under tag hs e v f = go (find (has tag) hs) refl f
  where
    go : (o : Option Held) → find (has tag) hs ≡ o → found_of o ≡ seek.Found e v → IsUnderTag tag hs e v
    go None w k = absurd (cc)
    go (Some h) w k = record {
      held = h;
      there = find-In (has tag) h hs w;
      tag_is = (let t = find-passes (has tag) h hs w in grind (arith, nat_tests));
      entry_is = cc;
      value_is = cc;
      values_are = ap values_by w;
    }

pub same-entry : (tag e v : ℕ) (hs : List Held) → AreSingle hs → IsUnderTag tag hs e v → (g : Held) → In g hs → is_entry e g ≡ (g.tag == tag)
same-entry tag e v hs s u g i =
    elim (g.tag == tag) as (λ b. (g.tag == tag) ≡ b → is_entry e g ≡ b) [
      | true ↦ λ t. let q : g.tag ≡ tag = grind (arith, nat_tests) in
          let same : g ≡ u.held = s.by_tag g u.held i u.there (q ∙ sym u.tag_is) in
          let r : g.entry ≡ e = ap (λ (y : Held). y.entry) same ∙ u.entry_is in grind (arith, nat_tests)
      | false ↦ λ t. elim (g.entry == e) as (λ b. (g.entry == e) ≡ b → b ≡ false) [
        | true ↦ λ w. let r : g.entry ≡ e = grind (arith, nat_tests) in
            let same : g ≡ u.held = s.by_entry g u.held i u.there (r ∙ sym u.entry_is) in
            let q : g.tag ≡ tag = ap (λ (y : Held). y.tag) same ∙ u.tag_is in absurd (grind (arith, nat_tests))
        | false ↦ λ w. refl
      ] refl
    ] refl

pick : (i w : ℕ) (a b c : Bool) (vs us : List ℕ) → (a ≡ true → b ≡ true → c ≡ true) → (b ≡ true → c ≡ true → a ≡ true)
    → cond b (cond a (slice_set vs i w) vs) (cond c (slice_set us i w) us) ≡ cond c (slice_set (cond b vs us) i w) (cond b vs us)
pick i w true true true vs us p r = refl
pick i w true true false vs us p r = let bad : false ≡ true = p refl refl in absurd (cc)
pick i w false true true vs us p r = let bad : false ≡ true = r refl refl in absurd (cc)
pick i w false true false vs us p r = refl
pick i w a false true vs us p r = refl
pick i w a false false vs us p r = refl

pub set-by : (tag e i w : ℕ) (hs : List Held) → ((g : Held) → In g hs → is_entry e g ≡ (g.tag == tag)) → (t : ℕ) → values_under (map (with_value e i w) hs) t ≡ cond (tag == t) (slice_set (values_under hs t) i w) (values_under hs t)
set-by tag e i w [] same t =
    values-none t ∙ elim (tag == t) as (λ b. [] ≡ cond b (slice_set (values_under [] t) i w) (values_under [] t)) [
      | true ↦ sym (ap (λ (vs : List ℕ). slice_set vs i w) (values-none t))
      | false ↦ sym (values-none t)
    ]
set-by tag e i w (g ∷ hs) same t =
    values-cons (with_value e i w g) (map (with_value e i w) hs) t
    ∙ ap (λ b. cond ((cond b (record g { values = slice_set g.values i w }) g).tag == t) (cond b (record g { values = slice_set g.values i w }) g).values (values_under (map (with_value e i w) hs) t)) (same g (inl refl))
    ∙ ap (λ vs. cond ((cond (g.tag == tag) (record g { values = slice_set g.values i w }) g).tag == t) (cond (g.tag == tag) (record g { values = slice_set g.values i w }) g).values vs) (set-by tag e i w hs (λ h j. same h (inr j)) t)
    ∙ opened (g.tag == tag) (cond (tag == t) (slice_set (values_under hs t) i w) (values_under hs t))
    ∙ pick i w (g.tag == tag) (g.tag == t) (tag == t) g.values (values_under hs t) (λ a b. grind (arith, nat_tests)) (λ a b. grind (arith, nat_tests))
    ∙ ap (λ vs. cond (tag == t) (slice_set vs i w) vs) (sym (values-cons g hs t))
  where
    opened : (a : Bool) (rest : List ℕ) → cond ((cond a (record g { values = slice_set g.values i w }) g).tag == t) (cond a (record g { values = slice_set g.values i w }) g).values rest
        ≡ cond (g.tag == t) (cond a (slice_set g.values i w) g.values) rest
    opened true rest = refl
    opened false rest = refl

-- a tag that goes
pub values-without : (tag : ℕ) (hs : List Held) (t : ℕ) → values_under (without_tag tag hs) t ≡ cond (tag == t) [] (values_under hs t)
unfolding without_tag
values-without tag [] t = values-none t ∙ elim (tag == t) as (λ b. [] ≡ cond b [] (values_under [] t)) [ true ↦ refl | false ↦ sym (values-none t) ]
values-without tag (g ∷ hs) t =
    elim (g.tag == tag) as (λ b. (g.tag == tag) ≡ b → values_under (cond (not b) (g ∷ filter (λ h. not (has tag h)) hs) (filter (λ h. not (has tag h)) hs)) t ≡ cond (tag == t) [] (values_under (g ∷ hs) t)) [
      | true ↦ λ k. values-without tag hs t ∙ gone k ∙ ap (cond (tag == t) []) (sym (values-cons g hs t))
      | false ↦ λ k. values-cons g (filter (λ h. not (has tag h)) hs) t ∙ ap (cond (g.tag == t) g.values) (values-without tag hs t)
          ∙ swap (g.tag == t) (tag == t) g.values [] (values_under hs t) (λ p q. clash k p q) ∙ ap (cond (tag == t) []) (sym (values-cons g hs t))
    ] refl
  where
    clash : (g.tag == tag) ≡ false → (g.tag == t) ≡ true → (tag == t) ≡ true → ⊥
    clash k p q = grind (arith, nat_tests)

    gone : (g.tag == tag) ≡ true → cond (tag == t) [] (values_under hs t) ≡ cond (tag == t) [] (cond (g.tag == t) g.values (values_under hs t))
    gone k = elim (tag == t) as (λ b. (tag == t) ≡ b → cond b [] (values_under hs t) ≡ cond b [] (cond (g.tag == t) g.values (values_under hs t))) [
      | true ↦ λ p. refl
      | false ↦ λ p. let o : (g.tag == t) ≡ false = grind (arith, nat_tests) in ap (λ b. cond b g.values (values_under hs t)) (sym o)
    ] refl

-- the tags
pub tags-set : (e i w : ℕ) (hs : List Held) → tags_of (map (with_value e i w) hs) ≡ tags_of hs
tags-set e i w [] = refl
tags-set e i w (g ∷ hs) =
    ap (λ n. n ∷ tags_of (map (with_value e i w) hs)) (elim (is_entry e g) as (λ b. (cond b (record g { values = slice_set g.values i w }) g).tag ≡ g.tag) [ true ↦ refl | false ↦ refl ])
    ∙ ap (λ ts. g.tag ∷ ts) (tags-set e i w hs)

pub tags-without : (tag : ℕ) (hs : List Held) → tags_of (without_tag tag hs) ≡ filter (λ t. not (t == tag)) (tags_of hs)
unfolding without_tag
tags-without tag [] = refl
tags-without tag (g ∷ hs) =
    elim (g.tag == tag) as (λ b. tags_of (cond (not b) (g ∷ filter (λ h. not (has tag h)) hs) (filter (λ h. not (has tag h)) hs)) ≡ cond (not b) (g.tag ∷ filter (λ t. not (t == tag)) (tags_of hs)) (filter (λ t. not (t == tag)) (tags_of hs))) [
      | true ↦ tags-without tag hs
      | false ↦ ap (λ ts. g.tag ∷ ts) (tags-without tag hs)
    ]
