-- The places in an index, as it and the chains change.
use Rattle.xl_chain.proofs.Common.{◌+◌, ◌<◌, ◌==◌, ◌∙◌, ◌∷◌, ◌≡◌, [], ap, AreSingle, arith, bucket_of, ChainState, cond, entry_of, false, find, find-In, find-passes, first_value, found_of, has, has_tag, Held, held_with, In, in_front_of, inl, inr, is_some, IsFirst, IsIndex, IsInserted, IsTaken, known, length, length-by, List, map, moved, nat_lt, nat_tests, None, not, Option, place_at, place_found, placed, refl, set_place, slice_set, Some, sym, tag_led, tags_of, true, unequal, with_value, without_tag, WordsReadBack, ℕ}
use Rattle.xl_chain.proofs.FindLemmas.{has_found}
use Rattle.xl_chain.proofs.FrontLemmas.{absent}
use Rattle.xl_chain.proofs.MovedLemmas.{moved-same, placed-same}
use Rattle.xl_chain.specs.declared.shape.Seek.TheVariants as seek

-- what is found of a tag, after a change of what is held
with-front : (n t : ℕ) (x : Held) (hs : List Held) → ((h : Held) → In h hs → h.tag ≡ x.tag → ⊥) → held_with t (in_front_of n x hs) ≡ cond (x.tag == t) (Some x) (held_with t hs)
unfolding held_with
with-front n t x [] fresh = refl
with-front n t x (y ∷ hs) fresh =
    elim (nat_lt (bucket_of n y.tag) (bucket_of n x.tag)) as (λ b. find (has t) (cond b (y ∷ in_front_of n x hs) (x ∷ y ∷ hs)) ≡ cond (x.tag == t) (Some x) (cond (y.tag == t) (Some y) (find (has t) hs))) [
      | true ↦ elim (y.tag == t) as (λ b. (y.tag == t) ≡ b → cond b (Some y) (find (has t) (in_front_of n x hs)) ≡ cond (x.tag == t) (Some x) (cond b (Some y) (find (has t) hs))) [
        | true ↦ λ b. let is : y.tag ≡ t = grind (arith, nat_tests) in
            ap (λ c. cond c (Some x) (Some y)) (sym (unequal x.tag t (λ z. fresh y (inl refl) (is ∙ sym z))))
        | false ↦ λ b. with-front n t x hs (λ h i. fresh h (inr i))
      ] refl
      | false ↦ refl
    ]

with-less : (tag t : ℕ) (hs : List Held) → held_with t (without_tag tag hs) ≡ cond (tag == t) None (held_with t hs)
unfolding held_with without_tag
with-less tag t [] = elim (tag == t) as (λ b. ◌≡◌ {A = Option Held} None (cond b None None)) [ true ↦ refl | false ↦ refl ]
with-less tag t (y ∷ hs) =
    let rest : find (has t) (without_tag tag hs) ≡ cond (tag == t) None (find (has t) hs) = with-less tag t hs in
    elim (y.tag == tag) as (λ b. (y.tag == tag) ≡ b → find (has t) (cond (not b) (y ∷ without_tag tag hs) (without_tag tag hs)) ≡ cond (tag == t) None (cond (y.tag == t) (Some y) (find (has t) hs))) [
      | true ↦ λ b. let is : y.tag ≡ tag = grind (arith, nat_tests) in
          rest ∙ elim (tag == t) as (λ c. (tag == t) ≡ c → cond c None (find (has t) hs) ≡ cond c None (cond (y.tag == t) (Some y) (find (has t) hs))) [
            | true ↦ λ c. refl
            | false ↦ λ c. ap (λ d. cond d (Some y) (find (has t) hs)) (sym (unequal y.tag t (λ z. let h : tag ≡ t = sym is ∙ z in grind (arith, nat_tests))))
          ] refl
      | false ↦ λ b. elim (y.tag == t) as (λ c. (y.tag == t) ≡ c → cond c (Some y) (find (has t) (without_tag tag hs)) ≡ cond (tag == t) None (cond c (Some y) (find (has t) hs))) [
        | true ↦ λ c. let is : y.tag ≡ t = grind (arith, nat_tests) in
            ap (λ d. cond d None (Some y)) (sym (unequal tag t (λ z. let h : y.tag ≡ tag = is ∙ sym z in grind (arith, nat_tests))))
        | false ↦ λ c. rest
      ] refl
    ] refl

-- what is found, with value i of an entry set
abbrev set_in : ℕ → ℕ → ℕ → Option Held → Option Held
set_in e i v None = None
set_in e i v (Some h) = Some (with_value e i v h)

with-set : (e i v t : ℕ) (hs : List Held) → held_with t (map (with_value e i v) hs) ≡ set_in e i v (held_with t hs)
unfolding held_with
with-set e i v t [] = refl
with-set e i v t (y ∷ hs) =
    let tag : (with_value e i v y).tag ≡ y.tag = (elim (y.entry == e) as (λ b. (cond b (record y { values = slice_set y.values i v }) y).tag ≡ y.tag) [ true ↦ refl | false ↦ refl ]) in
    ap (λ k. cond (k == t) (Some (with_value e i v y)) (find (has t) (map (with_value e i v) hs))) tag
    ∙ elim (y.tag == t) as (λ b. cond b (Some (with_value e i v y)) (find (has t) (map (with_value e i v) hs)) ≡ set_in e i v (cond b (Some y) (find (has t) hs))) [
      | true ↦ refl
      | false ↦ with-set e i v t hs
    ]

-- whether the index has a place for a tag
same-some : (o : Option Held) → is_some (place_found (found_of o)) ≡ is_some (entry_of o)
same-some None = refl
same-some (Some h) = refl

pub known-held : (c : ChainState) (t : ℕ) → is_some (known c t) ≡ has_tag (tags_of c.held) t
known-held c t = same-some (held_with t c.held) ∙ has_found t c.held

pub moved-some : (x : Option ℕ) (p t : ℕ) (f : ℕ → Option ℕ) → is_some (moved x p f t) ≡ is_some (f t)
moved-some None p t f = refl
moved-some (Some x) p t f =
    elim (x == t) as (λ b. is_some (cond b (set_place p (f t)) (f t)) ≡ is_some (f t)) [
      | true ↦ elim (f t) as (λ o. is_some (set_place p o) ≡ is_some o) [ None ↦ refl | Some q ↦ refl ]
      | false ↦ refl
    ]

pub none-found : (t : ℕ) (hs : List Held) → has_tag (tags_of hs) t ≡ false → found_of (held_with t hs) ≡ seek.Absent
none-found t hs none =
    elim (held_with t hs) as (λ o. held_with t hs ≡ o → found_of o ≡ seek.Absent) [
      | None ↦ λ k. refl
      | Some h ↦ λ k. let some : true ≡ false = sym (ap (λ o. is_some (entry_of o)) k) ∙ has_found t hs ∙ none in absurd (cc)
    ] refl

-- what a search found is held, in this entry
pub found-entry : (t e v : ℕ) (hs : List Held) → found_of (held_with t hs) ≡ seek.Found e v → (h : Held) × In h hs × (h.tag ≡ t) × (h.entry ≡ e)
unfolding held_with
found-entry t e v hs k =
    elim (find (has t) hs) as (λ o. find (has t) hs ≡ o → found_of o ≡ seek.Found e v → (h : Held) × In h hs × (h.tag ≡ t) × (h.entry ≡ e)) [
      | None ↦ λ f l. absurd (cc)
      | Some h ↦ λ f l. let p : (h.tag == t) ≡ true = find-passes (has t) h hs f in (h, find-In (has t) h hs f, grind (arith, nat_tests), cc)
    ] refl k

-- a place written anew
pub known-set : (c : ChainState) (tag e v p t : ℕ) → WordsReadBack c → AreSingle c.held → found_of (held_with tag c.held) ≡ seek.Found e v
    → place_found (found_of (held_with t (map (with_value e 0 p) c.held))) ≡ moved (Some tag) p (known c) t
unfolding held_with
known-set c tag e v p t words single found =
    let here = found-entry tag e v c.held found in
    ap (λ o. place_found (found_of o)) (with-set e 0 p t c.held)
    ∙ elim (find (has t) c.held) as (λ o. find (has t) c.held ≡ o → place_found (found_of (set_in e 0 p o)) ≡ cond (tag == t) (set_place p (place_found (found_of o))) (place_found (found_of o))) [
      | None ↦ λ k. elim (tag == t) as (λ b. ◌≡◌ {A = Option ℕ} None (cond b None None)) [ true ↦ refl | false ↦ refl ]
      | Some h ↦ λ k.
          let i : In h c.held = find-In (has t) h c.held k in
          let q : (h.tag == t) ≡ true = find-passes (has t) h c.held k in
          let is : h.tag ≡ t = grind (arith, nat_tests) in
          elim (tag == t) as (λ b. (tag == t) ≡ b → Some (first_value (with_value e 0 p h).values) ≡ cond b (Some p) (Some (first_value h.values))) [
            | true ↦ λ b.
                let same : h ≡ here.0 = single.by_tag h here.0 i here.1 (let u : tag ≡ t = grind (arith, nat_tests) in is ∙ sym u ∙ sym here.2) in
                let entry : h.entry ≡ e = ap (λ (x : Held). x.entry) same ∙ here.3 in
                let d : (h.entry == e) ≡ true = grind (arith, nat_tests) in
                ap (λ x. Some (first_value (cond x (record h { values = slice_set h.values 0 p }) h).values)) d
                ∙ ap Some (first-set h.values p (let n = (words.lines h i).count in omega arith))
            | false ↦ λ b.
                let d : (h.entry == e) ≡ false = unequal h.entry e (λ z.
                let same : h ≡ here.0 = single.by_entry h here.0 i here.1 (z ∙ sym here.3) in
                let u : tag ≡ t = sym here.2 ∙ sym (ap (λ (x : Held). x.tag) same) ∙ is in grind (arith, nat_tests)) in
                ap (λ x. Some (first_value (cond x (record h { values = slice_set h.values 0 p }) h).values)) d
          ] refl
    ] refl
  where
    first-set : (vs : List ℕ) (p : ℕ) → 0 < length vs → first_value (slice_set vs 0 p) ≡ p
    first-set [] p some = absurd (omega arith)
    first-set (v ∷ vs) p some = refl

-- the index after a removal: it has the place of the entry after, and the tag no more
pub index-less : (c d i j k : ChainState) (tag p : ℕ) → IsIndex c i → IsTaken tag p c d → length d.held + 1 ≡ length c.held → d.shape ≡ c.shape
    → ((t : ℕ) → known j t ≡ moved (tag_led d p) p (known i) t) → length j.held ≡ length i.held → j.shape ≡ i.shape
    → k.held ≡ without_tag tag j.held → length k.held + 1 ≡ length j.held → k.shape ≡ j.shape → IsIndex d k
index-less c d i j k tag p index taken fewer shape says count-j shape-j less count-k shape-k = record {
  each = λ t.
      ap (λ hs. place_found (found_of (held_with t hs))) less ∙ ap (λ o. place_found (found_of o)) (with-less tag t j.held)
      ∙ elim (tag == t) as (λ b. place_found (found_of (cond b None (held_with t j.held))) ≡ cond b None (known j t)) [ true ↦ refl | false ↦ refl ]
      ∙ placed-same tag t None (known j) (moved (tag_led d p) p (place_at c)) (says t ∙ moved-same (tag_led d p) p t (known i) (place_at c) (index.each t))
      ∙ sym (taken.places t);
  count = (let n = index.count in omega arith);
  room = ap (λ s. s.entries) (shape-k ∙ shape-j) ∙ index.room ∙ sym (ap (λ s. s.entries) shape);
}

-- the index after an insertion: it has the new place of the entry that was in front, and the new
-- tag
pub index-more : (c d i j k : ChainState) (tag n head : ℕ) (values : List ℕ) → IsIndex c i → IsInserted tag values c d → IsFirst tag n c d → head ≡ bucket_of c.shape.buckets tag
    → ((t : ℕ) → known j t ≡ moved (tag_led c head) n (known i) t) → length j.held ≡ length i.held → j.shape ≡ i.shape
    → has_tag (tags_of j.held) tag ≡ false → IsInserted tag (head ∷ []) j k → IsIndex d k
index-more c d i j k tag n head values index inserted first is says count-j shape-j none more =
    let x : Held = record { entry = more.held.0; tag = tag; values = head ∷ [] } in
    let y : Held = record { entry = inserted.held.0; tag = tag; values = values } in
    record {
      each = λ t.
          ap (λ hs. place_found (found_of (held_with t hs))) more.held.3
          ∙ ap (λ o. place_found (found_of o)) (with-front j.shape.buckets t x j.held (λ h l e. absent tag j.held h none l e))
          ∙ elim (tag == t) as (λ b. place_found (found_of (cond b (Some x) (held_with t j.held))) ≡ cond b (Some head) (known j t)) [ true ↦ refl | false ↦ refl ]
          ∙ placed-same tag t (Some head) (known j) (moved (tag_led c head) n (place_at c)) (says t ∙ moved-same (tag_led c head) n t (known i) (place_at c) (index.each t))
          ∙ ap (λ b. placed tag (Some b) (moved (tag_led c b) n (place_at c)) t) is
          ∙ sym (first t);
      count = (let m = index.count in
          let a = ap (λ (hs : List Held). length hs) more.held.3 in let b = length-by (λ (h : Held). h.tag) j.shape.buckets x j.held in
          let e = ap (λ (hs : List Held). length hs) inserted.held.3 in let f = length-by (λ (h : Held). h.tag) c.shape.buckets y c.held in
          omega arith);
      room = ap (λ s. s.entries) (more.shape ∙ shape-j) ∙ index.room ∙ sym (ap (λ s. s.entries) inserted.shape);
    }

-- an index of nothing, where nothing is held
pub index-none : (c i : ChainState) → c.held ≡ [] → i.held ≡ [] → i.shape.entries ≡ c.shape.entries → ((t : ℕ) → is_some (place_at c t) ≡ has_tag (tags_of c.held) t) → IsIndex c i
unfolding held_with
index-none c i none empty room places = record {
  each = λ t. ap (λ hs. place_found (found_of (find (has t) hs))) empty ∙ sym (no-place (place_at c t) (places t ∙ ap (λ hs. has_tag (tags_of hs) t) none));
  count = ap (λ (hs : List Held). length hs) (empty ∙ sym none);
  room = room;
}
  where
    no-place : (o : Option ℕ) → is_some o ≡ false → o ≡ None
    no-place None h = refl
    no-place (Some p) h = absurd (cc)

-- a tag whose place changed is held in the index as it is in the chains
pub still-held : (c i j : ChainState) (x : Option ℕ) (p tag : ℕ) → IsIndex c i → ((t : ℕ) → is_some (place_at c t) ≡ has_tag (tags_of c.held) t)
    → ((t : ℕ) → known j t ≡ moved x p (known i) t) → has_tag (tags_of j.held) tag ≡ has_tag (tags_of c.held) tag
still-held c i j x p tag index places says =
    sym (known-held j tag) ∙ ap is_some (says tag) ∙ moved-some x p tag (known i) ∙ ap is_some (index.each tag) ∙ places tag
