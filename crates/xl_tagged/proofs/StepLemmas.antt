-- What calls of chains make of slots: an entry that comes, one whose value is set, and one that goes.
use Rattle.xl_tagged.proofs.Common.{◌+◌, ◌<◌, ◌==◌, ◌||◌, ◌∙◌, ◌∷◌, ◌≡◌, ◌≤◌, [], ap, AreSingle, AreSized, arith, before, Bool, both, ChainState, cond, eq-eqb, eqb-true, false, filter, filter-In, filter-passes, find, find-only, first_value, Form, found_of, group_of, has, has_tag, Held, held_with, In, In-any, In-map, in_front_of, inl, inr, is_entry, IsPut, IsSet, IsTaken, length, length-by, length-map, length-set, List, list_any, map, nat_tests, None, not, Option, own-number, refl, slice_index, slice_set, Some, subst, suc, sym, tags-by, tags_of, true, value_in, value_of, values_by, values_under, with_tag, with_value, without_tag, word_at, word_found, ℕ}
use Rattle.xl_chain.proofs.PlaceLemmas.{set-other, set-same}
use Rattle.xl_chain.specs.Kept.{IsInserted}
use Rattle.xl_tagged.proofs.ChainLemmas.{IsUnderTag, same-entry, set-by, tags-set, tags-without, values-cons, values-front, values-none, values-without}
use Rattle.xl_tagged.proofs.StateLemmas.{tag-with, with-absent}
pub use Rattle.xl_sections.proofs.RaiseLemmas.{absent-key as not-held}

-- a tag that isn't held has no values
pub absent-values : (hs : List Held) (t : ℕ) → has_tag (tags_of hs) t ≡ false → values_under hs t ≡ []
absent-values [] t h = values-none t
absent-values (g ∷ hs) t h =
    values-cons g hs t
    ∙ elim (g.tag == t) as (λ b. (b || has_tag (tags_of hs) t) ≡ false → cond b g.values (values_under hs t) ≡ []) [
      | true ↦ λ k. absurd (cc)
      | false ↦ λ k. absent-values hs t k
    ] h

-- what a search finds of the first value
pub word-first : (tag : ℕ) (hs : List Held) → word_found (found_of (held_with tag hs)) ≡ slice_index (values_under hs tag) 0
unfolding values_under
word-first tag hs = go (held_with tag hs)
  where
    first : (vs : List ℕ) → first_value vs ≡ slice_index vs 0
    first [] = refl
    first (v ∷ vs) = refl

    go : (q : Option Held) → word_found (found_of q) ≡ slice_index (values_by q) 0
    go None = refl
    go (Some h) = first h.values

-- an entry's value is that under its tag
pub value-under : (tag e v i : ℕ) (hs : List Held) → AreSingle hs → IsUnderTag tag hs e v → value_of e i hs ≡ slice_index (values_under hs tag) i
unfolding value_of
value-under tag e v i hs s u =
    let here : find (is_entry e) hs ≡ Some u.held = find-only (is_entry e) u.held hs u.there (eq-eqb u.held.entry e u.entry_is)
    (λ g j t. s.by_entry g u.held j u.there (eqb-true g.entry e t ∙ sym u.entry_is)) in
    ap (value_in i) here ∙ ap (λ (vs : List ℕ). slice_index vs i) (sym u.values_are)

pub entry-held : (tag e v : ℕ) (hs : List Held) → IsUnderTag tag hs e v → list_any (is_entry e) hs ≡ true
entry-held tag e v hs u = In-any (is_entry e) u.held hs u.there (eq-eqb u.held.entry e u.entry_is)

pub tag-held : (tag e v : ℕ) (hs : List Held) → IsUnderTag tag hs e v → has_tag (tags_of hs) tag ≡ true
tag-held tag e v hs u = In-any (λ t. t == tag) u.held.tag (tags_of hs) (In-map (λ (h : Held). h.tag) u.held hs u.there) (eq-eqb u.held.tag tag u.tag_is)

-- an entry that comes with one slot in use
pub inserted-put : (f : Form) (tag slot word : ℕ) (vs : List ℕ) (old new : ChainState) → has_tag (tags_of old.held) tag ≡ false → IsInserted tag vs old new
    → length vs ≡ before f + group_of f → slice_index vs (before f + slot) ≡ word → ((i : ℕ) → i < group_of f → (i ≡ slot → ⊥) → slice_index vs (before f + i) ≡ 0)
    → AreSized f old.held → IsPut f tag slot word old new
inserted-put f tag slot word vs old new absent ins len here empty sized =
    let h : Held = record { entry = ins.held.0; tag = tag; values = vs } in
    let b : ℕ = old.shape.buckets in
    let hs : List Held = old.held in
    let is : new.held ≡ in_front_of b h hs = ins.held.3 in
    let values : (t : ℕ) → values_under new.held t ≡ cond (tag == t) vs (values_under hs t) = (λ t. ap (λ gs. values_under gs t) is ∙ values-front b h hs t absent) in
    let tags : tags_of new.held ≡ with_tag b tag (tags_of hs) = ap tags_of is ∙ sym (tags-by (λ (g : Held). g.tag) b h hs) ∙ sym (with-absent b tag (tags_of hs) absent) in
    record {
      written = record {
        here = ap (λ (us : List ℕ). slice_index us (before f + slot)) (values tag ∙ ap (λ c. cond c vs (values_under hs tag)) (own-number tag)) ∙ here;
        others = λ t i low other.
            elim (tag == t) as (λ c. (tag == t) ≡ c → word_at f (values_under new.held) t i ≡ word_at f (values_under hs) t i) [
              | true ↦ λ k.
                  let same : t ≡ tag = sym (eqb-true tag t k) in
                  ap (λ (us : List ℕ). slice_index us (before f + i)) (values t ∙ ap (λ c. cond c vs (values_under hs t)) k) ∙ empty i low (other same)
                  ∙ sym (ap (λ (us : List ℕ). slice_index us (before f + i)) (ap (values_under hs) same ∙ absent-values hs tag absent))
              | false ↦ λ k. ap (λ (us : List ℕ). slice_index us (before f + i)) (values t ∙ ap (λ c. cond c vs (values_under hs t)) k)
            ] refl;
      };
      tags = tags;
      rest = record {
        sized = λ t i.
            elim (tag == t) as (λ c. (tag == t) ≡ c → length (values_under new.held t) ≡ before f + group_of f) [
              | true ↦ λ k. ap (λ (us : List ℕ). length us) (values t ∙ ap (λ c. cond c vs (values_under hs t)) k) ∙ len
              | false ↦ λ k. ap (λ (us : List ℕ). length us) (values t ∙ ap (λ c. cond c vs (values_under hs t)) k)
                  ∙ sized t (elim ((tag-with b tag (tags_of hs)).split t (subst (λ ts. In t ts) tags i)) [ inl e ↦ absurd (both _ (eq-eqb tag t (sym e)) k) | inr j ↦ j ])
            ] refl;
        within = (let n : length new.held ≡ suc (length hs) = ap (λ (gs : List Held). length gs) is ∙ length-by (λ (g : Held). g.tag) b h hs in let r = ins.room in omega arith);
        shape = ins.shape;
        loads = ins.loads;
      };
    }

shorter : (tag : ℕ) (hs : List Held) → length (without_tag tag hs) ≤ length hs
unfolding without_tag
shorter tag [] = omega arith
shorter tag (g ∷ hs) =
    let on = shorter tag hs in
    elim (g.tag == tag) as (λ b. length (cond (not b) (g ∷ filter (λ h. not (has tag h)) hs) (filter (λ h. not (has tag h)) hs)) ≤ suc (length hs)) [ true ↦ omega arith | false ↦ omega arith ]

pub len-set : (b : Bool) (vs : List ℕ) (i w : ℕ) → length (cond b (slice_set vs i w) vs) ≡ length vs
len-set true vs i w = length-set vs i w
len-set false vs i w = refl

-- an entry one of whose values is set
pub values-set : (tag e v i w : ℕ) (old new : ChainState) → AreSingle old.held → IsUnderTag tag old.held e v → new.held ≡ map (with_value e i w) old.held
    → (t : ℕ) → values_under new.held t ≡ cond (tag == t) (slice_set (values_under old.held t) i w) (values_under old.held t)
values-set tag e v i w old new single u held t =
    ap (λ gs. values_under gs t) held ∙ set-by tag e i w old.held (λ g j. same-entry tag e v old.held single u g j) t

-- a slot that gets another word
pub set-slot : (f : Form) (tag slot word e v : ℕ) (old new : ChainState) → AreSingle old.held → IsUnderTag tag old.held e v → new.held ≡ map (with_value e (before f + slot) word) old.held
    → new.shape ≡ old.shape → new.loads ≡ old.loads → slot < group_of f → AreSized f old.held → length old.held ≤ old.shape.entries → IsSet f tag slot word old new
set-slot f tag slot word e v old new single u held shape loads low sized within =
    let hs : List Held = old.held in
    let values : (t : ℕ) → values_under new.held t ≡ cond (tag == t) (slice_set (values_under hs t) (before f + slot) word) (values_under hs t) = values-set tag e v (before f + slot) word old new single u held in
    let tags : tags_of new.held ≡ tags_of hs = ap tags_of held ∙ tags-set e (before f + slot) word hs in
    let there : In tag (tags_of hs) = subst (λ n. In n (tags_of hs)) u.tag_is (In-map (λ (h : Held). h.tag) u.held hs u.there) in
    let len : length (values_under hs tag) ≡ before f + group_of f = sized tag there in
    record {
      written = record {
        here = ap (λ (us : List ℕ). slice_index us (before f + slot)) (values tag ∙ ap (λ c. cond c (slice_set (values_under hs tag) (before f + slot) word) (values_under hs tag)) (own-number tag))
            ∙ set-same (values_under hs tag) (before f + slot) word (omega arith);
        others = λ t i under other.
            elim (tag == t) as (λ c. (tag == t) ≡ c → word_at f (values_under new.held) t i ≡ word_at f (values_under hs) t i) [
              | true ↦ λ k.
                  let same : t ≡ tag = sym (eqb-true tag t k) in
                  ap (λ (us : List ℕ). slice_index us (before f + i)) (values t ∙ ap (λ c. cond c (slice_set (values_under hs t) (before f + slot) word) (values_under hs t)) k)
                  ∙ set-other (values_under hs t) (before f + slot) (before f + i) word (λ e. other same (omega arith))
              | false ↦ λ k. ap (λ (us : List ℕ). slice_index us (before f + i)) (values t ∙ ap (λ c. cond c (slice_set (values_under hs t) (before f + slot) word) (values_under hs t)) k)
            ] refl;
      };
      tags = tags;
      rest = record {
        sized = λ t i. ap (λ (us : List ℕ). length us) (values t) ∙ len-set (tag == t) (values_under hs t) (before f + slot) word ∙ sized t (subst (λ ts. In t ts) tags i);
        within = (let n : length new.held ≡ length hs = ap (λ (gs : List Held). length gs) held ∙ length-map hs (with_value e (before f + slot) word) in omega arith);
        shape = shape;
        loads = loads;
      };
    }

-- a tag that goes, with the one slot in use
pub removed-taken : (f : Form) (tag slot : ℕ) (old new : ChainState) → new.held ≡ without_tag tag old.held → new.shape ≡ old.shape → new.loads ≡ old.loads
    → ((i : ℕ) → i < group_of f → (i ≡ slot → ⊥) → word_at f (values_under old.held) tag i ≡ 0) → AreSized f old.held → length old.held ≤ old.shape.entries → IsTaken f tag slot old new
removed-taken f tag slot old new held shape loads empty sized within =
    let hs : List Held = old.held in
    let values : (t : ℕ) → values_under new.held t ≡ cond (tag == t) [] (values_under hs t) = (λ t. ap (λ gs. values_under gs t) held ∙ values-without tag hs t) in
    let tags : tags_of new.held ≡ filter (λ t. not (t == tag)) (tags_of hs) = ap tags_of held ∙ tags-without tag hs in
    let gone : (i : ℕ) → word_at f (values_under new.held) tag i ≡ 0 = (λ i. ap (λ (us : List ℕ). slice_index us (before f + i)) (values tag ∙ ap (λ c. cond c [] (values_under hs tag)) (own-number tag))) in
    record {
      written = record {
        here = gone slot;
        others = λ t i low other.
            elim (tag == t) as (λ c. (tag == t) ≡ c → word_at f (values_under new.held) t i ≡ word_at f (values_under hs) t i) [
              | true ↦ λ k.
                  let same : t ≡ tag = sym (eqb-true tag t k) in
                  ap (λ n. word_at f (values_under new.held) n i) same ∙ gone i ∙ sym (ap (λ n. word_at f (values_under hs) n i) same ∙ empty i low (other same))
              | false ↦ λ k. ap (λ (us : List ℕ). slice_index us (before f + i)) (values t ∙ ap (λ c. cond c [] (values_under hs t)) k)
            ] refl;
      };
      tags = inr (record { tags = tags; unused = λ i low. gone i });
      rest = record {
        sized = λ t i.
            let j : In t (filter (λ u. not (u == tag)) (tags_of hs)) = subst (λ ts. In t ts) tags i in
            elim (tag == t) as (λ c. (tag == t) ≡ c → length (values_under new.held t) ≡ before f + group_of f) [
              | true ↦ λ k. absurd (never t (eq-eqb t tag (sym (eqb-true tag t k))) (filter-passes (λ u. not (u == tag)) t (tags_of hs) j))
              | false ↦ λ k. ap (λ (us : List ℕ). length us) (values t ∙ ap (λ c. cond c [] (values_under hs t)) k) ∙ sized t (filter-In (λ u. not (u == tag)) t (tags_of hs) j)
            ] refl;
        within = (let n : length new.held ≡ length (without_tag tag hs) = ap (λ (gs : List Held). length gs) held in let s = shorter tag hs in omega arith);
        shape = shape;
        loads = loads;
      };
    }
  where
    never : (t : ℕ) → (t == tag) ≡ true → not (t == tag) ≡ true → ⊥
    never t h k = grind (arith, nat_tests)
