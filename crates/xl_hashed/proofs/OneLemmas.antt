-- One slot under a tag: the tag is held where the slot is in use.
use Rattle.xl_hashed.proofs.Common.{◌∙◌, ◌∷◌, ◌≡◌, [], absent-values, ap, arith, ChainState, Err, false, has_tag, Held, inserted-put, IsPut, List, Ok, One, OnOk, refl, Result, slice_index, tags_of, true, values_under, word_at, ℕ}
use Rattle.xl_chain.specs.Kept.{IsInserted}
use Rattle.xl_model.specs.declared.work.Full.{Full}
use Rattle.xl_tagged.proofs.StateLemmas.{held-in}
use Rattle.xl_tagged.specs.Groups.{AreInUse}
use Rattle.xl_tagged.specs.Tagged.{AreSized}

pub put-one : (tag word : ℕ) (r : Result (Unit {0}) Full) (old new : ChainState) → OnOk r (IsInserted tag (word ∷ []) old new) → has_tag (tags_of old.held) tag ≡ false → AreSized One old.held
    → OnOk r (IsPut One tag 0 word old new)
put-one tag word (Ok u) old new ins absent sized =
    inserted-put One tag 0 word (word ∷ []) old new absent ins refl refl (λ i low other. absurd (other (omega arith))) sized
put-one tag word (Err e) old new ins absent sized = tt

-- a tag is held where its slot is in use
pub held-one : (tag : ℕ) (hs : List Held) → (word_at One (values_under hs) tag 0 ≡ 0 → ⊥) → has_tag (tags_of hs) tag ≡ true
held-one tag hs used = elim (has_tag (tags_of hs) tag) as (λ b. has_tag (tags_of hs) tag ≡ b → b ≡ true) [
  | true ↦ λ h. refl
  | false ↦ λ h. absurd (used (ap (λ (vs : List ℕ). slice_index vs 0) (absent-values hs tag h)))
] refl

-- a tag isn't held where its slot is empty, since each tag has a slot in use
pub absent-one : (tag : ℕ) (hs : List Held) → AreInUse One hs → word_at One (values_under hs) tag 0 ≡ 0 → has_tag (tags_of hs) tag ≡ false
absent-one tag hs used empty = elim (has_tag (tags_of hs) tag) as (λ b. has_tag (tags_of hs) tag ≡ b → b ≡ false) [
  | true ↦ λ h.
      let u = used tag (held-in (tags_of hs) tag h) in
      let none : u.0 ≡ 0 = (let low = u.1 in omega arith) in
      absurd (u.2 (ap (word_at One (values_under hs) tag) none ∙ empty))
  | false ↦ λ h. refl
] refl
