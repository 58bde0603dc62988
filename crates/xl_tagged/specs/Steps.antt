-- What a change of one slot makes of chains.
use Rattle.std.specs.Prelude.{ℕ, ◌≡◌, ◌/◌, ◌%◌, ◌^◌, ◌<◌, ◌≤◌, ◌⊎◌, ◌==◌, not, List, length, filter}
use Rattle.xl_model.specs.declared.perm.Perm.{Perm}
use Rattle.xl_model.specs.Words.{leaf_word}
use Rattle.xl_model.specs.Chains.{with_tag}
use Rattle.xl_chain.specs.declared.shape.Seek.{Seek}
use Rattle.xl_chain.specs.declared.shape.Seek.TheVariants as seek
use Rattle.xl_chain.specs.Held.{ChainState, tags_of}
use Rattle.xl_tagged.specs.Forms.{Form, group_of, values_under, word_at}
use Rattle.xl_tagged.specs.Tagged.{AreSized}

-- the word of the frame that a leaf's word names, with this permission
abbrev pub given_word : Perm → ℕ → ℕ
given_word perm word = leaf_word (word / 1024 % 2 ^ 44) perm

-- value 0 of the entry that a search found, 0 where it found none
abbrev pub word_found : Seek → ℕ
word_found (seek.Found e value) = value
word_found seek.Absent = 0
word_found seek.OutOfBus = 0
word_found seek.TooLong = 0

-- one slot has this word, and all others stay
pub record IsWritten (f : Form) (old new : ℕ → List ℕ) (tag slot word : ℕ) : Type 0 where
  pub here : word_at f new tag slot ≡ word
  pub others : (t i : ℕ) → i < group_of f → (t ≡ tag → i ≡ slot → ⊥) → word_at f new t i ≡ word_at f old t i

-- what no change of a slot touches
pub record IsSameTable (f : Form) (old new : ChainState) : Type 0 where
  pub sized : AreSized f new.held
  pub within : length new.held ≤ old.shape.entries
  pub shape : new.shape ≡ old.shape
  pub loads : new.loads ≡ old.loads

-- a word is put into a slot, and its tag comes where it isn't held
pub record IsPut (f : Form) (tag slot word : ℕ) (old new : ChainState) : Type 0 where
  pub written : IsWritten f (values_under old.held) (values_under new.held) tag slot word
  pub tags : tags_of new.held ≡ with_tag old.shape.buckets tag (tags_of old.held)
  pub rest : IsSameTable f old new

-- a slot gets another word
pub record IsSet (f : Form) (tag slot word : ℕ) (old new : ChainState) : Type 0 where
  pub written : IsWritten f (values_under old.held) (values_under new.held) tag slot word
  pub tags : tags_of new.held ≡ tags_of old.held
  pub rest : IsSameTable f old new

-- a tag stays, since another slot under it is in use
pub record IsStaying (f : Form) (tag : ℕ) (old new : ChainState) : Type 0 where
  pub tags : tags_of new.held ≡ tags_of old.held
  pub slot : ℕ
  pub slot_in : slot < group_of f
  pub used : word_at f (values_under new.held) tag slot ≡ 0 → ⊥

-- a tag goes, since no slot under it is in use
pub record IsGoing (f : Form) (tag : ℕ) (old new : ChainState) : Type 0 where
  pub tags : tags_of new.held ≡ filter (λ t. not (t == tag)) (tags_of old.held)
  pub unused : (i : ℕ) → i < group_of f → word_at f (values_under new.held) tag i ≡ 0

-- a slot is emptied, and a tag goes that is used no longer
pub record IsTaken (f : Form) (tag slot : ℕ) (old new : ChainState) : Type 0 where
  pub written : IsWritten f (values_under old.held) (values_under new.held) tag slot 0
  pub tags : IsStaying f tag old new ⊎ IsGoing f tag old new
  pub rest : IsSameTable f old new
