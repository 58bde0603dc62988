-- What a table's grouping asks of its chains, and what it makes of them: changes of one slot.
use Rattle.std.specs.Prelude.{ℕ, ◌≡◌, ◌<◌, ◌≤◌, false, List, [], length}
use Rattle.xl_model.specs.declared.address.Order.{Order}
use Rattle.xl_model.specs.declared.leaf.Leaf.{Leaf}
use Rattle.xl_model.specs.declared.perm.Perm.{Perm}
use Rattle.xl_model.specs.Chains.{tag_of, leaf_tag, has_tag}
use Rattle.xl_model.specs.Words.{leaf_word}
use Rattle.xl_list_lemmas.specs.Members.{In}
use Rattle.xl_chain.specs.Held.{Held, ChainState, tags_of}
use Rattle.xl_tagged.specs.Forms.{Form, group_of, slot_of, values_under, word_at}
use Rattle.xl_tagged.specs.Counted.{SmallerState}
use Rattle.xl_tagged.specs.Steps.{IsPut, IsSet, IsTaken, given_word}
use Rattle.xl_tagged.specs.Tagged.{AreSized, IsTagged}

-- a table of chains as a whole, with what its grouping keeps in them beside leaf words
pub record IsWhole
    (f : Form) (keeps : List Held → Type 0) (c : ChainState) (s : SmallerState) : Type 0 where
  pub tagged : IsTagged f c s
  pub kept : keeps c.held

-- each tag that is held has a slot in use
abbrev pub AreInUse : Form → List Held → Type 0
AreInUse f hs =
    (tag : ℕ) → In tag (tags_of hs)
    → (i : ℕ) × (i < group_of f) × (word_at f (values_under hs) tag i ≡ 0 → ⊥)

-- What every change finds: entries of their size, no more than there is room for, none without a
-- slot in use, and what the grouping keeps.
pub record IsReady (f : Form) (keeps : List Held → Type 0) (c : ChainState) : Type 0 where
  pub sized : AreSized f c.held
  pub within : length c.held ≤ c.shape.entries
  pub used : AreInUse f c.held
  pub kept : keeps c.held

-- chains that hold nothing, in `many` buckets and with room for `most` tags
pub record IsOpened (keeps : List Held → Type 0) (many most : ℕ) (c : ChainState) : Type 0 where
  pub held : c.held ≡ []
  pub buckets : c.shape.buckets ≡ many
  pub entries : c.shape.entries ≡ most
  pub loads : c.loads ≡ 0
  pub kept : keeps c.held

-- the word in the slot of a page of this order
abbrev pub word_for : Form → ChainState → ℕ → Order → ℕ → ℕ
word_for f c space o page =
    word_at f (values_under c.held) (tag_of (group_of f) space o page) (slot_of f o page)

-- a leaf's word is put into the slot of its page
abbrev pub IsLeafPut : Form → Leaf → ChainState → ChainState → Type 0
IsLeafPut f x old new =
    IsPut f (leaf_tag (group_of f) x) (slot_of f x.order x.first) (leaf_word x.frame x.perm) old new

-- the slot of a page of this order is emptied
abbrev pub IsPageTaken : Form → ℕ → Order → ℕ → ChainState → ChainState → Type 0
IsPageTaken f space o page old new =
    IsTaken f (tag_of (group_of f) space o page) (slot_of f o page) old new

-- the leaf in the slot of a page of this order gets another permission
abbrev pub IsPageGiven : Form → ℕ → Order → ℕ → Perm → ChainState → ChainState → Type 0
IsPageGiven f space o page perm old new =
    IsSet f (tag_of (group_of f) space o page) (slot_of f o page)
    (given_word perm (word_for f old space o page)) old new

-- there is no room for a tag that isn't held
pub record IsFull (tag : ℕ) (c : ChainState) : Type 0 where
  pub absent : has_tag (tags_of c.held) tag ≡ false
  pub full : length c.held ≡ c.shape.entries
