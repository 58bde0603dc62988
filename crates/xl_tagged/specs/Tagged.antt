-- What values under tags keep of the leaves that they hold.
use Rattle.std.specs.Prelude.{ℕ, ◌≡◌, ◌+◌, ◌*◌, ◌%◌, ◌^◌, ◌<◌, ◌≤◌, ◌⊎◌, true, List, length}
use Rattle.xl_model.specs.declared.leaf.Leaf.{Leaf}
use Rattle.xl_model.specs.Addresses.{level_of}
use Rattle.xl_model.specs.Chains.{leaf_tag}
use Rattle.xl_model.specs.Mapping.{meets_block}
use Rattle.xl_model.specs.Words.{leaf_word}
use Rattle.xl_list_lemmas.specs.Members.{In}
use Rattle.xl_model_lemmas.specs.Sorted.{IsSorted}
use Rattle.xl_model_lemmas.specs.Sections.{IsAligned}
use Rattle.xl_chain.specs.Held.{Held, ChainState, tags_of}
use Rattle.xl_tagged.specs.Forms.{Form, group_of, before, slot_of, values_under, word_at}
use Rattle.xl_tagged.specs.Slots.{held_leaves}
use Rattle.xl_tagged.specs.Counted.{SmallerState, AreCounted}

-- a leaf that has a tag, and a leaf word that is read back
pub record IsFit (x : Leaf) : Type 0 where
  pub aligned : IsAligned x
  pub frame_in : x.frame < 2 ^ 44
  pub frame_aligned : x.frame % 2 ^ (9 * level_of x.order) ≡ 0

-- a leaf's place: its slot under its tag
pub record IsAt (f : Form) (tag i : ℕ) (x : Leaf) : Type 0 where
  pub tag_is : leaf_tag (group_of f) x ≡ tag
  pub slot_is : slot_of f x.order x.first ≡ i

-- Each leaf's word is at its place, each slot is a leaf's place or holds 0, each tag is that of a
-- leaf, and no two leaves share a page.
pub record AreHeld (f : Form) (values : ℕ → List ℕ) (tags : List ℕ) (leaves : List Leaf) : Type 0 where
  pub sorted : IsSorted leaves
  pub fit : (x : Leaf) → In x leaves → IsFit x
  pub word : (x : Leaf) → In x leaves → word_at f values (leaf_tag (group_of f) x) (slot_of f x.order x.first) ≡ leaf_word x.frame x.perm
  pub tagged : (x : Leaf) → In x leaves → In (leaf_tag (group_of f) x) tags
  pub slot : (tag i : ℕ) → i < group_of f → (word_at f values tag i ≡ 0) ⊎ ((x : Leaf) × In x leaves × IsAt f tag i x)
  pub used : (tag : ℕ) → In tag tags → (x : Leaf) × In x leaves × (leaf_tag (group_of f) x ≡ tag)
  pub apart : (x y : Leaf) → In x leaves → In y leaves → meets_block x.space x.first x.order y ≡ true → x ≡ y

-- each entry has its slots, and the values before them
abbrev pub AreSized : Form → List Held → Type 0
AreSized f hs = (tag : ℕ) → In tag (tags_of hs) → length (values_under hs tag) ≡ before f + group_of f

-- A table of chains as a whole: what they hold, and the counts of its leaves by section.
pub record IsTagged (f : Form) (c : ChainState) (s : SmallerState) : Type 0 where
  pub held : AreHeld f (values_under c.held) (tags_of c.held) (held_leaves f c)
  pub sized : AreSized f c.held
  pub within : length c.held ≤ c.shape.entries
  pub few : c.shape.entries ≤ 2 ^ 20
  pub counted : AreCounted (held_leaves f c) c.shape.entries s
