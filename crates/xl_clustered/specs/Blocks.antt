-- Blocks: the entry of a tag has the number of its slots in use, and then sixteen slots.
use Rattle.std.specs.Prelude.{ℕ, zero, suc, ◌≡◌, ◌+◌, ◌<◌, ◌==◌, not, List, length, slice_index, map}
use Rattle.xl_model.specs.Base.{one_if}
use Rattle.xl_list_lemmas.specs.Members.{In}
use Rattle.xl_chain.specs.Held.{Held, tags_of, with_value}
use Rattle.xl_tagged.specs.Forms.{values_under}

-- how many of the first n slots are in use
unfoldable pub used_in : (ℕ → ℕ) → ℕ → ℕ
used_in word zero = 0
used_in word (suc n) = one_if (not (word n == 0)) + used_in word n

-- the number of slots in use, and the slots
pub record IsCountedBlock (values : List ℕ) : Type 0 where
  pub count : slice_index values 0 ≡ used_in (λ i. slice_index values (1 + i)) 16

-- each block has its number of slots in use
abbrev pub AreBlocks : List Held → Type 0
AreBlocks hs = (tag : ℕ) → In tag (tags_of hs) → IsCountedBlock (values_under hs tag)

-- a block with one slot in use
pub record IsNewBlock (slot word : ℕ) (values : List ℕ) : Type 0 where
  pub size : length values ≡ 17
  pub count : slice_index values 0 ≡ 1
  pub here : slice_index values (1 + slot) ≡ word
  pub others : (i : ℕ) → i < 16 → (i ≡ slot → ⊥) → slice_index values (1 + i) ≡ 0

-- the entries with another number, and another word in a slot, for one of them
abbrev pub rewritten : ℕ → ℕ → ℕ → ℕ → List Held → List Held
rewritten entry used slot word hs = map (with_value entry (slot + 1) word) (map (with_value entry 0 used) hs)
