-- The two forms in which chains hold leaves under tags, and what is under a tag.
use Rattle.std.specs.Prelude.{ℕ, ◌+◌, ◌/◌, ◌%◌, ◌^◌, List, [], slice_index, Option, None, Some}
use Rattle.xl_model.specs.declared.address.Order.{Order}
use Rattle.xl_model.specs.Addresses.{pages_of}
use Rattle.xl_chain.specs.Held.{Held, held_with}

-- A hashed table has one leaf under a tag. A clustered one has sixteen slots under a tag, and their
-- number in use before them.
pub data Form : Type 0 where
  One : Form
  Sixteen : Form

-- the slots under a tag
abbrev pub group_of : Form → ℕ
group_of One = 1
group_of Sixteen = 16

-- the most tags that chains of a form have room for
abbrev pub most_tags : Form → ℕ
most_tags One = 2 ^ 20
most_tags Sixteen = 2 ^ 17

-- the values of an entry before its slots
abbrev pub before : Form → ℕ
before One = 0
before Sixteen = 1

-- the slot, under its tag, of a page of this order
abbrev pub slot_of : Form → Order → ℕ → ℕ
slot_of f o page = page / pages_of o % group_of f

-- the values of an entry, where there is one
abbrev pub values_by : Option Held → List ℕ
values_by None = []
values_by (Some h) = h.values

-- the values under a tag; none where the tag isn't held
unfoldable pub values_under : List Held → ℕ → List ℕ
values_under hs tag = values_by (held_with tag hs)

-- the word in a slot under a tag; 0 where the tag isn't held
abbrev pub word_at : Form → (ℕ → List ℕ) → ℕ → ℕ → ℕ
word_at f values tag i = slice_index (values tag) (before f + i)
