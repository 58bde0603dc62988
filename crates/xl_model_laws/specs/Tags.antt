-- The tags of a hashed or clustered table.
use Rattle.std.specs.Prelude.{ℕ, List, ◌∷◌}
use Rattle.xl_model.specs.declared.leaf.Leaf.{Leaf}
use Rattle.xl_model.specs.declared.script.Item.{Item}
use Rattle.xl_model.specs.Chains.{leaf_tag, with_tag}
use Rattle.xl_model.specs.Shapes.{Shape, Radix, Chained, Cuckoo, Runs}
use Rattle.xl_model.specs.Rows.{Row}
use Rattle.xl_model.specs.Items.{run}
use Rattle.xl_list_lemmas.specs.Members.{In, Once}
use Rattle.std.specs.Prelude.{◌≡◌}

-- the tags are exactly those of the leaves, and each occurs once
pub record AreTagsOf (group : ℕ) (leaves : List Leaf) (tags : List ℕ) : Type 0 where
  pub once : Once tags
  pub there : (leaf : Leaf) → In leaf leaves → In (leaf_tag group leaf) tags
  pub only : (tag : ℕ) → In tag tags → (leaf : Leaf) × In leaf leaves × (tag ≡ leaf_tag group leaf)

-- a table of chains has exactly the tags of the leaves
abbrev pub HasTags : List Leaf → Shape → Type 0
HasTags leaves (Radix levels spaces nodes) = Unit {0}
HasTags leaves (Chained group buckets entries tags) = AreTagsOf group leaves tags
HasTags leaves (Cuckoo rules ways) = Unit {0}
HasTags leaves (Runs ranges) = Unit {0}

-- After every list of items the tags of a hashed or clustered table are exactly those of its
-- leaves.
abbrev pub TheTagsAreTheLeaves : Type 0
TheTagsAreTheLeaves =
    (row : Row) (items : List Item)
    → HasTags (run row items).table.leaves (run row items).table.shape

-- the tags that room for a leaf counts are those of the leaves with it
abbrev pub HasTagsWith : Leaf → List Leaf → Shape → Type 0
HasTagsWith leaf leaves (Radix levels spaces nodes) = Unit {0}
HasTagsWith leaf leaves (Chained group buckets entries tags) =
    AreTagsOf group (leaf ∷ leaves) (with_tag buckets (leaf_tag group leaf) tags)
HasTagsWith leaf leaves (Cuckoo rules ways) = Unit {0}
HasTagsWith leaf leaves (Runs ranges) = Unit {0}

-- After every list of items the tags that room for a leaf counts in a hashed or clustered table are
-- those of its leaves and of the new one, each once: the leaves of a hashed table, the blocks of a
-- clustered one.
abbrev pub RoomIsForAllTags : Type 0
RoomIsForAllTags =
    (row : Row) (items : List Item) (leaf : Leaf)
    → HasTagsWith leaf (run row items).table.leaves (run row items).table.shape
