-- A leaf that is another in all its parts, and the item that keeps one.
use Rattle.std.specs.Prelude.{ℕ, ◌/◌, ◌==◌, Bool, ◌&&◌}
use Rattle.xl_model.specs.declared.leaf.Leaf.{Leaf}
use Rattle.xl_model.specs.declared.perm.Perm.{Perm}
use Rattle.xl_model.specs.LeafWords.{perm_at}
use Rattle.xl_model.specs.Ranges.{same_perm}
use Rattle.xl_recency.specs.declared.item.Item.{Item}
use Rattle.xl_array.specs.Arrays.{is_same}

-- The leaf that is this one in all its parts.
abbrev pub is_equal : Leaf → Leaf → Bool
is_equal old leaf = is_same old leaf && ((leaf.frame == old.frame) && same_perm leaf.perm old.perm)

-- The item has this tag, frame and permission.
abbrev pub keeps_leaf : ℕ → ℕ → Perm → Item → Bool
keeps_leaf tag frame perm i = (i.tag == tag) && ((i.word / 16 == frame) && same_perm (perm_at i.word) perm)
