-- Whether a table has room for a change: for a leaf at a new place, and in a table of ranges for the
-- ranges that the change leaves too.
use Rattle.std.specs.Prelude.{Bool, true, ◌&&◌, nat_le, List, length, Option, None, Some}
use Rattle.xl_model.specs.declared.address.Order.TheVariants as order
use Rattle.xl_model.specs.declared.leaf.Leaf.{Leaf}
use Rattle.xl_model.specs.Changes.{Change, changed, with_both}
use Rattle.xl_model.specs.Nodes.{leaf_nodes_missing, free_count}
use Rattle.xl_model.specs.Chains.{leaf_tag, with_tag}
use Rattle.xl_model.specs.Sections.{section_count}
use Rattle.xl_model.specs.Ranges.{ranges_of}
use Rattle.xl_model.specs.Shapes.{Shape, Radix, Chained, Cuckoo, Runs, brought}

-- A table has room for the leaf that a change brings, and for what the change leaves.
abbrev pub room_for : Option Leaf → Change → List Leaf → Shape → Bool
-- the nodes that the leaf lacks are at most the free ones
room_for (Some leaf) c leaves (Radix levels spaces nodes) = nat_le (leaf_nodes_missing levels leaf nodes) (free_count nodes)
-- the leaves or blocks, the new one among them, are at most the entries
room_for (Some leaf) c leaves (Chained group buckets entries tags) = nat_le (length (with_tag buckets (leaf_tag group leaf) tags)) entries
-- the sections, with the old leaf still there, are at most those of the walk tables
room_for (Some leaf) c leaves (Cuckoo rules ways) =
    nat_le (section_count order.M2 (with_both c leaves)) rules.sections_2m
    && nat_le (section_count order.G1 (with_both c leaves)) rules.sections_1g
-- the ranges with both leaves, and those after the change, are at most the nodes
room_for (Some leaf) c leaves (Runs ranges) =
    nat_le (length (ranges_of (with_both c leaves))) ranges && nat_le (length (ranges_of (changed c leaves))) ranges
room_for None c leaves (Runs ranges) = nat_le (length (ranges_of (changed c leaves))) ranges
room_for None c leaves (Radix levels spaces nodes) = true
room_for None c leaves (Chained group buckets entries tags) = true
room_for None c leaves (Cuckoo rules ways) = true

-- A table has room for a change.
unfoldable pub has_room : Change → List Leaf → Shape → Bool
has_room c leaves shape = room_for (brought c leaves) c leaves shape
