-- Rows whose curves were worked out by two other programs, and what they are served.
use Rattle.std.specs.Prelude.{ℕ, true, false, List, [], ◌∷◌, map, codes}
use Rattle.std.proofs.Common.{refl}
use Rattle.xl_model.specs.declared.address.Mode.TheVariants as mode
use Rattle.xl_model.specs.declared.address.Order.TheVariants as order
use Rattle.xl_model.specs.declared.address.Kind.TheVariants as kind
use Rattle.xl_model.specs.declared.event.Event.TheVariants as event
use Rattle.xl_model.specs.declared.leaf.Leaf.{Leaf}
use Rattle.xl_model.specs.declared.event.Scope.TheVariants as scope
use Rattle.xl_model.specs.declared.perm.Perm.{Perm}
use Rattle.xl_model.specs.declared.row.Purge.TheVariants as purge
use Rattle.xl_model.specs.declared.row.Table.TheVariants as table
use Rattle.xl_model.specs.declared.script.Item.{Item}
use Rattle.xl_model.specs.declared.script.Item.TheVariants.{Command, Declared, Referenced}
use Rattle.xl_curve_model.specs.Curves.{HitCurve, hits_of}
use Rattle.xl_model.specs.Rows.{Row}

-- Sv39, 64 frames, two spaces, a radix table of 64 frames without caches, and no TLB
abbrev pub plain_row : Row
plain_row = record {
  name = codes "a";
  mode = mode.Sv39;
  frames = 64;
  spaces = 2;
  purge = purge.Page;
  table = table.Radix 64 (0 ∷ 0 ∷ 0 ∷ 0 ∷ []);
  tlb = [];
}

-- Read, for the supervisor alone.
abbrev pub perm_r___ : Perm
perm_r___ = record { r = true; w = false; x = false; u = false; legal = refl }

-- Read.
abbrev pub perm_r__u : Perm
perm_r__u = record { r = true; w = false; x = false; u = true; legal = refl }

-- Read and write.
abbrev pub perm_rw_u : Perm
perm_rw_u = record { r = true; w = true; x = false; u = true; legal = refl }

-- The figures of a curve: the look-ups, then the hits of each width.
abbrev pub figures : HitCurve → List ℕ
figures c = c.lookups ∷ map hits_of c.points

-- Three pages, twice over: below width 3 each has left before it comes again.
abbrev pub three_pages_twice_row : Row
three_pages_twice_row = plain_row

-- What is served then.
abbrev pub three_pages_twice_items : List Item
three_pages_twice_items =
    (Command (event.Map 0 4096 order.K4 perm_r__u)) ∷
    (Command (event.Map 0 8192 order.K4 perm_r__u)) ∷
    (Command (event.Map 0 12288 order.K4 perm_r__u)) ∷
    (Referenced 1 4096 kind.Load) ∷
    (Referenced 2 8192 kind.Load) ∷
    (Referenced 3 12288 kind.Load) ∷
    (Referenced 4 4096 kind.Load) ∷
    (Referenced 5 8192 kind.Load) ∷
    (Referenced 6 12288 kind.Load) ∷ []

-- A removed leaf leaves a hole: where the places after it closed up, width 2 would have two hits.
abbrev pub a_removed_leaf_leaves_a_hole_row : Row
a_removed_leaf_leaves_a_hole_row = plain_row

-- What is served then.
abbrev pub a_removed_leaf_leaves_a_hole_items : List Item
a_removed_leaf_leaves_a_hole_items =
    (Command (event.Map 0 4096 order.K4 perm_r__u)) ∷
    (Command (event.Map 0 8192 order.K4 perm_r__u)) ∷
    (Command (event.Map 0 12288 order.K4 perm_r__u)) ∷
    (Referenced 1 4096 kind.Load) ∷
    (Referenced 2 8192 kind.Load) ∷
    (Referenced 3 12288 kind.Load) ∷
    (Command (event.Unmap 0 8192 order.K4)) ∷
    (Referenced 4 4096 kind.Load) ∷
    (Referenced 5 12288 kind.Load) ∷ []

-- A hole in front of the touched place is filled, and the place becomes the hole.
abbrev pub a_hole_above_the_touched_place_row : Row
a_hole_above_the_touched_place_row = plain_row

-- What is served then.
abbrev pub a_hole_above_the_touched_place_items : List Item
a_hole_above_the_touched_place_items =
    (Command (event.Map 0 4096 order.K4 perm_r__u)) ∷
    (Command (event.Map 0 8192 order.K4 perm_r__u)) ∷
    (Command (event.Map 0 12288 order.K4 perm_r__u)) ∷
    (Command (event.Map 0 16384 order.K4 perm_r__u)) ∷
    (Command (event.Map 0 20480 order.K4 perm_r__u)) ∷
    (Referenced 1 4096 kind.Load) ∷
    (Referenced 2 8192 kind.Load) ∷
    (Referenced 3 12288 kind.Load) ∷
    (Referenced 4 16384 kind.Load) ∷
    (Referenced 5 20480 kind.Load) ∷
    (Command (event.Unmap 0 16384 order.K4)) ∷
    (Referenced 6 8192 kind.Load) ∷
    (Referenced 7 4096 kind.Load) ∷
    (Referenced 8 12288 kind.Load) ∷
    (Referenced 9 20480 kind.Load) ∷
    (Referenced 10 8192 kind.Load) ∷ []

-- A hole after the touched place stays where it is.
abbrev pub a_hole_below_the_touched_place_row : Row
a_hole_below_the_touched_place_row = plain_row

-- What is served then.
abbrev pub a_hole_below_the_touched_place_items : List Item
a_hole_below_the_touched_place_items =
    (Command (event.Map 0 4096 order.K4 perm_r__u)) ∷
    (Command (event.Map 0 8192 order.K4 perm_r__u)) ∷
    (Command (event.Map 0 12288 order.K4 perm_r__u)) ∷
    (Command (event.Map 0 16384 order.K4 perm_r__u)) ∷
    (Command (event.Map 0 20480 order.K4 perm_r__u)) ∷
    (Referenced 1 4096 kind.Load) ∷
    (Referenced 2 8192 kind.Load) ∷
    (Referenced 3 12288 kind.Load) ∷
    (Referenced 4 16384 kind.Load) ∷
    (Referenced 5 20480 kind.Load) ∷
    (Command (event.Unmap 0 8192 order.K4)) ∷
    (Referenced 6 16384 kind.Load) ∷
    (Referenced 7 12288 kind.Load) ∷
    (Referenced 8 4096 kind.Load) ∷
    (Referenced 9 20480 kind.Load) ∷
    (Referenced 10 16384 kind.Load) ∷ []

-- A leaf that was removed and comes again fills its own hole, or an earlier one.
abbrev pub a_hole_at_the_touched_place_row : Row
a_hole_at_the_touched_place_row = plain_row

-- What is served then.
abbrev pub a_hole_at_the_touched_place_items : List Item
a_hole_at_the_touched_place_items =
    (Command (event.Map 0 4096 order.K4 perm_r__u)) ∷
    (Command (event.Map 0 8192 order.K4 perm_r__u)) ∷
    (Command (event.Map 0 12288 order.K4 perm_r__u)) ∷
    (Command (event.Map 0 16384 order.K4 perm_r__u)) ∷
    (Referenced 1 4096 kind.Load) ∷
    (Referenced 2 8192 kind.Load) ∷
    (Referenced 3 12288 kind.Load) ∷
    (Referenced 4 16384 kind.Load) ∷
    (Command (event.Unmap 0 12288 order.K4)) ∷
    (Referenced 5 12288 kind.Load) ∷
    (Command (event.Map 0 12288 order.K4 perm_r__u)) ∷
    (Referenced 6 12288 kind.Load) ∷
    (Referenced 7 4096 kind.Load) ∷
    (Referenced 8 12288 kind.Load) ∷
    (Referenced 9 8192 kind.Load) ∷ []

-- Two holes: each access takes the first one.
abbrev pub two_holes_row : Row
two_holes_row = plain_row

-- What is served then.
abbrev pub two_holes_items : List Item
two_holes_items =
    (Command (event.Map 0 4096 order.K4 perm_r__u)) ∷
    (Command (event.Map 0 8192 order.K4 perm_r__u)) ∷
    (Command (event.Map 0 12288 order.K4 perm_r__u)) ∷
    (Command (event.Map 0 16384 order.K4 perm_r__u)) ∷
    (Command (event.Map 0 20480 order.K4 perm_r__u)) ∷
    (Command (event.Map 0 24576 order.K4 perm_r__u)) ∷
    (Referenced 1 4096 kind.Load) ∷
    (Referenced 2 8192 kind.Load) ∷
    (Referenced 3 12288 kind.Load) ∷
    (Referenced 4 16384 kind.Load) ∷
    (Referenced 5 20480 kind.Load) ∷
    (Referenced 6 24576 kind.Load) ∷
    (Command (event.Unmap 0 20480 order.K4)) ∷
    (Command (event.Unmap 0 12288 order.K4)) ∷
    (Referenced 7 4096 kind.Load) ∷
    (Referenced 8 16384 kind.Load) ∷
    (Referenced 9 8192 kind.Load) ∷
    (Referenced 10 24576 kind.Load) ∷
    (Referenced 11 4096 kind.Load) ∷ []

-- Three sets, whose lists don't see one another.
abbrev pub several_sets_row : Row
several_sets_row = plain_row

-- What is served then.
abbrev pub several_sets_items : List Item
several_sets_items =
    (Command (event.Map 0 4096 order.K4 perm_r__u)) ∷
    (Command (event.Map 0 8192 order.K4 perm_r__u)) ∷
    (Command (event.Map 0 12288 order.K4 perm_r__u)) ∷
    (Command (event.Map 0 16384 order.K4 perm_r__u)) ∷
    (Command (event.Map 0 20480 order.K4 perm_r__u)) ∷
    (Command (event.Map 0 24576 order.K4 perm_r__u)) ∷
    (Command (event.Map 0 28672 order.K4 perm_r__u)) ∷
    (Referenced 1 4096 kind.Load) ∷
    (Referenced 2 8192 kind.Load) ∷
    (Referenced 3 12288 kind.Load) ∷
    (Referenced 4 16384 kind.Load) ∷
    (Referenced 5 20480 kind.Load) ∷
    (Referenced 6 24576 kind.Load) ∷
    (Referenced 7 28672 kind.Load) ∷
    (Command (event.Unmap 0 16384 order.K4)) ∷
    (Referenced 8 4096 kind.Load) ∷
    (Referenced 9 28672 kind.Load) ∷
    (Referenced 10 8192 kind.Load) ∷
    (Referenced 11 16384 kind.Load) ∷
    (Referenced 12 20480 kind.Load) ∷
    (Referenced 13 12288 kind.Load) ∷
    (Referenced 14 4096 kind.Load) ∷ []

-- Leaves of three sizes: a page of a large leaf looks for the whole leaf, in the set of its block.
abbrev pub large_leaves_row : Row
large_leaves_row = record plain_row { frames = 1048576 }

-- What is served then.
abbrev pub large_leaves_items : List Item
large_leaves_items =
    (Command (event.Map 0 0 order.K4 perm_r__u)) ∷
    (Command (event.Map 0 4096 order.K4 perm_r__u)) ∷
    (Command (event.Map 0 2097152 order.M2 perm_r__u)) ∷
    (Command (event.Map 0 1073741824 order.G1 perm_r__u)) ∷
    (Referenced 1 0 kind.Load) ∷
    (Referenced 2 2097152 kind.Load) ∷
    (Referenced 3 1073741824 kind.Load) ∷
    (Referenced 4 4096 kind.Load) ∷
    (Referenced 5 4190208 kind.Load) ∷
    (Referenced 6 1075838976 kind.Load) ∷
    (Referenced 7 0 kind.Load) ∷ []

-- A purge by space takes the leaves of the space alone.
abbrev pub a_purge_by_space_row : Row
a_purge_by_space_row = record plain_row { purge = purge.Space }

-- What is served then.
abbrev pub a_purge_by_space_items : List Item
a_purge_by_space_items =
    (Command (event.Map 0 4096 order.K4 perm_r__u)) ∷
    (Command (event.Map 0 8192 order.K4 perm_r__u)) ∷
    (Command (event.Map 0 12288 order.K4 perm_r__u)) ∷
    (Command (event.Map 1 4096 order.K4 perm_r__u)) ∷
    (Command (event.Map 1 8192 order.K4 perm_r__u)) ∷
    (Referenced 1 4096 kind.Load) ∷
    (Referenced 2 8192 kind.Load) ∷
    (Referenced 3 12288 kind.Load) ∷
    (Command (event.Space 1)) ∷
    (Referenced 4 4096 kind.Load) ∷
    (Referenced 5 8192 kind.Load) ∷
    (Command (event.Unmap 1 4096 order.K4)) ∷
    (Referenced 6 8192 kind.Load) ∷
    (Command (event.Space 0)) ∷
    (Referenced 7 4096 kind.Load) ∷
    (Referenced 8 8192 kind.Load) ∷
    (Referenced 9 12288 kind.Load) ∷ []

-- A purge of all takes every leaf.
abbrev pub a_purge_of_all_row : Row
a_purge_of_all_row = record plain_row { purge = purge.All }

-- What is served then.
abbrev pub a_purge_of_all_items : List Item
a_purge_of_all_items =
    (Command (event.Map 0 4096 order.K4 perm_r__u)) ∷
    (Command (event.Map 0 8192 order.K4 perm_r__u)) ∷
    (Command (event.Map 0 12288 order.K4 perm_r__u)) ∷
    (Referenced 1 4096 kind.Load) ∷
    (Referenced 2 8192 kind.Load) ∷
    (Referenced 3 12288 kind.Load) ∷
    (Referenced 4 4096 kind.Load) ∷
    (Command (event.Protect 0 8192 order.K4 perm_rw_u)) ∷
    (Referenced 5 4096 kind.Load) ∷
    (Referenced 6 8192 kind.Load) ∷
    (Referenced 7 12288 kind.Load) ∷
    (Referenced 8 4096 kind.Load) ∷ []

-- A protect and a move purge the leaf as it was.
abbrev pub a_protect_and_a_move_row : Row
a_protect_and_a_move_row = plain_row

-- What is served then.
abbrev pub a_protect_and_a_move_items : List Item
a_protect_and_a_move_items =
    (Command (event.Map 0 4096 order.K4 perm_r__u)) ∷
    (Command (event.Map 0 8192 order.K4 perm_r__u)) ∷
    (Command (event.Map 0 12288 order.K4 perm_r__u)) ∷
    (Referenced 1 4096 kind.Load) ∷
    (Referenced 2 8192 kind.Load) ∷
    (Referenced 3 12288 kind.Load) ∷
    (Command (event.Protect 0 8192 order.K4 perm_rw_u)) ∷
    (Referenced 4 4096 kind.Load) ∷
    (Referenced 5 8192 kind.Load) ∷
    (Command (event.Move 0 4096 32768 order.K4)) ∷
    (Referenced 6 32768 kind.Load) ∷
    (Referenced 7 8192 kind.Load) ∷
    (Referenced 8 4096 kind.Load) ∷
    (Referenced 9 12288 kind.Load) ∷
    (Referenced 10 32768 kind.Load) ∷ []

-- The four fences remove what they reach.
abbrev pub fences_row : Row
fences_row = plain_row

-- What is served then.
abbrev pub fences_items : List Item
fences_items =
    (Command (event.Map 0 4096 order.K4 perm_r__u)) ∷
    (Command (event.Map 0 8192 order.K4 perm_r__u)) ∷
    (Command (event.Map 0 12288 order.K4 perm_r__u)) ∷
    (Command (event.Map 1 4096 order.K4 perm_r__u)) ∷
    (Referenced 1 4096 kind.Load) ∷
    (Referenced 2 8192 kind.Load) ∷
    (Referenced 3 12288 kind.Load) ∷
    (Command (event.Space 1)) ∷
    (Referenced 4 4096 kind.Load) ∷
    (Command (event.Fence (scope.Page 0 8192))) ∷
    (Command (event.Space 0)) ∷
    (Referenced 5 4096 kind.Load) ∷
    (Referenced 6 8192 kind.Load) ∷
    (Command (event.Fence (scope.Addr 4096))) ∷
    (Referenced 7 4096 kind.Load) ∷
    (Referenced 8 12288 kind.Load) ∷
    (Command (event.Fence (scope.Space 0))) ∷
    (Referenced 9 12288 kind.Load) ∷
    (Command (event.Fence scope.All)) ∷
    (Referenced 10 12288 kind.Load) ∷ []

-- A refused command removes nothing. The move's new place has a leaf, and the last fence's address,
-- which isn't canonical, has page 1.
abbrev pub refused_commands_row : Row
refused_commands_row = plain_row

-- What is served then.
abbrev pub refused_commands_items : List Item
refused_commands_items =
    (Command (event.Map 0 4096 order.K4 perm_r__u)) ∷
    (Command (event.Map 0 8192 order.K4 perm_r__u)) ∷
    (Referenced 1 4096 kind.Load) ∷
    (Referenced 2 8192 kind.Load) ∷
    (Command (event.Unmap 0 20480 order.K4)) ∷
    (Command (event.Unmap 5 4096 order.K4)) ∷
    (Command (event.Map 0 4096 order.K4 perm_r__u)) ∷
    (Command (event.Fence (scope.Space 7))) ∷
    (Command (event.Move 0 4096 8192 order.K4)) ∷
    (Command (event.Fence (scope.Addr 549755817984))) ∷
    (Referenced 3 4096 kind.Load) ∷
    (Referenced 4 8192 kind.Load) ∷ []

-- A denied access looks for its leaf, an unmapped one misses at every width, and one that isn't
-- canonical isn't a look-up.
abbrev pub denied_and_absent_row : Row
denied_and_absent_row = plain_row

-- What is served then.
abbrev pub denied_and_absent_items : List Item
denied_and_absent_items =
    (Command (event.Map 0 4096 order.K4 perm_r__u)) ∷
    (Command (event.Map 0 8192 order.K4 perm_r___)) ∷
    (Referenced 1 4096 kind.Store) ∷
    (Referenced 2 8192 kind.Load) ∷
    (Referenced 3 36864 kind.Load) ∷
    (Referenced 4 1099511627776 kind.Load) ∷
    (Referenced 5 4096 kind.Store) ∷
    (Referenced 6 8192 kind.Load) ∷
    (Referenced 7 36864 kind.Load) ∷ []

-- The first access of a demand misses at every width, and the second looks for the new leaf.
abbrev pub a_demand_area_row : Row
a_demand_area_row = plain_row

-- What is served then.
abbrev pub a_demand_area_items : List Item
a_demand_area_items =
    (Declared (record { space = 0; page = 1; pages = 4; order = order.K4; perm = perm_rw_u })) ∷
    (Referenced 1 4096 kind.Load) ∷
    (Referenced 2 8192 kind.Load) ∷
    (Referenced 3 4096 kind.Load) ∷
    (Referenced 4 8192 kind.Load) ∷
    (Command (event.Unmap 0 8192 order.K4)) ∷
    (Referenced 5 12288 kind.Load) ∷
    (Referenced 6 8192 kind.Load) ∷
    (Referenced 7 4096 kind.Load) ∷
    (Referenced 8 8192 kind.Load) ∷ []

-- One frame. The demand of page 1 takes it: its first access misses, the second looks for the new
-- leaf. The map that page 2 demands is refused, so that its access is not served again; and page 1
-- then hits at every width: 4 look-ups.
abbrev pub a_demand_that_is_refused_row : Row
a_demand_that_is_refused_row = record plain_row { frames = 1 }

-- What is served then.
abbrev pub a_demand_that_is_refused_items : List Item
a_demand_that_is_refused_items =
    (Declared (record { space = 0; page = 1; pages = 4; order = order.K4; perm = perm_rw_u })) ∷
    (Referenced 1 4096 kind.Load) ∷
    (Referenced 2 8192 kind.Load) ∷
    (Referenced 3 4096 kind.Load) ∷ []

-- Page 1 of space 0 in frame 0, with a permission.
abbrev pub page_1 : Perm → Leaf
page_1 perm = record { space = 0; first = 1; order = order.K4; frame = 0; perm = perm }
