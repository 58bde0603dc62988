-- Elastic cuckoo tables, each row worked out by hand: slots, displacements, growths and sections.
use Rattle.std.specs.Prelude.{ℕ, List, [], ◌∷◌, map, take, Bool}
use Rattle.xl_model.specs.declared.address.Order.TheVariants as order
use Rattle.xl_model.specs.declared.address.Kind.TheVariants as kind
use Rattle.xl_model.specs.declared.event.Event.TheVariants as event
use Rattle.xl_model.specs.declared.row.Table.TheVariants as table
use Rattle.xl_model.specs.Rows.{Row}
use Rattle.xl_model.specs.declared.script.Item.{Item}
use Rattle.xl_model.specs.declared.script.Item.TheVariants.{Command, Referenced}
use Rattle.xl_model_rows.specs.Plain.{plain_row, perm_r__u, perm_rw_u}
use Rattle.xl_model.specs.declared.way.Entry.{Entry}
use Rattle.xl_model.specs.declared.way.WayRegs.{WayRegs}
use Rattle.xl_model.specs.Ways.{WayShape, slot}
use Rattle.xl_model.specs.Shapes.{Shape, Cuckoo}
use Rattle.xl_model.specs.Items.{run}

-- a key in its slot
pub record Standing : Type 0 where
  pub slot : ℕ
  pub key : ℕ

-- a way's registers, and its keys in their slots, sorted by key
pub record WayState : Type 0 where
  pub regs : WayRegs
  pub keys : List Standing

-- An entry that is in a slot of its way.
abbrev pub in_slot : ℕ → ℕ → Standing
in_slot at key = record { slot = at; key = key }

-- A way with these registers and entries.
abbrev pub way_at : ℕ → ℕ → Bool → List Standing → WayState
way_at s p growing keys = record { regs = record { s = s; p = p; growing = growing }; keys = keys }

-- What is in the ways.
abbrev pub standing : WayShape → Entry → Standing
standing w e = in_slot (slot w.regs w.number e.key) e.key

-- The state of a way.
abbrev pub way_state : WayShape → WayState
way_state w = record { regs = w.regs; keys = map (standing w) w.entries }

-- the ways of the 4 KiB leaves
abbrev pub k4_ways : Shape → List WayState
k4_ways (Cuckoo rules ways) = map way_state ways.k4
k4_ways shape = []

-- Two ways of one slot, cap 4 slots, threshold 50, one displacement, one slot migrated an insertion. The keys are 0 and b =
-- 1234567, at address 5056786432; both start in way 1, since the hashes H(2, 0) = 06c4..454f and H(2, b) = 883e..7c77 are odd.
-- 1. map 0: way 1, slot 0; 1 of 1 used, way 1 begins (growth 1).
-- 2. map b: 0 is displaced to way 0, slot 0 (kick 1). Way 1 migrates slot 0: H(1, b) = 2c73..0fa5 is odd, b goes to slot 1 (migrated
--    1), and way 1 has 2 slots. Way 0 begins (growth 2).
-- 3. unmap 0, map 0: way 1, slot 0, as H(1, 0) = 6e78..65f4 is even. Way 0 migrates an empty slot (migrated 2) and has 2. Way 1 has 2
--    of 2 and begins (growth 3).
-- 4. unmap 0, map 0: way 1, slot 0, which is then migrated: H(1, 0) mod 4 = 0, it stays (migrated 3, p = 1).
-- 5. unmap 0, map 0: index 0 is below p, slot H(1, 0) mod 4 = 0. Slot 1 is migrated: H(1, b) mod 4 = 1 stays (migrated 4). Way 1 has
--    4 slots; 2 of 4 isn't over 50 hundredths.
abbrev pub growth_row : Row
growth_row = record plain_row { table = table.Cuckoo 2 0 2 50 1 1 4 4 (0 ∷ 0 ∷ []) }

-- A map of page 0.
abbrev pub map_0 : Item
map_0 = Command (event.Map 0 0 order.K4 perm_r__u)

-- An unmap of page 0.
abbrev pub unmap_0 : Item
unmap_0 = Command (event.Unmap 0 0 order.K4)

-- A map of the page whose key shares slots with that of page 0.
abbrev pub map_b : Item
map_b = Command (event.Map 0 5056786432 order.K4 perm_r__u)

-- the two maps, and three times an unmap and a map
abbrev pub growth_commands : List Item
growth_commands = map_0 ∷ map_b ∷ unmap_0 ∷ map_0 ∷ unmap_0 ∷ map_0 ∷ unmap_0 ∷ map_0 ∷ []

-- the ways after n of these commands
abbrev pub ways_after : ℕ → List WayState
ways_after n = k4_ways (run growth_row (take n growth_commands)).table.shape

-- Two ways of 2 slots, cap 4, threshold 50, one slot migrated an insertion; the keys are page
-- numbers. Start ways H(2, key) mod 2 and hashes: 14 starts in way 0, H(0, 14) mod 4 = 2; 1 in way
-- 0, H(0, 1) mod 4 = 1; 3 in way 1, H(1, 3) mod 2 = 1; 18 in way 0, H(0, 18) mod 4 = 2. map 14: way
-- 0, slot 0 (2 mod 2). map 1: way 0, slot 1; way 0 has 2 of 2 and begins (growth 1). map 3: way 1,
-- slot 1; way 0 migrates slot 0, and 14 goes to slot 2 (migrated 1, p = 1). Now 14's index 0 is
-- below p, and its slot is 2. Page 14 is found, 3 orders of 2 loads. map 18: its index 0 is below
-- p, so its slot is 2, where 14 is: 14 is displaced to way 1 (kick 1), slot H(1, 14) mod 2 = 0,
-- empty. Way 0 migrates slot 1, 1 stays (migrated 2), and has 4 slots. Way 1 has 2 of 2 and begins
-- (growth 2). Page 14 is found in way 1. The frame of page 14 is 0.
abbrev pub below_the_rehash_pointer_row : Row
below_the_rehash_pointer_row = record plain_row { table = table.Cuckoo 2 1 2 50 4 1 4 4 (0 ∷ 0 ∷ []) }

-- The row by itself.
abbrev pub below_the_rehash_pointer_rows : List Row
below_the_rehash_pointer_rows = below_the_rehash_pointer_row ∷ []

-- What is served then.
abbrev pub below_the_rehash_pointer_items : List Item
below_the_rehash_pointer_items =
    (Command (event.Map 0 57344 order.K4 perm_r__u)) ∷
    (Command (event.Map 0 4096 order.K4 perm_r__u)) ∷
    (Command (event.Map 0 12288 order.K4 perm_r__u)) ∷
    (Referenced 1 57344 kind.Load) ∷
    (Command (event.Map 0 73728 order.K4 perm_r__u)) ∷
    (Referenced 2 57344 kind.Load) ∷ []

-- As before to map 3: 14 is in slot 2 of way 0, p = 1. map 6: it starts in way 0, H(0, 6) mod 4 =
-- 0; its index 0 is below p, and slot 0, which 14 left, is empty: no kick. Way 0 migrates slot 1
-- (migrated 2) and has 4 slots, its cap. Pages 14 and 6: 6 loads each, frames 0 and 3.
abbrev pub the_old_slot_is_free_row : Row
the_old_slot_is_free_row = record plain_row { table = table.Cuckoo 2 1 2 50 4 1 4 4 (0 ∷ 0 ∷ []) }

-- The row by itself.
abbrev pub the_old_slot_is_free_rows : List Row
the_old_slot_is_free_rows = the_old_slot_is_free_row ∷ []

-- What is served then.
abbrev pub the_old_slot_is_free_items : List Item
the_old_slot_is_free_items =
    (Command (event.Map 0 57344 order.K4 perm_r__u)) ∷
    (Command (event.Map 0 4096 order.K4 perm_r__u)) ∷
    (Command (event.Map 0 12288 order.K4 perm_r__u)) ∷
    (Command (event.Map 0 24576 order.K4 perm_r__u)) ∷
    (Referenced 1 57344 kind.Load) ∷
    (Referenced 2 24576 kind.Load) ∷ []

-- Three ways of one slot, cap 4 slots, threshold 100 (no way begins by itself), one displacement.
-- H(3, key) mod 3 is 1, 2, 0, 1, 1 for the keys 0, 1, 2, 8, 10. Keys 0, 1 and 2 are in ways 1, 2
-- and 0. map 8: way 1 is taken, 0 is displaced to way 2, which is taken: the attempt fails (kick 1,
-- undone 1). All s are 0: way 0 grows (growth 1, migrated 1), 2 goes to slot H(0, 2) mod 2 = 0. The
-- same again fails (2, 2). Ways 1 and 2 have the least s: way 1 grows (growth 2, migrated 2), 0
-- stays in slot H(1, 0) mod 2 = 0. 8 goes to slot H(1, 8) mod 2 = 1. map 10: way 1, slot H(1, 10)
-- mod 2 = 0: 0 is displaced to way 2, which is taken by 1: fails (3, 3). Way 2 alone has s = 0: it
-- grows (growth 3, migrated 3), 1 stays in slot H(2, 1) mod 2 = 0. Again: 0 is displaced (kick 4)
-- to way 2, slot H(2, 0) mod 2 = 1.
abbrev pub which_way_grows_row : Row
which_way_grows_row = record plain_row { table = table.Cuckoo 3 0 2 100 1 1 4 4 (0 ∷ 0 ∷ []) }

-- The row by itself.
abbrev pub which_way_grows_rows : List Row
which_way_grows_rows = which_way_grows_row ∷ []

-- What is served then.
abbrev pub which_way_grows_items : List Item
which_way_grows_items =
    (Command (event.Map 0 0 order.K4 perm_r__u)) ∷
    (Command (event.Map 0 4096 order.K4 perm_r__u)) ∷
    (Command (event.Map 0 8192 order.K4 perm_r__u)) ∷
    (Command (event.Map 0 32768 order.K4 perm_r__u)) ∷
    (Command (event.Map 0 40960 order.K4 perm_r__u)) ∷ []

-- Two ways of 2 slots, cap 4 slots, threshold 50, one displacement, one slot migrated an insertion.
-- map 0: way 1, slot H(1, 0) mod 2 = 0. map 1: way 0, slot 1. map 6: way 0, slot 0; way 0 has 2 of
-- 2 and begins (growth 1). map 3: way 1, slot 1; way 0 migrates slot 0, 6 stays, H(0, 6) mod 4 = 0
-- (migrated 1, p = 1); way 1 begins (growth 2). map 7: way 0, H(0, 7) mod 4 = 3, index 1, not below
-- p: 1 is displaced to way 1, index H(1, 1) mod 2 = 1, where 3 is: the attempt fails (kick 1,
-- undone 1). Both s are 1: way 0. It is growing already, so no growth counts, and slot 1 alone is
-- migrated (migrated 2); 1 stays, H(0, 1) mod 4 = 1. Again: 7 goes to slot 3. Way 1 migrates slot
-- 0, 0 stays, H(1, 0) mod 4 = 0 (migrated 3, p = 1).
abbrev pub a_forced_growth_of_a_growing_way_row : Row
a_forced_growth_of_a_growing_way_row = record plain_row { table = table.Cuckoo 2 1 2 50 1 1 4 4 (0 ∷ 0 ∷ []) }

-- The row by itself.
abbrev pub a_forced_growth_of_a_growing_way_rows : List Row
a_forced_growth_of_a_growing_way_rows = a_forced_growth_of_a_growing_way_row ∷ []

-- What is served then.
abbrev pub a_forced_growth_of_a_growing_way_items : List Item
a_forced_growth_of_a_growing_way_items =
    (Command (event.Map 0 0 order.K4 perm_r__u)) ∷
    (Command (event.Map 0 4096 order.K4 perm_r__u)) ∷
    (Command (event.Map 0 24576 order.K4 perm_r__u)) ∷
    (Command (event.Map 0 12288 order.K4 perm_r__u)) ∷
    (Command (event.Map 0 28672 order.K4 perm_r__u)) ∷ []

-- Three ways of one slot that never grow, at most two displacements. Keys 1, 3 and 5 start in way
-- 2. map 1: way 2. map 3: 1 is displaced to way 0 (kick 1). map 5: 3 is displaced to way 0, and 1
-- from there to way 1 (kicks 2 and 3), the second displacement being the last that is allowed. Each
-- page is found with 9 loads. The frames are 0, 1 and 2.
abbrev pub kicks_in_three_ways_row : Row
kicks_in_three_ways_row = record plain_row { table = table.Cuckoo 3 0 0 100 2 1 4 4 (0 ∷ 0 ∷ []) }

-- The row by itself.
abbrev pub kicks_in_three_ways_rows : List Row
kicks_in_three_ways_rows = kicks_in_three_ways_row ∷ []

-- What is served then.
abbrev pub kicks_in_three_ways_items : List Item
kicks_in_three_ways_items =
    (Command (event.Map 0 4096 order.K4 perm_r__u)) ∷
    (Command (event.Map 0 12288 order.K4 perm_r__u)) ∷
    (Command (event.Map 0 20480 order.K4 perm_r__u)) ∷
    (Referenced 1 4096 kind.Load) ∷
    (Referenced 2 12288 kind.Load) ∷
    (Referenced 3 20480 kind.Load) ∷ []

-- Four ways of one slot that never grow, at most three displacements. Keys 0, 6, 13 and 14 start in
-- way 3. Each displaces the last to way 0, from there to way 1, from there to way 2: 0 + 1 + 2 + 3
-- = 6 kicks. Page 0, frame 0: 12 loads.
abbrev pub kicks_in_four_ways_row : Row
kicks_in_four_ways_row = record plain_row { table = table.Cuckoo 4 0 0 100 3 1 4 4 (0 ∷ 0 ∷ []) }

-- The row by itself.
abbrev pub kicks_in_four_ways_rows : List Row
kicks_in_four_ways_rows = kicks_in_four_ways_row ∷ []

-- What is served then.
abbrev pub kicks_in_four_ways_items : List Item
kicks_in_four_ways_items =
    (Command (event.Map 0 0 order.K4 perm_r__u)) ∷
    (Command (event.Map 0 24576 order.K4 perm_r__u)) ∷
    (Command (event.Map 0 53248 order.K4 perm_r__u)) ∷
    (Command (event.Map 0 57344 order.K4 perm_r__u)) ∷
    (Referenced 1 0 kind.Load) ∷ []

-- Two ways of one slot, cap 2 slots, threshold 100, one displacement, section caches of four. Keys
-- 0 and 1 are in ways 1 and 0. Page 0: 6 loads, both its sections are cached. map 2: way 1 is
-- taken, 0 is displaced to way 0, which is taken: fails (1 kick, 1 undone). Way 0 grows, 1 goes to
-- slot H(0, 1) mod 2 = 1. Again 0 is displaced, to slot H(0, 0) mod 2 = 1: fails (2, 2). Way 1
-- grows, 0 stays in slot H(1, 0) mod 2 = 0. Again: H(1, 2) mod 2 = 0, 0 is displaced: fails (3, 3).
-- Both are at the cap: refused (9), with 2 growths and 2 migrations. The sections stay cached:
-- pages 0 and 1 are 2 loads with 2 cache hits each; page 2 is unmapped, 2 loads, 2 hits. map 6
-- starts in way 0, slot H(0, 6) mod 2 = 0, which is empty: no kick; its frame is 2. Page 6: 2
-- loads, 2 hits.
abbrev pub growths_before_a_refusal_stay_row : Row
growths_before_a_refusal_stay_row = record plain_row { table = table.Cuckoo 2 0 1 100 1 1 4 4 (4 ∷ 4 ∷ []) }

-- The row by itself.
abbrev pub growths_before_a_refusal_stay_rows : List Row
growths_before_a_refusal_stay_rows = growths_before_a_refusal_stay_row ∷ []

-- What is served then.
abbrev pub growths_before_a_refusal_stay_items : List Item
growths_before_a_refusal_stay_items =
    (Command (event.Map 0 0 order.K4 perm_r__u)) ∷
    (Command (event.Map 0 4096 order.K4 perm_r__u)) ∷
    (Referenced 1 0 kind.Load) ∷
    (Command (event.Map 0 8192 order.K4 perm_r__u)) ∷
    (Referenced 2 0 kind.Load) ∷
    (Referenced 3 4096 kind.Load) ∷
    (Referenced 4 8192 kind.Load) ∷
    (Command (event.Map 0 24576 order.K4 perm_r__u)) ∷
    (Referenced 5 24576 kind.Load) ∷ []

-- Two ways of 2 slots, threshold 50. map 6: way 0, slot 0. Its move to page 1: way 0, slot 1; way 0
-- has 2 of 2 and begins (growth 1); then key 6 leaves.
abbrev pub a_moved_key_still_counts_row : Row
a_moved_key_still_counts_row = record plain_row { table = table.Cuckoo 2 1 2 50 4 1 4 4 (0 ∷ 0 ∷ []) }

-- The row by itself.
abbrev pub a_moved_key_still_counts_rows : List Row
a_moved_key_still_counts_rows = a_moved_key_still_counts_row ∷ []

-- What is served then.
abbrev pub a_moved_key_still_counts_items : List Item
a_moved_key_still_counts_items =
    (Command (event.Map 0 24576 order.K4 perm_r__u)) ∷
    (Command (event.Move 0 24576 4096 order.K4)) ∷ []

-- Two ways of 4 slots, cap 8 slots, threshold 25, three slots migrated an insertion. map 1: way 0, slot H(0, 1) mod 4 = 1. map
-- 7: way 0, slot 3; 2 of 4 are over 25 hundredths, way 0 begins (growth 1). map 2: way 1, slot H(1, 2) mod 4 = 2; way 0
-- migrates slots 0, 1 and 2 (migrated 3). map 3: way 1, slot 1; way 0 migrates the one slot left (migrated 4), 7 goes to slot
-- H(0, 7) mod 8 = 7; way 1 has 2 of 4 and begins (growth 2). Key 1 has H(0, 1) mod 8 = 1.
abbrev pub the_last_slots_of_a_growth_row : Row
the_last_slots_of_a_growth_row = record plain_row { table = table.Cuckoo 2 2 3 25 4 3 4 4 (0 ∷ 0 ∷ []) }

-- The row by itself.
abbrev pub the_last_slots_of_a_growth_rows : List Row
the_last_slots_of_a_growth_rows = the_last_slots_of_a_growth_row ∷ []

-- What is served then.
abbrev pub the_last_slots_of_a_growth_items : List Item
the_last_slots_of_a_growth_items =
    (Command (event.Map 0 4096 order.K4 perm_r__u)) ∷
    (Command (event.Map 0 28672 order.K4 perm_r__u)) ∷
    (Command (event.Map 0 8192 order.K4 perm_r__u)) ∷
    (Command (event.Map 0 12288 order.K4 perm_r__u)) ∷ []

-- Two ways of one slot, cap 4 slots, threshold 1. map 1: way 0; it begins (growth 1). map 0: way 1;
-- way 0 migrates its slot, 1 goes to slot H(0, 1) mod 2 = 1 (migrated 1), and with 1 of 2 begins
-- again (growth 2); way 1 begins (growth 3).
abbrev pub a_growth_ends_and_the_next_begins_row : Row
a_growth_ends_and_the_next_begins_row = record plain_row { table = table.Cuckoo 2 0 2 1 4 1 4 4 (0 ∷ 0 ∷ []) }

-- The row by itself.
abbrev pub a_growth_ends_and_the_next_begins_rows : List Row
a_growth_ends_and_the_next_begins_rows = a_growth_ends_and_the_next_begins_row ∷ []

-- What is served then.
abbrev pub a_growth_ends_and_the_next_begins_items : List Item
a_growth_ends_and_the_next_begins_items =
    (Command (event.Map 0 4096 order.K4 perm_r__u)) ∷
    (Command (event.Map 0 0 order.K4 perm_r__u)) ∷ []

-- Two ways of 2 slots for each order, threshold 1. map 1: way 0 of 4 KiB, slot 1; it begins (growth
-- 1). The 2 MiB leaf at page 512, key 1 too: way 0 of 2 MiB; it begins (growth 2), and nothing is
-- migrated. map 3: way 1 of 4 KiB, slot 1; way 0 migrates slot 0, which is empty (migrated 1); way
-- 1 begins (growth 3).
abbrev pub each_order_has_ways_of_its_own_row : Row
each_order_has_ways_of_its_own_row = record plain_row { frames = 1024; table = table.Cuckoo 2 1 2 1 4 1 4 4 (0 ∷ 0 ∷ []) }

-- The row by itself.
abbrev pub each_order_has_ways_of_its_own_rows : List Row
each_order_has_ways_of_its_own_rows = each_order_has_ways_of_its_own_row ∷ []

-- What is served then.
abbrev pub each_order_has_ways_of_its_own_items : List Item
each_order_has_ways_of_its_own_items =
    (Command (event.Map 0 4096 order.K4 perm_r__u)) ∷
    (Command (event.Map 0 2097152 order.M2 perm_r__u)) ∷
    (Command (event.Map 0 12288 order.K4 perm_r__u)) ∷ []

-- Two ways of 2 slots that never grow, at most five displacements. The 2 MiB leaves at pages 3072,
-- 512 and 1536 have the keys 6, 1 and 3: way 0 slot 0, way 0 slot 1, way 1 slot 1. Their walks: 6
-- loads; then with the 1 GiB section cached, which holds 2 MiB leaves alone, 2 loads and 1 hit
-- each. Page 4608, key 9, starts in way 0, slot 0, and displaces 6 to way 1, slot 1; that 3 to way
-- 0, slot 1; that 1 to way 1, slot 1; that 6 to way 0, slot 0; that 9 to way 1, slot 0, which is
-- empty: 5 kicks. 6 is in way 0 as before, 3 and 1 have changed their ways: their sections leave, 2
-- removed. Page 3072: both sections hit, 1 load. Pages 512 and 1536: 2 loads and 1 hit each. Loads
-- 6 + 2 + 2 + 1 + 2 + 2 = 15, hits 0 + 1 + 1 + 2 + 1 + 1 = 6. The frames are 0, 512 and 1024: the
-- addresses are twice 200000 + 400000.
abbrev pub a_leaf_displaced_back_to_its_way_rows : List Row
a_leaf_displaced_back_to_its_way_rows = (record plain_row { frames = 2048; table = table.Cuckoo 2 1 1 100 5 1 4 4 (4 ∷ 4 ∷ []) }) ∷ []

-- What is served then.
abbrev pub a_leaf_displaced_back_to_its_way_items : List Item
a_leaf_displaced_back_to_its_way_items =
    (Command (event.Map 0 12582912 order.M2 perm_r__u)) ∷
    (Command (event.Map 0 2097152 order.M2 perm_r__u)) ∷
    (Command (event.Map 0 6291456 order.M2 perm_r__u)) ∷
    (Referenced 1 12582912 kind.Load) ∷
    (Referenced 2 2097152 kind.Load) ∷
    (Referenced 3 6291456 kind.Load) ∷
    (Command (event.Map 0 18874368 order.M2 perm_r__u)) ∷
    (Referenced 4 12582912 kind.Load) ∷
    (Referenced 5 2097152 kind.Load) ∷
    (Referenced 6 6291456 kind.Load) ∷ []

-- Two ways of 16 slots; one 2 MiB section and four 1 GiB sections are cached. Page 1: 6 loads, its
-- sections are cached. Page 262144, a 1 GiB leaf: 6 loads, its 1 GiB section is filled and no 2 MiB
-- section. Page 1: both its sections hit: 4 KiB alone is possible, 2 loads. Page 262149: its 1 GiB
-- section hits, is the leaf, and its way is known: 1 load. Loads 6 + 6 + 2 + 1 = 15, hits 0 + 0 + 2
-- + 1 = 3. The frames are 0 and 262144: the addresses are 0 + 40000000 + 0 + 40005000.
abbrev pub a_1g_leaf_beside_a_cached_section_rows : List Row
a_1g_leaf_beside_a_cached_section_rows = (record plain_row { frames = 524288; table = table.Cuckoo 2 4 4 100 4 1 4 4 (1 ∷ 4 ∷ []) }) ∷ []

-- What is served then.
abbrev pub a_1g_leaf_beside_a_cached_section_items : List Item
a_1g_leaf_beside_a_cached_section_items =
    (Command (event.Map 0 4096 order.K4 perm_r__u)) ∷
    (Command (event.Map 0 1073741824 order.G1 perm_r__u)) ∷
    (Referenced 1 4096 kind.Load) ∷
    (Referenced 2 1073741824 kind.Load) ∷
    (Referenced 3 4096 kind.Load) ∷
    (Referenced 4 1073762304 kind.Load) ∷ []

-- Two ways of 16 slots, section caches of four. Page 1: 6 loads, both sections are cached. The map
-- of a 2 MiB leaf at page 512 gives the 1 GiB section a second bit: it leaves, 1 removed; the 2 MiB
-- section of page 1 is as before. Page 1: that section hits, 4 KiB alone: 2 loads; the 1 GiB
-- section is filled. Page 512: the 1 GiB section hits and lets 4 KiB and 2 MiB: 4 loads; its 2 MiB
-- section is filled. Page 512: both hit, it is the leaf: 1 load. Loads 6 + 2 + 4 + 1 = 13, hits 0 +
-- 1 + 1 + 2 = 4. The frames are 0 and 512.
abbrev pub a_map_changes_a_cached_section_rows : List Row
a_map_changes_a_cached_section_rows = (record plain_row { frames = 1024; table = table.Cuckoo 2 4 4 100 4 1 4 4 (4 ∷ 4 ∷ []) }) ∷ []

-- What is served then.
abbrev pub a_map_changes_a_cached_section_items : List Item
a_map_changes_a_cached_section_items =
    (Command (event.Map 0 4096 order.K4 perm_r__u)) ∷
    (Referenced 1 4096 kind.Load) ∷
    (Command (event.Map 0 2097152 order.M2 perm_r__u)) ∷
    (Referenced 2 4096 kind.Load) ∷
    (Referenced 3 2097152 kind.Load) ∷
    (Referenced 4 2097152 kind.Load) ∷ []

-- Two ways of 16 slots, section caches of four. Page 1: 6 loads, both sections are cached. The
-- unmap of page 2 leaves their bits: page 1 is 2 loads with 2 hits. The unmap of page 1 clears
-- both: 2 removed. Page 1: no section, 6 loads, unmapped, and it fills none: once more 6 loads.
abbrev pub sections_that_stay_and_leave_rows : List Row
sections_that_stay_and_leave_rows = (record plain_row { table = table.Cuckoo 2 4 4 100 4 1 4 4 (4 ∷ 4 ∷ []) }) ∷ []

-- What is served then.
abbrev pub sections_that_stay_and_leave_items : List Item
sections_that_stay_and_leave_items =
    (Command (event.Map 0 4096 order.K4 perm_r__u)) ∷
    (Command (event.Map 0 8192 order.K4 perm_r__u)) ∷
    (Referenced 1 4096 kind.Load) ∷
    (Command (event.Unmap 0 8192 order.K4)) ∷
    (Referenced 2 4096 kind.Load) ∷
    (Command (event.Unmap 0 4096 order.K4)) ∷
    (Referenced 3 4096 kind.Load) ∷
    (Referenced 4 4096 kind.Load) ∷ []

-- Two ways of 16 slots; two 2 MiB sections are cached and no 1 GiB section. Pages 1, 513 and 1025
-- are in three 2 MiB sections. Page 1: 6 loads, [1]. Page 513: 6 loads, [513, 1]. Page 1: hits, 2
-- loads, [1, 513]. Page 1025: 6 loads, [1025, 1]. Page 1: hits, 2 loads. Page 513: 6 loads. Loads 6
-- + 6 + 2 + 6 + 2 + 6 = 28. The addresses are 0 + 1000 + 0 + 2000 + 0 + 1000.
abbrev pub a_touch_of_a_cached_section_rows : List Row
a_touch_of_a_cached_section_rows = (record plain_row { table = table.Cuckoo 2 4 4 100 4 1 4 4 (2 ∷ 0 ∷ []) }) ∷ []

-- What is served then.
abbrev pub a_touch_of_a_cached_section_items : List Item
a_touch_of_a_cached_section_items =
    (Command (event.Map 0 4096 order.K4 perm_r__u)) ∷
    (Command (event.Map 0 2101248 order.K4 perm_r__u)) ∷
    (Command (event.Map 0 4198400 order.K4 perm_r__u)) ∷
    (Referenced 1 4096 kind.Load) ∷
    (Referenced 2 2101248 kind.Load) ∷
    (Referenced 3 4096 kind.Load) ∷
    (Referenced 4 4198400 kind.Load) ∷
    (Referenced 5 4096 kind.Load) ∷
    (Referenced 6 2101248 kind.Load) ∷ []

-- Two ways of 16 slots, a cache of two 2 MiB sections. Page 2, which is unmapped, is in the section
-- of page 1: 2 loads with a hit, and that section is newer than the second one then, which the
-- third one evicts. Page 1: 2 loads; the page of the second section: 6.
abbrev pub an_unmapped_page_touches_a_section_items : List Item
an_unmapped_page_touches_a_section_items =
    (Command (event.Map 0 4096 order.K4 perm_r__u)) ∷
    (Command (event.Map 0 2101248 order.K4 perm_r__u)) ∷
    (Command (event.Map 0 4198400 order.K4 perm_r__u)) ∷
    (Referenced 1 4096 kind.Load) ∷
    (Referenced 2 2101248 kind.Load) ∷
    (Referenced 3 8192 kind.Load) ∷
    (Referenced 4 4198400 kind.Load) ∷
    (Referenced 5 4096 kind.Load) ∷
    (Referenced 6 2101248 kind.Load) ∷ []

-- Two ways of 16 slots, section caches of four. Page 1: 6 loads, both sections are cached. Its
-- protect changes no bit and no way: the store is 2 loads with 2 hits.
abbrev pub a_protect_leaves_sections_rows : List Row
a_protect_leaves_sections_rows = (record plain_row { table = table.Cuckoo 2 4 4 100 4 1 4 4 (4 ∷ 4 ∷ []) }) ∷ []

-- What is served then.
abbrev pub a_protect_leaves_sections_items : List Item
a_protect_leaves_sections_items =
    (Command (event.Map 0 4096 order.K4 perm_r__u)) ∷
    (Referenced 1 4096 kind.Load) ∷
    (Command (event.Protect 0 4096 order.K4 perm_rw_u)) ∷
    (Referenced 2 4096 kind.Store) ∷ []

-- Two ways of 16 slots, section caches of four. Page 1: 6 loads, both sections are cached. It moves
-- to page 513, in the next 2 MiB section of the same GiB: the old 2 MiB section has no leaf any
-- more and leaves, 1 removed; the 1 GiB section holds 4 KiB as before. Page 513: the 1 GiB section
-- hits, 4 KiB alone, 2 loads.
abbrev pub a_move_changes_sections_rows : List Row
a_move_changes_sections_rows = (record plain_row { table = table.Cuckoo 2 4 4 100 4 1 4 4 (4 ∷ 4 ∷ []) }) ∷ []

-- What is served then.
abbrev pub a_move_changes_sections_items : List Item
a_move_changes_sections_items =
    (Command (event.Map 0 4096 order.K4 perm_r__u)) ∷
    (Referenced 1 4096 kind.Load) ∷
    (Command (event.Move 0 4096 2101248 order.K4)) ∷
    (Referenced 2 2101248 kind.Load) ∷ []

-- Two ways of 16 slots; four 2 MiB sections are cached and no 1 GiB section. Page 512, a 2 MiB
-- leaf: 6 loads. Page 513: its section hits, is the leaf, and leaves 2 MiB alone possible, in the
-- way that it knows: 1 load. The frames are 0 and 1.
abbrev pub a_large_leaf_known_by_one_section_rows : List Row
a_large_leaf_known_by_one_section_rows = (record plain_row { frames = 1024; table = table.Cuckoo 2 4 4 100 4 1 4 4 (4 ∷ 0 ∷ []) }) ∷ []

-- What is served then.
abbrev pub a_large_leaf_known_by_one_section_items : List Item
a_large_leaf_known_by_one_section_items =
    (Command (event.Map 0 2097152 order.M2 perm_r__u)) ∷
    (Referenced 1 2097152 kind.Load) ∷
    (Referenced 2 2101248 kind.Load) ∷ []

-- Two ways of 16 slots that never grow. Page 1 of space 0 has key 1: H(2, 1) = f893..555e is even,
-- way 0, slot H(0, 1) mod 16 = 1. Page 1 of space 1 has key 2^45 + 1 = 35184372088833: H(2, key) =
-- af8d..e5e7 is odd, way 1, slot H(1, key) mod 16 = 1. Each is found with 6 loads. The frames are 0
-- and 1.
abbrev pub keys_of_two_spaces_row : Row
keys_of_two_spaces_row = record plain_row { table = table.Cuckoo 2 4 4 100 4 1 4 4 (0 ∷ 0 ∷ []) }

-- The row by itself.
abbrev pub keys_of_two_spaces_rows : List Row
keys_of_two_spaces_rows = keys_of_two_spaces_row ∷ []

-- What is served then.
abbrev pub keys_of_two_spaces_items : List Item
keys_of_two_spaces_items =
    (Command (event.Map 0 4096 order.K4 perm_r__u)) ∷
    (Command (event.Map 1 4096 order.K4 perm_r__u)) ∷
    (Referenced 1 4096 kind.Load) ∷
    (Command (event.Space 1)) ∷
    (Referenced 2 4096 kind.Load) ∷ []
