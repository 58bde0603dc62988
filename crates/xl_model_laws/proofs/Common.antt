-- The names that this crate's proofs import from elsewhere, passed on from one place. Declares nothing.
pub use Rattle.std.proofs.Common.{◌%◌, ◌&&◌, ◌*◌, ◌++◌, ◌+◌, ◌-◌, ◌/◌, ◌<◌, ◌==◌, ◌^◌, ◌||◌, ◌∙◌, ◌∷◌, ◌≡◌, ◌≤◌, ◌⊎◌, [], ap, arith, Bool, cond, Err, false, inl, inr, is_some, length, length-append, List, map, min, nat_le, nat_lt, None, not, Ok, Option, refl, Result, slice_get, slice_index_or, slice_set, Some, subst, suc, sym, true, zero, zero-add, ℕ}
pub use Rattle.std.proofs.lemmas.Bool.{eq-eqb, eqb-true, not-false}
pub use Rattle.std.proofs.lemmas.Bool.Decides.{nat_tests}
pub use Rattle.std.proofs.lemmas.List.Sums.{sum_by-cons}
pub use Rattle.std.specs.Cmp.{first_so, second_so}
pub use Rattle.std.specs.List.{list_all, list_any, position_from}
pub use Rattle.std.specs.Prelude.{count_by, filter, find, replicate}
pub use Rattle.xl_list_lemmas.proofs.MemberLemmas.{any-In, filter-In, filter-passes, find-In, find-passes, In-any, In-append, In-filter, In-left, In-right, map-In}
pub use Rattle.xl_list_lemmas.proofs.RecencyLemmas.{newest-In, purged-In, touched-In}
pub use Rattle.xl_list_lemmas.specs.Members.{In, Once}
pub use Rattle.xl_list_lemmas.specs.Tallies.{tally}
pub use Rattle.xl_model.specs.Addresses.{is_canonical, level_of, levels_of, page_of, pages_of, same_order}
pub use Rattle.xl_model.specs.Base.{number_or_0, one_if, plus}
pub use Rattle.xl_model.specs.Caches.{all_without, Cached, Caches, empty_caches, holds_first, NoCaches, NodeCaches, Numbered, RangeCache, reaches_range, reaches_space, section_caches, SectionCaches, without_items}
unfoldable pub use Rattle.xl_model.specs.Caches.{caches_fenced, caches_purged, opening_caches}
pub use Rattle.xl_model.specs.Changes.{at_page, Change, Insert, new_leaf, old_leaf, Protect, Relocate, Remove, with_new, with_perm, without_old}
unfoldable pub use Rattle.xl_model.specs.Changes.{changed}
pub use Rattle.xl_model.specs.Items.{again_where, area_wanted, areas_after, demanded, map_of, states_after}
unfoldable pub use Rattle.xl_model.specs.Items.{referenced, run, state_after}
pub use Rattle.xl_model.specs.Mapping.{covers, leaf_key, leaf_named, with_leaf, without_leaf}
unfoldable pub use Rattle.xl_model.specs.Mapping.{leaf_at_page}
pub use Rattle.xl_model.specs.Nodes.{free_count, is_below, is_needed, is_under, kept_node, missing, Node, node_at, one_unless, put_first, roots, unless_there, up, with_path}
unfoldable pub use Rattle.xl_model.specs.Nodes.{in_nodes, leaf_nodes_missing, number_of, only_needed, opening_nodes, with_leaf_nodes, with_node}
pub use Rattle.xl_model.specs.Placing.{after_placing, AtCap, Attempt, attempt, begins, begun_if_full, Displaced, Fails, growing_now, growths_left, no_moves, Placed, Placing, placing, settled_way, start_way, Succeeds, way_at}
unfoldable pub use Rattle.xl_model.specs.Placing.{forced, insertion, place, settled}
pub use Rattle.xl_model.specs.Ranges.{goes_into, holds_page, joined, range_of_leaf, same_perm}
unfoldable pub use Rattle.xl_model.specs.Ranges.{ranges_of}
pub use Rattle.xl_model.specs.Room.{room_for}
unfoldable pub use Rattle.xl_model.specs.Room.{has_room}
pub use Rattle.xl_model.specs.RowRun.{after_rule, arrays_after, changed_by, changed_outcome, changed_where, counts_refused, looked_by, looked_where, outcome_after_rule, outcome_by, purged_at, reach_of, RowState, served_outcome, walk_filled, walk_made}
unfoldable pub use Rattle.xl_model.specs.RowRun.{accessed, after_event, fenced, looked, opening, outcome_of, reply_to, served}
pub use Rattle.xl_model.specs.Rows.{is_table, is_width, is_within, Row}
pub use Rattle.xl_model.specs.Rules.{change_of}
unfoldable pub use Rattle.xl_model.specs.Rules.{rule}
pub use Rattle.xl_model.specs.Shapes.{brought, Chained, Cuckoo, CuckooRules, CuckooWays, is_placed, leaf_entry, narrowed, opening_ways, placed_leaf, Radix, Runs, Shape, ways_brought, ways_of, ways_placed, ways_taken, widened, with_ways}
unfoldable pub use Rattle.xl_model.specs.Shapes.{opening_shape, shape_after}
pub use Rattle.xl_model.specs.Structures.{after_by, answer_by, finds_place, Made, NoPlace, NoSpace, TableState, Verdict, verdict_by}
unfoldable pub use Rattle.xl_model.specs.Structures.{table_after, table_answer, table_fenced, table_made, table_walked, verdict}
pub use Rattle.xl_model.specs.Tally.{counted, one_more_at, one_more_where, refusal_place}
unfoldable pub use Rattle.xl_model.specs.Tally.{count_accepted, count_fence, count_fills, count_invalidated, count_look, count_refusal, count_reply, count_walk, count_work, no_counts}
pub use Rattle.xl_model.specs.Tlb.{Answer, answer_of, answered_by, array_hit, array_without, asked, filled_below, filled_for, filled_where, fills_array, hits_at, is_looked, is_purged, misses_at, opening_array, reaches_leaf, serves_as, serves_kind, takes_leaf, takes_order, TlbArray, touched_or, where_taken}
unfoldable pub use Rattle.xl_model.specs.Tlb.{array_filled, array_touched, arrays_filled, arrays_hit, arrays_without, opening_arrays}
pub use Rattle.xl_model.specs.Walks.{fills_m2, is_page_section, is_tag, node_cache_after, node_caches_after, numbered, range_walk_by, section_of_page, start_level, with_fill, with_range, with_touch}
unfoldable pub use Rattle.xl_model.specs.Walks.{walked}
pub use Rattle.xl_model.specs.Ways.{begun_regs, has_key, regs_after, reworded, slot_at, slots_left, WayShape, with_entry, without_key, without_occupant}
unfoldable pub use Rattle.xl_model.specs.Ways.{advanced, begun, occupant, opening_way, slot, swapped, with_word, without_entry}
pub use Rattle.xl_model.specs.Words.{leaf_word}
pub use Rattle.xl_model.specs.declared.address.Kind.{Kind}
pub use Rattle.xl_model.specs.declared.address.Mode.{Mode}
pub use Rattle.xl_model.specs.declared.address.Order.{Order}
pub use Rattle.xl_model.specs.declared.event.Event.{Event}
pub use Rattle.xl_model.specs.declared.event.Refusal.{Refusal}
pub use Rattle.xl_model.specs.declared.leaf.Leaf.{Leaf}
pub use Rattle.xl_model.specs.declared.leaf.Range.{Range}
pub use Rattle.xl_model.specs.declared.leaf.Reply.{Reply}
pub use Rattle.xl_model.specs.declared.perm.Perm.{Perm}
pub use Rattle.xl_model.specs.declared.row.Counts.{Counts}
pub use Rattle.xl_model.specs.declared.row.Table.{Table}
pub use Rattle.xl_model.specs.declared.script.Area.{Area}
pub use Rattle.xl_model.specs.declared.script.Item.{Item}
pub use Rattle.xl_model.specs.declared.way.Entry.{Entry}
pub use Rattle.xl_model.specs.declared.way.Moves.{Moves}
pub use Rattle.xl_model.specs.declared.work.NoRoom.{NoRoom}
pub use Rattle.xl_model.specs.declared.work.Refused.{Refused}
pub use Rattle.xl_model.specs.declared.work.Work.{Work}
pub use Rattle.xl_model_lemmas.proofs.ChangeLemmas.{changed-In, first-low, first-small, other-key, place-small, stays-changed}
pub use Rattle.xl_model_lemmas.proofs.LimitLemmas.{limits-changed, limits-fenced, limits-walked, loads-by, shape-same, widened-same}
pub use Rattle.xl_model_lemmas.proofs.MappingLemmas.{named-In, named-is}
pub use Rattle.xl_model.proofs.OrderLemmas.{order-same, orders-same}
pub use Rattle.xl_model_lemmas.proofs.PlaceLemmas.{level-low, named-order, named-space}
pub use Rattle.xl_model_lemmas.proofs.PlacingLemmas.{entries-same, forced-entries, insertion-adds, insertion-by, PlacedBy, placing-by, placing-keeps, set-length, Succeeded}
pub use Rattle.xl_model_lemmas.proofs.RuleLemmas.{kept-changed, kept-sound, sound-of}
pub use Rattle.xl_model_lemmas.proofs.WayTallyLemmas.{tally-none, tally-same, tally-with_entry, ways-reworded, ways-without}
pub use Rattle.xl_model_lemmas.specs.Mappings.{IsFound, IsMapping, IsNewPlace, IsSound}
pub use Rattle.xl_model_lemmas.specs.Sections.{entries_in, entries_of}
pub use Rattle.xl_model_laws.specs.Cuckoo.{ARefusalKeepsEveryWord, EachWay, HasPointer, is_at, IsPointer, KeysHaveTheirSlots, MigratingMovesNoEntry, ShapeEach, SlotsApart, ThePointerIsBelowTheSlots}
pub use Rattle.xl_model_laws.specs.FreshCaches.{CachesFresh, LevelFresh, PageCovered, RangeFresh, RangesFresh, TagFresh, TagsFresh}
pub use Rattle.xl_model_laws.specs.Kinds.{alone, AnAccessNeedsItsArraysAlone, AnArrayForOthersStays, arrays_for, ArraysForAllTakeNoNoteOfKinds, AStoreLooksUpAsALoad, at_places, counts_for, StaysAt}
pub use Rattle.xl_model_laws.specs.Nodes.{AreNodesOf, AreNumbered, HasNumbers, IsNodeOf, RoomIsForAllNodes, root_of, TheNodesAreTheMappings}
pub use Rattle.xl_model_laws.specs.Runs.{AReplyIsByTheMapping, IsZeroBeyond, NothingIsCountedBeyondTheArrays, TheLeavesAreAMapping, TheLowestIsTheLeast, TheReadsAreTheLoads}
