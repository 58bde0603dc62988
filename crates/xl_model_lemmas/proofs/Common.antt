-- The names that this crate's proofs import from elsewhere, passed on from one place. Declares nothing.
pub use Rattle.std.proofs.Common.{◌%◌, ◌&&◌, ◌*◌, ◌++◌, ◌+◌, ◌-◌, ◌/◌, ◌<◌, ◌==◌, ◌^◌, ◌||◌, ◌∙◌, ◌∷◌, ◌≡◌, ◌≤◌, ◌⊎◌, [], ap, append_assoc, arith, Bool, cond, false, inl, inr, length, List, map, min, nat_le, nat_lt, None, not, Option, refl, Result, slice_index_or, slice_set, Some, subst, suc, sym, true, zero, ℕ}
pub use Rattle.std.proofs.lemmas.Bool.{eq-eqb, not-false, not-true}
pub use Rattle.std.proofs.lemmas.Bool.Decides.{nat_tests}
pub use Rattle.std.specs.Cmp.{first_so, second_so}
pub use Rattle.std.specs.List.{list_all, list_any}
pub use Rattle.std.specs.Prelude.{filter, find, replicate}
pub use Rattle.xl_frames.specs.Pool.{HasNone, IsFree, IsLowest, marked}
pub use Rattle.xl_list_lemmas.proofs.MemberLemmas.{any-false, any-In, filter-In, filter-passes, find-In, find-only, find-passes, In-any, In-filter, In-map, map-In, none-any, same-tests}
pub use Rattle.xl_list_lemmas.proofs.RecencyLemmas.{newest-In, purged-In, touched-In}
pub use Rattle.xl_list_lemmas.proofs.TallyLemmas.{tally-append, tally-filter, tally-map, tally-only}
pub use Rattle.xl_list_lemmas.specs.Members.{In, Once}
pub use Rattle.xl_list_lemmas.specs.Tallies.{tally}
pub use Rattle.xl_model.specs.Addresses.{is_aligned, is_canonical, level_of, levels_of, pages_of, same_order}
unfoldable pub use Rattle.xl_model.specs.Addresses.{page_of}
pub use Rattle.xl_model.specs.Base.{one_if, same_bit}
pub use Rattle.xl_model.specs.Changes.{at_page, Change, Insert, new_leaf, old_leaf, Protect, Relocate, Remove, with_new, with_perm, without_old}
unfoldable pub use Rattle.xl_model.specs.Changes.{changed}
pub use Rattle.xl_model.specs.Frames.{following, is_free_block, least, lesser}
unfoldable pub use Rattle.xl_model.specs.Frames.{lowest}
pub use Rattle.xl_model.specs.Mapping.{covers, holds_frames, is_leaf, leaf_key, meets_block, with_leaf}
unfoldable pub use Rattle.xl_model.specs.Mapping.{leaf_at_page, leaf_named, meets_any, without_leaf}
pub use Rattle.xl_model.specs.Placing.{after_attempt, after_placing, AtCap, Attempt, begins, begun_if_full, by_occupant, Candidate, Displaced, Fails, forced_moves, growths_left, holder_from, is_held, next_way, no_moves, Placed, Placing, put_in, settled_way, start_way, Succeeds, to_grow, way_at, with_growth}
unfoldable pub use Rattle.xl_model.specs.Placing.{attempt, forced, insertion, place, placing, settled}
pub use Rattle.xl_model.specs.Rows.{Row}
pub use Rattle.xl_model.specs.Rules.{frames_rule, insert_at, or_else, overlap_rule, place_rule, unless}
unfoldable pub use Rattle.xl_model.specs.Rules.{change_of, rule}
pub use Rattle.xl_model.specs.Sections.{counts_for, holds_order, same_section, same_way, Section, section_count, section_key, section_keys, with_key}
unfoldable pub use Rattle.xl_model.specs.Sections.{section_of}
pub use Rattle.xl_model.specs.Shapes.{brought, Chained, Cuckoo, CuckooWays, narrowed, Radix, Runs, Shape, ways_of, widened}
unfoldable pub use Rattle.xl_model.specs.Shapes.{shape_after}
pub use Rattle.xl_model.specs.Tlb.{Answer, answer_of, answered_by, array_without, asked, covers_as, filled_below, filled_for, filled_where, first_found, found_as, is_purged, opening_array, serves_kind, set_at, set_number, takes_order, TlbArray, touched_or, where_taken}
unfoldable pub use Rattle.xl_model.specs.Tlb.{array_filled, array_hit, array_touched, arrays_filled, arrays_hit, arrays_without, opening_arrays}
pub use Rattle.xl_model.specs.Ways.{has_key, opening_way, reworded, slot, slots_left, WayShape, with_entry, without_key, without_occupant}
unfoldable pub use Rattle.xl_model.specs.Ways.{advanced, begun, occupant, swapped, with_word, without_entry}
pub use Rattle.xl_model.specs.declared.address.Kind.{Kind}
pub use Rattle.xl_model.specs.declared.address.Mode.{Mode}
pub use Rattle.xl_model.specs.declared.address.Order.{Order}
pub use Rattle.xl_model.specs.declared.leaf.Leaf.{Leaf}
pub use Rattle.xl_model.specs.declared.perm.Perm.{Perm}
pub use Rattle.xl_model.specs.declared.way.Entry.{Entry}
pub use Rattle.xl_model_lemmas.specs.Fresh.{ArraysFresh, has_leaves, Held, InSets, SectionFresh, SectionsFresh}
pub use Rattle.xl_model_lemmas.specs.Kept.{IsPlaced}
unfoldable pub use Rattle.xl_model_lemmas.specs.Kept.{mapping_of}
pub use Rattle.xl_model_lemmas.specs.Lowest.{IsAnswer, IsFree as IsFreeOf}
pub use Rattle.xl_model_lemmas.specs.Mappings.{IsFound, IsLeafOf, IsMapping, IsNewPlace, IsSound}
pub use Rattle.xl_model_lemmas.specs.Pools.{IsPoolOf}
pub use Rattle.xl_model_lemmas.specs.Sections.{counts_at, entries_in, entries_of, key_in}
pub use Rattle.xl_model_lemmas.specs.Sorted.{AllAbove, IsSorted}
