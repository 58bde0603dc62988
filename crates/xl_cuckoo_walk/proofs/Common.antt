-- The names that this crate's proofs import from elsewhere, passed on from one place. Declares nothing.
pub use Rattle.std.proofs.Common.{◌%◌, ◌&&◌, ◌*◌, ◌++◌, ◌+◌, ◌-◌, ◌/◌, ◌<◌, ◌==◌, ◌^◌, ◌||◌, ◌∙◌, ◌∷◌, ◌≡◌, ◌≤◌, ◌⊎◌, [], ap, arith, Bool, cond, drop, Err, false, get_or, inl, inr, length, List, lit<, map, nat_le, None, not, Ok, Option, refl, Result, rules, slice_set, Some, subst, suc, sym, true, zero, ℕ}
pub use Rattle.std.proofs.lemmas.Bool.Decides.{nat_tests}
pub use Rattle.std.proofs.lemmas.List.{length-map}
pub use Rattle.std.specs.List.{list_any}
pub use Rattle.std.specs.Prelude.{find, is_some, IsSome, slice_get, slice_index}
pub use Rattle.xl_cuckoo.proofs.KeyLemmas.{no-value, once-added, once-cleared, once-reworded, once-same}
pub use Rattle.xl_cuckoo.specs.Table.{AddsEntry, AreOnce, CuckooState, inserted, opening, SameEntries, value_of}
pub use Rattle.xl_list_lemmas.proofs.MemberLemmas.{any-each, any-false, any-In, any-same, both, find-In, find-None, find-only, find-passes, In-any, In-append, In-left, In-map, In-right, map-In, none-any, same-tests}
pub use Rattle.xl_list_lemmas.proofs.RecencyLemmas.{find-none, find-some, newest-map, purged-map, touched-map, touched-none}
pub use Rattle.xl_list_lemmas.proofs.TallyLemmas.{tally-any}
pub use Rattle.xl_list_lemmas.specs.Members.{In}
pub use Rattle.xl_list_lemmas.specs.Tallies.{tally}
pub use Rattle.xl_model.specs.Addresses.{level_of, pages_of, same_order}
pub use Rattle.xl_model.specs.Base.{one_if, plus}
pub use Rattle.xl_model.specs.Caches.{Cached, empty_cache, has_changed, reaches_space, SectionCaches, without_items}
unfoldable pub use Rattle.xl_model.specs.Caches.{caches_fenced, caches_purged}
pub use Rattle.xl_model.specs.Chains.{leaf_tag, tag_of}
pub use Rattle.xl_model.specs.Changes.{at_page, Change, Insert, IsNamed, old_leaf, Protect, Relocate, Remove, with_new, with_perm, without_old}
unfoldable pub use Rattle.xl_model.specs.Changes.{changed, with_both}
pub use Rattle.xl_model.specs.Mapping.{covers, is_leaf, leaf_key, meets_block, with_leaf, without_leaf}
unfoldable pub use Rattle.xl_model.specs.Mapping.{leaf_at_page, leaf_named, meets_any}
pub use Rattle.xl_model.specs.Placing.{AtCap, attempt, Displaced, forced, growths_left, holder_from, insertion, is_held, next_way, no_moves, Placed, put_in, start_way, way_at}
pub use Rattle.xl_model.specs.Recency.{purged, touched, with_newest, without_first}
pub use Rattle.xl_model.specs.Room.{room_for}
unfoldable pub use Rattle.xl_model.specs.Room.{has_room}
pub use Rattle.xl_model.specs.Sections.{counts_for, holds, holds_order, is_section, same_section, same_way, Section, section_count, section_key, section_keys, way_where}
unfoldable pub use Rattle.xl_model.specs.Sections.{section_of}
pub use Rattle.xl_model.specs.Shapes.{brought, Cuckoo, CuckooRules, CuckooWays, is_placed, leaf_entry, moves_of, narrowed, opening_ways, placed_leaf, Shape, ways_of, ways_placed, ways_taken, widened, with_ways}
unfoldable pub use Rattle.xl_model.specs.Shapes.{shape_after}
pub use Rattle.xl_model.specs.Structures.{after_by, answer_by, finds_place, IsBlock, IsChange, IsFence, IsLeafFor, IsPage, IsWalk, Made, moves_made, NoPlace, NoSpace, TableState, Verdict, verdict_by, work_of}
unfoldable pub use Rattle.xl_model.specs.Structures.{fence_answer, table_after, table_answer, table_fenced, table_made, table_walked, verdict, walk_answer}
pub use Rattle.xl_model.specs.Walks.{fills_m2, is_page_section, leaves_possible, probes, section_after, section_of_page, way_known}
unfoldable pub use Rattle.xl_model.specs.Walks.{walked}
pub use Rattle.xl_model.specs.Ways.{has_key, occupant, opening_way, reworded, swapped, WayShape, without_key}
unfoldable pub use Rattle.xl_model.specs.Ways.{with_word, without_entry}
unfoldable pub use Rattle.xl_model.specs.Words.{leaf_word}
pub use Rattle.xl_model.specs.declared.address.Order.{Order}
pub use Rattle.xl_model.specs.declared.leaf.Leaf.{Leaf}
pub use Rattle.xl_model.specs.declared.perm.Perm.{Perm}
pub use Rattle.xl_model.specs.declared.way.Entry.{Entry}
pub use Rattle.xl_model.specs.declared.way.Moves.{Moves}
pub use Rattle.xl_model.specs.declared.work.Refused.{Refused}
pub use Rattle.xl_model.specs.declared.work.Work.{Work}
pub use Rattle.xl_model_lemmas.proofs.FreshSectionLemmas.{by-fields, holder-same, section-after, section-fenced, section-refused, section-some, section-walked, sections-same}
pub use Rattle.xl_model_lemmas.proofs.InsertionLemmas.{In-with, stays-with, with-In, without-In, without-other}
pub use Rattle.xl_model_lemmas.proofs.MappingLemmas.{named-In, named-is}
pub use Rattle.xl_model.proofs.OrderLemmas.{order-same, orders-same, same-level}
pub use Rattle.xl_model_lemmas.proofs.PlaceLemmas.{aligned-frame, covers-meets, first-covered, level-low, named-first, named-order, named-space, pages-some}
pub use Rattle.xl_model_lemmas.proofs.PlacingLemmas.{attempt-by, entries-same, forced-entries, insertion-by, one_of, placing-by, set-length, Succeeded, swapped-adds}
pub use Rattle.xl_model_lemmas.proofs.SearchLemmas.{only, only-first}
pub use Rattle.xl_model_lemmas.proofs.SectionLemmas.{count-keys, In-keys, keys-In, keys-once, small-block}
pub use Rattle.xl_model_lemmas.proofs.WayTallyLemmas.{tally-same, ways-reworded, ways-without}
pub use Rattle.xl_model_lemmas.specs.Entries.{or_leaf}
pub use Rattle.xl_model_lemmas.specs.Fresh.{has_leaves, SectionFresh, SectionsFresh}
pub use Rattle.xl_model_lemmas.specs.Kept.{IsPlaced}
unfoldable pub use Rattle.xl_model_lemmas.specs.Kept.{mapping_of}
pub use Rattle.xl_model_lemmas.specs.Sections.{counts_at, entries_in, entries_of, IsAligned, key_in, of_order}
pub use Rattle.xl_model_lemmas.specs.Sorted.{AllAbove, IsSorted}
pub use Rattle.xl_pte.specs.ReadBack.{MadeWordsReadBack}
pub use Rattle.xl_recency.specs.declared.item.Item.{Item}
pub use Rattle.xl_sections.proofs.KeyLemmas.{keys-count}
pub use Rattle.xl_sections.proofs.WordLemmas.{any-is, parts-are, word-cons}
pub use Rattle.xl_sections.specs.Counted.{AreCounts, Count, CountState, IsTied, part, unit}
unfoldable pub use Rattle.xl_sections.specs.Counted.{count_of}
pub use Rattle.xl_sections.specs.Noted.{HasPlace, IsDropped, IsNoted, IsRoomy, IsShared}
pub use Rattle.xl_tagged.proofs.FindLemmas.{at-page, either, found-from, found-is, from-is, meets-is, page-found}
pub use Rattle.xl_tagged.proofs.HeldLemmas.{IsTagWith, IsTagWithout, new-keys, put-held, take-held, with-given, with-new, without-old}
pub use Rattle.xl_tagged.proofs.SlotLemmas.{known-leaves, leaf-some, none-read}
pub use Rattle.xl_tagged.proofs.WholeLemmas.{frame-back, frame-fits, low}
pub use Rattle.xl_tagged.specs.Forms.{One, slot_of, word_at}
pub use Rattle.xl_tagged.specs.Slots.{found_from, found_in, leaf_read, small_known}
unfoldable pub use Rattle.xl_tagged.specs.Slots.{leaves_under}
pub use Rattle.xl_tagged.specs.Steps.{given_word, IsWritten}
pub use Rattle.xl_tagged.specs.Tagged.{AreHeld, IsFit}
pub use Rattle.xl_way.specs.Slots.{word_in}
unfoldable pub use Rattle.xl_way.specs.Slots.{word_of}
pub use Rattle.xl_cuckoo_walk.specs.Changes.{compared, fits_by, has_fit, IsCapped, IsEntered, IsLeft, IsPut, IsRefused, keys_if, keys_moved, page_key, page_keys, StaysBeside, with_put_in, with_word_in, without_key_in, word_of_key}
pub use Rattle.xl_cuckoo_walk.specs.Coding.{bit_in, code_of, has_tag, hit_of, is_old, is_reached, section_by, section_in, sections_in, way_by, word_by, word_of_item}
pub use Rattle.xl_cuckoo_walk.specs.Known.{IsFrontIf, IsKnown, word_known}
pub use Rattle.xl_cuckoo_walk.specs.Looks.{counts_smaller, first_from, looked, looked_from}
pub use Rattle.xl_cuckoo_walk.specs.Parts.{AreFresh, AreKeys, AreTied, by_size, counts_of, HoldsLeaves, IsRow, Large, loads_in, Middle, order_at, order_of, order_tags, parts_by, RowParts, rules_by, rules_in, rules_of, Size, size_in, SizeParts, table_at, table_of, TableRules, Tables, ways_at, ways_in, with_counts, with_table, with_table_at, word_list}
unfoldable pub use Rattle.xl_cuckoo_walk.specs.Parts.{leaves_of_ways, row_state, tags_in, values_in}
pub use Rattle.xl_cuckoo_walk.specs.Plans.{filled, is_counted, IsIn, key_known, loads_by, newest_in, own_section, plan_at, plan_by, probed, refreshed, touched_in, value_by, way_found}
unfoldable pub use Rattle.xl_cuckoo_walk.specs.Plans.{keys_from, leaf_said_by, new_word, plan_of}
pub use Rattle.xl_cuckoo_walk.specs.Soles.{ArePlans, plans_by}
pub use Rattle.xl_cuckoo_walk.specs.declared.plan.Plan.{Plan}
