-- The names that this crate's proofs import from elsewhere, passed on from one place. Declares nothing.
pub use Rattle.std.proofs.Common.{if◌then◌else◌, ◌%◌, ◌&&◌, ◌*◌, ◌++◌, ◌+◌, ◌-◌, ◌/◌, ◌<◌, ◌==◌, ◌^◌, ◌||◌, ◌∙◌, ◌∷◌, ◌≡◌, ◌≤◌, ◌⊎◌, [], ap, append-nil, append_assoc, arith, Bool, cond, drop, Err, false, find, inl, inr, is_some, length, List, lit<, map, nat_le, nat_lt, None, not, Ok, Option, refl, rules, slice_index, slice_index_or, slice_set, Some, subst, suc, sym, take, true, zero, ℕ}
pub use Rattle.std.proofs.lemmas.Bool.Decides.{nat_tests}
pub use Rattle.std.proofs.lemmas.List.{get_or-take, length-map, length-take, with_items_is}
pub use Rattle.std.specs.List.{list_all, list_any, position_from}
pub use Rattle.std.specs.Prelude.{IfNone, IfSome}
pub use Rattle.std.specs.Vec.{with_items}
pub use Rattle.xl_list_lemmas.proofs.MemberLemmas.{filter-In, find-In, find-passes, take-In}
pub use Rattle.xl_list_lemmas.specs.Members.{In}
pub use Rattle.xl_model.specs.Addresses.{level_of}
pub use Rattle.xl_model.specs.Base.{one_if, plus}
pub use Rattle.xl_model.specs.Caches.{all_without, Cached, empty_cache, empty_caches, items_in, NodeCaches, Numbered, reaches_space}
unfoldable pub use Rattle.xl_model.specs.Caches.{caches_fenced, caches_purged, opening_caches}
pub use Rattle.xl_model.specs.Changes.{Change, Insert, Protect, Relocate, Remove}
unfoldable pub use Rattle.xl_model.specs.Changes.{changed}
pub use Rattle.xl_model.specs.LeafWords.{perm_at, small_leaf}
pub use Rattle.xl_model.specs.Mapping.{leaf_at_page, with_leaf}
pub use Rattle.xl_model.specs.Nodes.{free_count, is_below, is_needed, kept_node, Node, opening_nodes, put_first, unless_there, up, with_path}
unfoldable pub use Rattle.xl_model.specs.Nodes.{number_of, only_needed, with_leaf_nodes, with_node}
pub use Rattle.xl_model.specs.Recency.{in_front, purged, touched, without_first}
unfoldable pub use Rattle.xl_model.specs.Room.{has_room}
pub use Rattle.xl_model.specs.Rows.{is_width}
pub use Rattle.xl_model.specs.Shapes.{brought, narrowed, Radix, widened}
unfoldable pub use Rattle.xl_model.specs.Shapes.{opening_shape, shape_after}
pub use Rattle.xl_model.specs.PageWalks.{IsAllowedWalk, IsSameWalk, walk_of_page}
pub use Rattle.xl_model.specs.Structures.{finds_place, IsChange, IsFence, IsPage, IsWalk, moves_made, work_of}
unfoldable pub use Rattle.xl_model.specs.Structures.{fence_answer, table_after, table_answer, table_fenced, table_made, table_walked, verdict, walk_answer}
pub use Rattle.xl_model.specs.Walks.{end_level, is_tag, node_cache_after, node_caches_after, numbered, radix_walk_from, start_level, Walked, with_fill, with_touch}
unfoldable pub use Rattle.xl_model.specs.Walks.{walked}
pub use Rattle.xl_model.specs.declared.address.Kind.{Kind}
pub use Rattle.xl_model.specs.declared.event.Reach.{Reach}
pub use Rattle.xl_model.specs.declared.leaf.Leaf.{Leaf}
pub use Rattle.xl_phys.specs.Lines.{counted, IsWord}
pub use Rattle.xl_pte.specs.Decode.{bit, leaf_at, pointer_at, ppn_of, says, SaysSmall}
unfoldable pub use Rattle.xl_pte.specs.Decode.{decode_of}
pub use Rattle.xl_pte.specs.declared.word.Pte.{Pte}
pub use Rattle.xl_radix.proofs.SlotLemmas.{below-is, below-some, number-some}
pub use Rattle.xl_radix.proofs.UpLemmas.{page-low, up-le, up-top}
pub use Rattle.xl_radix.specs.Steps.{IsMade, shape_of, with_brought}
pub use Rattle.xl_radix.specs.Table.{Table}
pub use Rattle.xl_radix.specs.Walk.{end_at, end_of, is_there, place_of, reading, walk_end, WordsReadBack}
unfoldable pub use Rattle.xl_radix.specs.Walk.{radix_back}
pub use Rattle.xl_radix.specs.declared.walk_end.WalkEnd.{WalkEnd}
pub use Rattle.xl_recency.specs.Lists.{Touches}
pub use Rattle.xl_recency.specs.declared.item.Item.{Item}
pub use Rattle.xl_radix_walk.specs.Path.{entered, entering, GoesTo, IsStep, loaded_times, step_of, word_in}
unfoldable pub use Rattle.xl_radix_walk.specs.Path.{radix_path}
pub use Rattle.xl_radix_walk.specs.Quick.{AreFirst, EndsAt, Enters, Finds, HasWord, IsAllowed, Points}
pub use Rattle.xl_radix_walk.specs.Row.{above_off, AllNumbered, AreNumbered, AreOff, cache_in, caches_in, entries_of, fenced_caches, filled_by, filled_caches, filled_one, FillsNone, has_tag, is_fenced, is_gone, IsLowest, IsPath, IsRow, IsStraight, IsWalked, item_at, leaf_known, numbered_in, opening_table, purged_caches, refused_for, row_of, row_table, start_or, tag_at}
pub use Rattle.xl_radix_walk.specs.declared.caches.Start.{Start}
