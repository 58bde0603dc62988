-- The names that this crate's proofs import from elsewhere, passed on from one place. Declares nothing.
pub use Rattle.std.proofs.Common.{if◌then◌else◌, ◌%◌, ◌&&◌, ◌*◌, ◌++◌, ◌+◌, ◌-◌, ◌/◌, ◌<◌, ◌==◌, ◌^◌, ◌||◌, ◌∙◌, ◌∷◌, ◌≡◌, ◌≤◌, [], ap, arith, Bool, cond, Err, false, find, inl, inr, length, List, lit<, map, nat_le, nat_lt, None, not, Ok, Option, refl, Result, rules, slice_index, Some, subst, suc, sym, true, zero, ℕ}
pub use Rattle.std.proofs.lemmas.Bool.Decides.{nat_tests}
pub use Rattle.std.proofs.lemmas.List.{get_or-replicate, length-append, length-map, length-replicate}
pub use Rattle.std.specs.List.{list_all}
pub use Rattle.std.specs.Prelude.{IfSome, is_ok, OnErr, OnOk, replicate}
pub use Rattle.xl_list_lemmas.proofs.MemberLemmas.{any-false, find-In, find-None, find-only, find-passes, same-tests}
pub use Rattle.xl_list_lemmas.proofs.RecencyLemmas.{find-none, find-some, newest-In, newest-map, purged-In, purged-map, touched-In, touched-map, touched-none}
pub use Rattle.xl_list_lemmas.specs.Members.{In}
pub use Rattle.xl_model.specs.Addresses.{allows, is_aligned, is_canonical, level_of, order_at, pages_of, same_order}
unfoldable pub use Rattle.xl_model.specs.Addresses.{page_of}
pub use Rattle.xl_model.specs.Caches.{Cached, empty_cache, without_items}
pub use Rattle.xl_model.specs.Changes.{Change, Insert, Remove}
unfoldable pub use Rattle.xl_model.specs.Changes.{changed}
pub use Rattle.xl_model.specs.LeafWords.{perm_code, small_leaf}
unfoldable pub use Rattle.xl_model.specs.LeafWords.{perm_at}
pub use Rattle.xl_model.specs.Mapping.{covers, is_leaf, meets_block, reply_by, reply_where, with_leaf}
unfoldable pub use Rattle.xl_model.specs.Mapping.{flat, leaf_at_page, leaf_named, meets_any}
pub use Rattle.xl_model.specs.Nodes.{in_nodes, kept_node, Node, number_of, put_first, roots, unless_there, up, with_path}
unfoldable pub use Rattle.xl_model.specs.Nodes.{only_needed, opening_nodes, with_leaf_nodes, with_node}
pub use Rattle.xl_model.specs.Recency.{in_front, purged, touched, with_newest, without_first}
pub use Rattle.xl_model.specs.Shapes.{brought, Chained, Cuckoo, narrowed, Radix, Runs, Shape, widened}
unfoldable pub use Rattle.xl_model.specs.Shapes.{shape_after}
pub use Rattle.xl_model.specs.Structures.{IsBlock, IsLeafFor, IsPage, page_limit, spaces_of}
pub use Rattle.xl_model.specs.Walks.{end_level, with_touch}
pub use Rattle.xl_model.specs.declared.address.Kind.{Kind}
pub use Rattle.xl_model.specs.declared.address.Order.{Order}
pub use Rattle.xl_model.specs.declared.leaf.Leaf.{Leaf}
pub use Rattle.xl_model.specs.declared.perm.Perm.{Perm}
pub use Rattle.xl_model_lemmas.proofs.ChangeLemmas.{changed-In, stays-changed}
pub use Rattle.xl_model_lemmas.proofs.MappingLemmas.{kept-inserted, kept-removed, named-In, named-is, none-true}
pub use Rattle.xl_model_lemmas.proofs.PlaceLemmas.{covers-meets, named-order, page-block, pages-some}
pub use Rattle.xl_nested_model.specs.Nested.{along, loaded_where, NestState, walked_if, with_last}
unfoldable pub use Rattle.xl_nested_model.specs.Nested.{after_nest_event, nest_accessed, nest_outcome, nest_rule, nest_served}
pub use Rattle.xl_nested_model.specs.Rules.{guest_map, host_map, is_beyond, map_rule, refused_if, room_rule, stage_after, unmap_rule}
unfoldable pub use Rattle.xl_nested_model.specs.Rules.{gmap_rule, gmapped, gunmap_rule, gunmapped, vmap_rule, vmapped, vunmap_rule, vunmapped}
pub use Rattle.xl_nested_model.specs.Stages.{covers_guest, frame_of, Guest, guest_reply, Host, host_page, host_reply, host_space, is_loadable, nodes_in, opening_stage, path_from, reply_if_canonical, reply_if_loadable, Stage, translated_by, with_found, with_loads}
unfoldable pub use Rattle.xl_nested_model.specs.Stages.{guest_path, host_leaf, nested, stage2, translated}
pub use Rattle.xl_nested_model.specs.declared.nest.NestEvent.{NestEvent}
pub use Rattle.xl_nested_model.specs.declared.nest.NestRefusal.{NestRefusal}
pub use Rattle.xl_nested_model.specs.declared.nest.NestReply.{NestReply}
pub use Rattle.xl_radix.proofs.SlotLemmas.{number-some}
pub use Rattle.xl_radix.specs.Table.{Table}
pub use Rattle.xl_radix.specs.Walk.{end_at, end_of, is_there, place_of, reading, walk_end, WordsReadBack}
unfoldable pub use Rattle.xl_radix.specs.Walk.{radix_back}
pub use Rattle.xl_recency.specs.declared.item.Item.{Item}
pub use Rattle.xl_nested.specs.Coding.{AreSmall, block_leaf, frame_if, frame_said, has_tag, is_among, IsFound, IsHeld, IsKeepable, IsPageWord}
unfoldable pub use Rattle.xl_nested.specs.Coding.{leaf_of, tag_of}
pub use Rattle.xl_nested.specs.Commands.{counts_settled, gaddr_rule, IsAsAdded, IsPlace, IsServed, IsSettled, outcome_settled, pair_rule, va_rule}
pub use Rattle.xl_nested.specs.Fronts.{exchanged, has_page, in_order, IsBlockOf, IsFirst, IsFoundBlock, IsFronts, IsKept, IsPushed, IsSecond, IsSmallBlock, IsTouched, word_at}
pub use Rattle.xl_nested.specs.Kept.{AreApart, host_of, host_row, IsGuest, IsHost, IsStage, stage_of}
pub use Rattle.xl_nested.specs.Walks.{entry_by, entry_said, guest_frame, IsAt, IsEntry, IsFor, IsReached, IsSaid, last_level, LeavesReach, path_down}
unfoldable pub use Rattle.xl_nested.specs.Walks.{reply_from, walked_from}
pub use Rattle.xl_nested.specs.declared.block.Block.{Block}
pub use Rattle.xl_nested.specs.declared.stage.Entry.{Entry}
