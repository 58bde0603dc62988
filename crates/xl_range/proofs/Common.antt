-- The names that this crate's proofs import from elsewhere, passed on from one place. Declares nothing.
pub use Rattle.std.proofs.Common.{◌%◌, ◌&&◌, ◌*◌, ◌+◌, ◌-◌, ◌/◌, ◌<◌, ◌==◌, ◌^◌, ◌||◌, ◌∙◌, ◌∷◌, ◌≡◌, ◌≤◌, ◌⊎◌, [], ap, arith, Bool, cond, Err, false, filter, find, inl, inr, is_some, length, List, map, nat_le, nat_lt, None, Ok, Option, refl, Result, Some, subst, suc, sym, true, zero, ℕ}
pub use Rattle.std.proofs.lemmas.Bool.Decides.{nat_tests}
pub use Rattle.std.specs.List.{list_any}
pub use Rattle.xl_list_lemmas.proofs.MemberLemmas.{any-find, find-In, find-passes, In-any, both as same-bools, same-tests}
pub use Rattle.xl_list_lemmas.proofs.RecencyLemmas.{find-none, find-some, newest-In, newest-map, purged-In, purged-map, touched-In, touched-map, touched-none}
pub use Rattle.xl_list_lemmas.specs.Members.{In}
pub use Rattle.xl_model.proofs.CodeLemmas.{frame-back, perm-back}
pub use Rattle.xl_model.proofs.OrderLemmas.{order-same, orders-same}
pub use Rattle.xl_model.specs.Addresses.{level_of, order_at, pages_of, same_order}
pub use Rattle.xl_model.specs.Caches.{Cached, empty_cache, entries_in, holds_first, RangeCache, reaches_range, without_items}
unfoldable pub use Rattle.xl_model.specs.Caches.{caches_fenced, caches_purged}
pub use Rattle.xl_model.specs.Changes.{at_page, Change, Insert, IsNamed, old_leaf, Protect, Relocate, Remove, with_new, with_perm, without_old}
unfoldable pub use Rattle.xl_model.specs.Changes.{changed, with_both}
pub use Rattle.xl_model.specs.Mapping.{covers, is_leaf, leaf_key, meets_block, with_leaf}
unfoldable pub use Rattle.xl_model.specs.Mapping.{leaf_at_page, leaf_named, meets_any, without_leaf}
pub use Rattle.xl_model.specs.Ranges.{end_key, goes_into, holds_page, joined, range_key, range_of_leaf, range_reads, same_perm}
unfoldable pub use Rattle.xl_model.specs.Ranges.{ranges_of}
pub use Rattle.xl_model.specs.Recency.{purged, touched, with_newest, without_first}
pub use Rattle.xl_model.specs.Room.{room_for}
unfoldable pub use Rattle.xl_model.specs.Room.{has_room}
pub use Rattle.xl_model.specs.Shapes.{brought, narrowed, Runs, Shape, widened}
unfoldable pub use Rattle.xl_model.specs.Shapes.{shape_after}
pub use Rattle.xl_model.specs.Structures.{after_by, answer_by, finds_place, IsBlock, IsChange, IsFence, IsLeafFor, IsWalk, Made, moves_made, NoSpace, TableState, Verdict, work_of}
unfoldable pub use Rattle.xl_model.specs.Structures.{fence_answer, table_after, table_answer, table_fenced, table_made, table_walked, verdict, walk_answer}
pub use Rattle.xl_model.specs.Walks.{range_walk_by, with_fill, with_touch}
unfoldable pub use Rattle.xl_model.specs.Walks.{walked}
pub use Rattle.xl_model.specs.declared.address.Order.{Order}
pub use Rattle.xl_model.specs.declared.leaf.Leaf.{Leaf}
pub use Rattle.xl_model.specs.declared.leaf.Range.{Range}
pub use Rattle.xl_model.specs.declared.perm.Perm.{Perm}
pub use Rattle.xl_model_lemmas.proofs.MappingLemmas.{named-In, named-is}
pub use Rattle.xl_model_lemmas.proofs.PlaceLemmas.{named-first, named-order, named-space, pages-some}
pub use Rattle.xl_treap.proofs.KeptLemmas.{resized-length, with-length}
pub use Rattle.xl_treap.specs.Treaps.{first_from, has_key, IsApart, IsFit, keeping, key_at, last_below, last_or, of_space, resized, TreapView, with_range, without_range}
pub use Rattle.xl_range.specs.Cuts.{IsInside, kept_cut, kept_following}
pub use Rattle.xl_range.specs.HeldRanges.{before_on, begins, first_leaf, following_on, glue, grown, IsClear, IsHeld, IsLeafIn, IsRange, leaf_by, leaf_in, next_leaf, pages_before, pages_following, part_following, pieces, range_from, range_leaves, run_on, some_if, Stops, touches}
unfoldable pub use Rattle.xl_range.specs.HeldRanges.{cut, join, meets_range, spread}
pub use Rattle.xl_range.specs.Puts.{IsThere, kept_put, kept_taken, next_of, next_where, one_if, pages_with, prev_of, prev_where, put_by, range_taken}
pub use Rattle.xl_range.specs.RangeCoding.{AllWithin, IsKeepable, IsWithin, item_at, item_holds, item_reached, range_kept}
unfoldable pub use Rattle.xl_range.specs.RangeCoding.{item_of_range, range_of}
pub use Rattle.xl_range.specs.Rows.{AllFresh, HasLeaf, HasRanges, IsAt, IsDone, IsFresh, IsRow, IsTable, meets_where, opening_table, row_of, row_table, RowState}
