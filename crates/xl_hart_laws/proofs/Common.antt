-- The names that this crate's proofs import from elsewhere, passed on from one place. Declares nothing.
pub use Rattle.std.proofs.Common.{◌&&◌, ◌*◌, ◌++◌, ◌+◌, ◌-◌, ◌<◌, ◌==◌, ◌^◌, ◌∙◌, ◌∷◌, ◌≡◌, ◌≤◌, ◌⊎◌, [], ap, arith, Bool, cond, false, get_or, inl, inr, length, List, map, max, nat_le, nat_lt, None, not, Option, refl, replicate, set, Some, subst, suc, sym, take, true, zero, ℕ}
pub use Rattle.std.proofs.Math.ListN.{length-replicate, length-set}
pub use Rattle.std.proofs.Math.Nat.{le-max_left, le-max_right, max-eq_left, max-eq_right, max-le}
pub use Rattle.std.proofs.lemmas.Bool.Decides.{nat_tests}
pub use Rattle.std.specs.List.{list_any}
pub use Rattle.xl_hart_model.specs.Harts.{accessed_by, after_hart_events, after_hart_refusal, array_fenced, array_walked, change_rule, current_hart, first_refusal, Hart, hart_asked, hart_at, hart_fenced, hart_hit, hart_replied, hart_switched, hart_walked, HartsState, is_equal, is_full, kept_leaves, leaf_seen, longest, mapping_changed, of_mapping, oldest, opening_hart, own_served, queue_of, refused_unless, request_taken, shared_row, with_taken}
unfoldable pub use Rattle.xl_hart_model.specs.Harts.{after_hart_event, hart_accessed, hart_change, hart_refusal, hart_reply, hart_rule, hart_served, opening_harts}
pub use Rattle.xl_hart_model.specs.Requests.{held_leaves, older, request_of, undone, with_held}
pub use Rattle.xl_hart_model.specs.declared.hart.HartEvent.{HartEvent}
pub use Rattle.xl_hart_model.specs.declared.hart.HartRefusal.{HartRefusal}
pub use Rattle.xl_hart_model.specs.declared.hart.HartSpec.{HartSpec}
pub use Rattle.xl_hart_model.specs.declared.hart.Request.{Request}
pub use Rattle.xl_list_lemmas.proofs.MemberLemmas.{find-In, find-passes, In-any, In-append, In-left, In-right}
pub use Rattle.xl_list_lemmas.specs.Members.{In}
pub use Rattle.xl_model.specs.Addresses.{allows, is_canonical, level_of, page_of, pages_of}
pub use Rattle.xl_model.specs.Base.{one_if}
pub use Rattle.xl_model.specs.Changes.{at_page, Change, Insert, new_leaf, old_leaf, Protect, Relocate, Remove, with_new, with_perm, without_old}
unfoldable pub use Rattle.xl_model.specs.Changes.{changed}
pub use Rattle.xl_model.specs.Frames.{lowest}
pub use Rattle.xl_model.specs.Mapping.{covers, holds_frames, leaf_key, leaf_named, reply_by, reply_where, with_leaf, without_leaf}
unfoldable pub use Rattle.xl_model.specs.Mapping.{flat, leaf_at_page}
pub use Rattle.xl_model.specs.Rows.{Row}
pub use Rattle.xl_model.specs.Rules.{insert_at}
unfoldable pub use Rattle.xl_model.specs.Rules.{change_of, rule}
pub use Rattle.xl_model.specs.Shapes.{brought, Chained, Cuckoo, narrowed, Radix, Runs, Shape, widened}
unfoldable pub use Rattle.xl_model.specs.Shapes.{opening_shape, shape_after}
pub use Rattle.xl_model.specs.Structures.{finds_place, TableState}
unfoldable pub use Rattle.xl_model.specs.Structures.{table_after, table_made, table_walked, verdict}
pub use Rattle.xl_model.specs.Tlb.{array_hit, first_found, TlbArray}
pub use Rattle.xl_model.specs.declared.address.Kind.{Kind}
pub use Rattle.xl_model.specs.declared.address.Order.{Order}
pub use Rattle.xl_model.specs.declared.event.Event.{Event}
pub use Rattle.xl_model.specs.declared.leaf.Leaf.{Leaf}
pub use Rattle.xl_model.specs.declared.perm.Perm.{Perm}
pub use Rattle.xl_model_lemmas.proofs.InsertionLemmas.{sorted-without, with-In, without-In, without-other}
pub use Rattle.xl_model_lemmas.proofs.LowestLemmas.{lowest-is-lowest}
pub use Rattle.xl_model_lemmas.proofs.PlaceLemmas.{frame-shared, holds-meets, named-space, page-block}
pub use Rattle.xl_model_lemmas.proofs.PoolChangeLemmas.{new-In, old-In}
pub use Rattle.xl_model_lemmas.proofs.RuleLemmas.{has-place, HasPlace, kept-sound, no-overlap, or-first, or-second, sound-of, unless-true}
pub use Rattle.xl_model_lemmas.proofs.SortedLemmas.{put-back, took-back}
pub use Rattle.xl_model_lemmas.specs.Fresh.{InSets}
pub use Rattle.xl_model_lemmas.specs.Lowest.{IsAnswer, IsFree, IsLowest}
pub use Rattle.xl_model_lemmas.specs.Mappings.{IsMapping, IsSound}
pub use Rattle.xl_hart_laws.specs.Histories.{IsHistory, IsKnown, IsOwned, owners}
pub use Rattle.xl_hart_laws.specs.Kept.{IsHart, IsHartSpec, IsKept, IsOfOlder, IsTable}
pub use Rattle.xl_hart_laws.specs.Laws.{AreQueues, ComesIntoQueue, IsCoherent, IsFrameKept, IsOlderReply, IsOutOfReach, TakesOldest}
