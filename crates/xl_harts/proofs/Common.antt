-- The names that this crate's proofs import from elsewhere, passed on from one place. Declares nothing.
pub use Rattle.std.proofs.Common.{◌%◌, ◌&&◌, ◌*◌, ◌++◌, ◌+◌, ◌-◌, ◌<◌, ◌==◌, ◌^◌, ◌||◌, ◌∙◌, ◌∷◌, ◌≡◌, ◌≤◌, [], add-one, ap, arith, Bool, drop, drop-cons, Err, false, get_or, IfSome, is_some, IsErrAnd, length, List, map, max, nat_lt, None, not, Ok, Option, refl, replicate, Result, set, Some, subst, suc, sym, take, true, zero, ℕ}
pub use Rattle.std.proofs.Math.Nat.{le-max_left, le-max_right, max-le}
pub use Rattle.std.proofs.lemmas.Bool.Decides.{nat_tests}
pub use Rattle.std.proofs.lemmas.List.{get_or-set_same, length-map, set-get_or, set-set}
pub use Rattle.std.specs.List.{All, list_any}
pub use Rattle.circular_buffer.specs.Buffer.{Buffer}
pub use Rattle.xl_array.proofs.PageLemmas.{small_says}
pub use Rattle.xl_array.specs.Arrays.{IsFit}
pub use Rattle.xl_array.specs.Touches.{IsPageTouch, IsPageWord}
pub use Rattle.xl_hart_laws.proofs.CoherenceLemmas.{coherent, opening-kept}
pub use Rattle.xl_hart_laws.proofs.CommandLemmas.{change-made, change-none, first-none, full-none, IsAllowed, made-leaves, refused-true, room-none, rule-allows, rule-none}
pub use Rattle.xl_hart_laws.proofs.FramePoolLemmas.{pool-stays, pool-with, pool-without}
pub use Rattle.xl_hart_laws.proofs.HistoryLemmas.{older-last, older-mapping}
pub use Rattle.xl_hart_laws.proofs.KeptLemmas.{accessed-kept, changed-kept, not-full, request-kept, switched-kept}
pub use Rattle.xl_hart_laws.proofs.OwnerLemmas.{inserted, owners-after, owners-append, owners-oldest, owners_by}
pub use Rattle.xl_hart_laws.proofs.QueueLemmas.{after-take, no-access, no-fence, no-switch, take-all, take-some}
pub use Rattle.xl_hart_laws.specs.Histories.{owners}
pub use Rattle.xl_hart_laws.specs.Kept.{IsHartSpec, IsKept, IsTable}
pub use Rattle.xl_hart_model.specs.Harts.{accessed_by, array_fenced, array_walked, change_rule, current_hart, first_refusal, Hart, hart_asked, hart_at, hart_fenced, hart_hit, hart_replied, hart_switched, HartsState, is_equal, is_full, kept_leaves, longest, mapping_changed, oldest, opening_hart, refused_unless, request_taken, shared_row, waiting_in}
unfoldable pub use Rattle.xl_hart_model.specs.Harts.{after_hart_event, hart_accessed, hart_change, hart_outcome, hart_refusal, hart_reply, hart_rule, hart_served, opening_harts}
pub use Rattle.xl_hart_model.specs.Requests.{held_leaves, older, request_of, undone, with_held}
pub use Rattle.xl_hart_model.specs.Tally.{count_hit, frames_in, no_refusals}
unfoldable pub use Rattle.xl_hart_model.specs.Tally.{count_miss}
pub use Rattle.xl_hart_model.specs.declared.hart.HartSpec.{HartSpec}
pub use Rattle.xl_hart_model.specs.declared.hart.Request.{Request}
pub use Rattle.xl_lackey.specs.declared.skim.Access.{Access}
pub use Rattle.xl_list_lemmas.proofs.MemberLemmas.{find-In, find-passes}
pub use Rattle.xl_list_lemmas.specs.Members.{In}
pub use Rattle.xl_model.specs.Addresses.{allows, is_aligned, is_canonical, pages_of}
unfoldable pub use Rattle.xl_model.specs.Addresses.{page_of}
pub use Rattle.xl_model.specs.Base.{plus}
pub use Rattle.xl_model.specs.Changes.{Change, changed, Insert, IsNamed, Protect, Relocate, Remove, with_new, without_old}
pub use Rattle.xl_model.specs.LeafWords.{small_leaf}
pub use Rattle.xl_model.specs.Mapping.{covers, is_leaf, leaf_named, reply_by, reply_where}
unfoldable pub use Rattle.xl_model.specs.Mapping.{leaf_at_page}
pub use Rattle.xl_model.specs.Nodes.{Node}
unfoldable pub use Rattle.xl_model.specs.Nodes.{leaf_nodes_missing}
unfoldable pub use Rattle.xl_model.specs.Room.{has_room}
pub use Rattle.xl_model.specs.Rules.{frames_rule, named_rule, overlap_rule, place_rule, there_rule, unless}
unfoldable pub use Rattle.xl_model.specs.Rules.{change_of, rule}
pub use Rattle.xl_model.specs.Shapes.{brought, Chained, Cuckoo, Radix, Runs, Shape}
pub use Rattle.xl_model.specs.Structures.{answer_by, finds_place, IsBlock, IsLeafFor, IsPage, IsWalk, Made, page_limit, spaces_of, table_after, TableState}
unfoldable pub use Rattle.xl_model.specs.Structures.{table_answer, table_walked, verdict, walk_answer}
pub use Rattle.xl_model.specs.Tlb.{array_filled, array_hit, array_touched, first_found, TlbArray}
pub use Rattle.xl_model.specs.declared.address.Kind.{Kind}
pub use Rattle.xl_model.specs.declared.address.Order.{Order}
pub use Rattle.xl_model.specs.declared.event.Event.{Event}
pub use Rattle.xl_model.specs.declared.event.Refusal.{Refusal}
pub use Rattle.xl_model.specs.declared.leaf.Leaf.{Leaf}
pub use Rattle.xl_model.specs.declared.leaf.Reply.{Reply}
pub use Rattle.xl_model.specs.declared.perm.Perm.{Perm}
pub use Rattle.xl_model.specs.declared.work.Walk.{Walk}
pub use Rattle.xl_model_lemmas.proofs.PoolLemmas.{has-frames, lowest-none, lowest-some, no-frames}
pub use Rattle.xl_model_lemmas.proofs.RuleLemmas.{has-place, HasPlace, no-overlap, or-first, or-second, unless-true}
pub use Rattle.xl_model_lemmas.specs.Mappings.{IsLeafOf, IsMapping, IsNewLeaf, IsNewPlace}
pub use Rattle.xl_model_lemmas.specs.Pools.{IsPoolOf}
pub use Rattle.xl_radix_walk.specs.Row.{opening_table, row_table}
pub use Rattle.xl_harts.specs.Events.{accesses_served, AreServed, HasSmallReplies, last_reply, outcome_of, refused_by}
pub use Rattle.xl_harts.specs.Looks.{hart_after, hart_filled, IsAccess, IsReached, IsSeen, IsWalked, table_looked}
pub use Rattle.xl_harts.specs.Views.{after_own, AllShort, IsCurrent, IsHarts, IsServed, leaf_at, refusal_of, state_of}
