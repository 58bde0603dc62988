-- The names that this crate's proofs import from elsewhere, passed on from one place. Declares nothing.
pub use Rattle.std.proofs.Common.{◌%◌, ◌&&◌, ◌*◌, ◌+◌, ◌-◌, ◌/◌, ◌<◌, ◌==◌, ◌^◌, ◌||◌, ◌∙◌, ◌∷◌, ◌≡◌, ◌≤◌, [], ap, arith, Bool, Err, false, inl, inr, is_some, IsErrAnd, length, List, nat_le, nat_lt, None, not, Ok, Option, refl, Result, Some, subst, suc, sym, true, zero, ℕ}
pub use Rattle.std.proofs.lemmas.Bool.Decides.{nat_tests}
pub use Rattle.std.specs.List.{list_all, list_any}
pub use Rattle.std.specs.Prelude.{IfSome, replicate}
pub use Rattle.xl_array.specs.Arrays.{InLimits, IsFit}
pub use Rattle.xl_list_lemmas.proofs.MemberLemmas.{any-In, find-In, find-passes, In-any, same-tests}
pub use Rattle.xl_list_lemmas.specs.Members.{In}
pub use Rattle.xl_model.specs.Addresses.{allows, is_aligned, levels_of, pages_of}
unfoldable pub use Rattle.xl_model.specs.Addresses.{is_canonical, page_of}
pub use Rattle.xl_model.specs.Changes.{at_page, Change, Insert, new_leaf, old_leaf, Protect, Relocate, Remove, with_perm}
unfoldable pub use Rattle.xl_model.specs.Changes.{changed}
pub use Rattle.xl_model.specs.Frames.{lowest}
pub use Rattle.xl_model.specs.LeafWords.{perm_at, small_leaf}
pub use Rattle.xl_model.specs.Mapping.{covers, holds_frames, is_leaf, leaf_named, reply_by}
unfoldable pub use Rattle.xl_model.specs.Mapping.{flat, leaf_at_page}
pub use Rattle.xl_model.specs.RowRun.{arrays_after, changed_by, counts_refused, outcome_by, reach_of, refusal_of, RowState, walk_filled, walk_made}
unfoldable pub use Rattle.xl_model.specs.RowRun.{accessed, after_event, served as done, fenced, looked, opening, outcome_of, reply_to}
pub use Rattle.xl_model.specs.Rows.{is_array, is_width, is_within, IsRow, levels_rise, levels_rise_from, Row, row_of}
pub use Rattle.xl_model.specs.Rules.{fence_rule, frames_rule, named_rule, overlap_rule, place_rule, there_rule, unless}
unfoldable pub use Rattle.xl_model.specs.Rules.{change_of, rule}
pub use Rattle.xl_model.specs.Scenes.{Served}
pub use Rattle.xl_model.specs.Structures.{after_by, answer_by, fence_answer, IsBlock, IsChange, IsLeafFor, IsPage, IsWalk, Made, NoPlace, NoSpace, page_limit, spaces_of, TableState, Verdict, verdict}
unfoldable pub use Rattle.xl_model.specs.Structures.{table_after, table_answer, table_fenced, table_made, table_walked, walk_answer}
pub use Rattle.xl_model.specs.Tally.{IsSmall}
unfoldable pub use Rattle.xl_model.specs.Tally.{count_accepted, count_fence, count_fills, count_invalidated, count_look, count_refusal, count_reply, count_walk, count_work, no_counts}
pub use Rattle.xl_model.specs.Tlb.{Answer, answer_of, arrays_without, leaf_count, reaches_leaf, TlbArray}
pub use Rattle.xl_model.specs.declared.address.Kind.{Kind}
pub use Rattle.xl_model.specs.declared.address.Mode.{Mode}
pub use Rattle.xl_model.specs.declared.address.Order.{Order}
pub use Rattle.xl_model.specs.declared.event.Event.{Event}
pub use Rattle.xl_model.specs.declared.event.Refusal.{Refusal}
pub use Rattle.xl_model.specs.declared.event.Scope.{Scope}
pub use Rattle.xl_model.specs.declared.leaf.Leaf.{Leaf}
pub use Rattle.xl_model.specs.declared.leaf.Reply.{Reply}
pub use Rattle.xl_model.specs.declared.perm.Perm.{Perm}
pub use Rattle.xl_model.specs.declared.row.Counts.{Counts}
pub use Rattle.xl_model.specs.declared.work.Refused.{Refused}
pub use Rattle.xl_model.specs.declared.work.Work.{Work}
pub use Rattle.xl_model_lemmas.proofs.ChangeLemmas.{changed-In, first-small, stays-changed}
pub use Rattle.xl_model_lemmas.proofs.CoverLemmas.{covered-is, named-by}
pub use Rattle.xl_model_lemmas.proofs.FreshArrayLemmas.{changed-fresh, filled-fresh, hit-fresh, opening-fresh, without-fresh}
pub use Rattle.xl_model_lemmas.proofs.PlaceLemmas.{page-block, pages-some}
pub use Rattle.xl_model_lemmas.proofs.PoolChangeLemmas.{new-In, old-In, pool-given, pool-removed, pool-taken}
pub use Rattle.xl_model_lemmas.proofs.PoolLemmas.{has-frames, lowest-none, lowest-some, no-frames}
pub use Rattle.xl_model_lemmas.proofs.RuleLemmas.{kept-sound, new-place, or-first, or-second, sound-of, unless-true}
pub use Rattle.xl_model_lemmas.specs.Fresh.{ArraysFresh}
pub use Rattle.xl_model_lemmas.specs.Mappings.{IsLeafOf, IsMapping, IsNewLeaf, IsNewPlace, IsSound}
pub use Rattle.xl_model_lemmas.specs.Pools.{IsPoolOf}
pub use Rattle.xl_tlb.specs.Tlbs.{AreSpecs, IsRising, IsSpec, leaf_replied, looked_arrays, NoneBelow, TlbState}
unfoldable pub use Rattle.xl_tlb.specs.Tlbs.{tlb_fenced, tlb_filled, tlb_looked, tlb_opening, tlb_purged}
pub use Rattle.xl_machine.specs.Rules.{rule_of, there_of}
pub use Rattle.xl_machine.specs.Served.{accessed_by, after_of, counts_of, done_counts, fence_counts, HasPage, IsFound, IsFoundSmall, IsReply, IsRowFor, IsSameAccess, IsSameWalked, IsServed, opened, refused_by, served, state_of, walked_by}
