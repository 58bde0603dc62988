-- The names that this crate's proofs import from elsewhere, passed on from one place. Declares nothing.
pub use Rattle.std.proofs.Common.{◌%◌, ◌&&◌, ◌*◌, ◌++◌, ◌+◌, ◌/◌, ◌<◌, ◌==◌, ◌^◌, ◌||◌, ◌∙◌, ◌∷◌, ◌≡◌, ◌≤◌, ◌⊎◌, [], ap, arith, Bool, cond, Err, false, inl, inr, length, length-append, List, lit<, map, nat_le, nat_lt, None, not, Ok, OnErr, Option, refl, Result, slice_index, slice_set, Some, subst, suc, sym, true, zero, ℕ}
pub use Rattle.std.proofs.lemmas.Bool.{eq-eqb, eqb-true}
pub use Rattle.std.proofs.lemmas.Bool.Decides.{nat_tests}
pub use Rattle.std.proofs.lemmas.List.{length-map, length-set}
pub use Rattle.std.specs.List.{list_any}
pub use Rattle.std.specs.Prelude.{filter, find, IfNone, IfSome, is_some}
pub use Rattle.xl_chain.specs.Held.{ChainState, first_value, found_of, has, Held, in_front_of, is_entry, loads_after, tags_of, value_in, with_value}
unfoldable pub use Rattle.xl_chain.specs.Held.{held_with, value_of, without_tag}
pub use Rattle.xl_chain.specs.Lines.{AreSingle}
pub use Rattle.xl_list_lemmas.proofs.BucketLemmas.{by-In, In-by, length-by, stays-by, tags-by}
pub use Rattle.xl_list_lemmas.proofs.MemberLemmas.{any-each, any-false, any-find, any-In, any-or, both, filter-In, filter-passes, find-In, find-only, find-passes, In-any, In-append, In-filter, In-left, In-map, In-right, none-any, same-tests}
pub use Rattle.xl_list_lemmas.proofs.OnceLemmas.{once-short, own-number}
pub use Rattle.xl_list_lemmas.proofs.TallyLemmas.{tally-any, tally-short}
pub use Rattle.xl_list_lemmas.specs.Members.{In}
pub use Rattle.xl_list_lemmas.specs.Tallies.{tally}
pub use Rattle.xl_model.proofs.CodeLemmas.{at-level}
pub use Rattle.xl_model.specs.Addresses.{level_of, order_at, pages_of, same_order}
pub use Rattle.xl_model.specs.Base.{one_if, plus}
unfoldable pub use Rattle.xl_model.specs.Caches.{caches_fenced, caches_purged}
pub use Rattle.xl_model.specs.Chains.{bucket_of, chain_of, examined, has_tag, in_front_of_bucket, leaf_tag, tag_of}
unfoldable pub use Rattle.xl_model.specs.Chains.{only_used_tags, with_tag}
pub use Rattle.xl_model.specs.Changes.{at_page, Change, Insert, IsNamed, Protect, Relocate, Remove, with_new, with_perm, without_old}
unfoldable pub use Rattle.xl_model.specs.Changes.{changed}
pub use Rattle.xl_model.specs.Mapping.{covers, is_leaf, leaf_key, meets_block, with_leaf, without_leaf}
unfoldable pub use Rattle.xl_model.specs.Mapping.{leaf_at_page, leaf_named, meets_any}
pub use Rattle.xl_model.specs.Placing.{no_moves}
pub use Rattle.xl_model.specs.Structures.{after_by, answer_by, finds_place, IsBlock, IsChange, IsFence, IsLeafFor, IsPage, IsWalk, Made, moves_made, TableState, verdict_by, work_of}
unfoldable pub use Rattle.xl_model.specs.Structures.{fence_answer, table_after, table_answer, table_fenced, table_made, table_walked, verdict, walk_answer}
pub use Rattle.xl_model.specs.Walks.{chain_reads, chains_reads, orders_tried}
unfoldable pub use Rattle.xl_model.specs.Walks.{walked}
pub use Rattle.xl_model.specs.Words.{bit_if}
unfoldable pub use Rattle.xl_model.specs.Words.{leaf_word}
pub use Rattle.xl_model.specs.declared.address.Order.{Order}
pub use Rattle.xl_model.specs.declared.leaf.Leaf.{Leaf}
pub use Rattle.xl_model.specs.declared.perm.Perm.{Perm}
pub use Rattle.xl_model.specs.declared.work.Refused.{Refused}
pub use Rattle.xl_model.specs.declared.work.Work.{Work}
pub use Rattle.xl_model_lemmas.proofs.InsertionLemmas.{In-with, In-without, same-place, sorted-with, sorted-without, stays-with, with-In, without-In, without-other}
pub use Rattle.xl_model_lemmas.proofs.KeptLemmas.{mapping-In, mapping-sorted, meets-sym, place-meets}
pub use Rattle.xl_model.proofs.OrderLemmas.{order-same, orders-same, same-level}
pub use Rattle.xl_model_lemmas.proofs.PlaceLemmas.{aligned-frame, covers-meets, level-low, named-first, named-key, named-order, named-space, pages-some}
pub use Rattle.xl_model_lemmas.proofs.SortedLemmas.{same-sorted, with-without}
pub use Rattle.xl_model_lemmas.specs.Entries.{or_leaf, with_some}
unfoldable pub use Rattle.xl_model_lemmas.specs.Kept.{mapping_of}
pub use Rattle.xl_model_lemmas.specs.Sections.{counts_at, IsAligned, key_in, of_order}
pub use Rattle.xl_model_lemmas.specs.Sorted.{IsSorted}
pub use Rattle.xl_pte.specs.ReadBack.{MadeWordsReadBack}
pub use Rattle.xl_tagged.specs.Counted.{any_smaller, AreCounted, AreIn, AreLess, AreMore, HasRoom, HaveRoom, is_smaller, IsCounted, IsIn, IsLess, IsMore, smaller_word, SmallerState}
pub use Rattle.xl_tagged.specs.Forms.{before, Form, group_of, most_tags, One, Sixteen, slot_of, values_by, word_at}
unfoldable pub use Rattle.xl_tagged.specs.Forms.{values_under}
pub use Rattle.xl_tagged.specs.Slots.{chained, first_found, found_from, found_in, held_leaves, leaf_read, leaf_said, loaded_more, loads_by, NoneLarge, order_loads, small_known, table_in, walk_loads}
unfoldable pub use Rattle.xl_tagged.specs.Slots.{leaf_in, leaves_under, slot_leaves}
pub use Rattle.xl_tagged.specs.Steps.{given_word, IsPut, IsSameTable, IsSet, IsTaken, IsWritten, word_found}
pub use Rattle.xl_tagged.specs.Tagged.{AreHeld, AreSized, IsAt, IsFit, IsTagged}
