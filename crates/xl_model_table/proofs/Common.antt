-- The names that this crate's proofs import from elsewhere, passed on from one place. Declares nothing.
pub use Rattle.std.proofs.Common.{◌++◌, ◌+◌, ◌<◌, ◌==◌, ◌^◌, ◌∙◌, ◌∷◌, ◌≡◌, ◌≤◌, ◌⊎◌, [], add-one, ap, append-nil, append_assoc, arith, Bool, cond, drop, Err, false, find, get_or, inl, inr, length, List, map, nat_le, nat_lt, None, not, Ok, Option, refl, Result, rules, set, Some, subst, suc, sym, take, true, ℕ}
pub use Rattle.std.proofs.lemmas.Bool.{eq-eqb, eqb-true, false_from_ne_true, ne_eqb, not-true}
pub use Rattle.std.proofs.lemmas.Bool.Decides.{nat_tests}
pub use Rattle.std.proofs.lemmas.List.{drop_all, take_all, take_more, with_items_is}
pub use Rattle.std.specs.List.{insert, list_any}
pub use Rattle.std.specs.Prelude.{filter, is_some}
pub use Rattle.std.specs.Vec.{vec_len, with_items}
pub use Rattle.xl_list_lemmas.proofs.BucketLemmas.{by-In, In-by, length-by, stays-by, tags-by}
pub use Rattle.xl_list_lemmas.proofs.MemberLemmas.{all-In, all-tail, any-false, any-same, both, filter-In, filter-passes, find-only, find-same, In-all, In-any, In-filter, In-map, map-In, none-any}
pub use Rattle.xl_list_lemmas.specs.Members.{In}
pub use Rattle.xl_model.specs.Chains.{bucket_of, examined, has_tag, in_front_of_bucket, leaf_tag}
unfoldable pub use Rattle.xl_model.specs.Chains.{chain_of, only_used_tags, with_tag}
pub use Rattle.xl_model.specs.Changes.{at_page, Change, Insert, IsNamed, Protect, Relocate, Remove}
unfoldable pub use Rattle.xl_model.specs.Changes.{changed}
pub use Rattle.xl_model.specs.Mapping.{covers, is_leaf, leaf_key, meets_block, with_leaf, without_leaf}
unfoldable pub use Rattle.xl_model.specs.Mapping.{leaf_at_page, leaf_named, meets_any}
pub use Rattle.xl_model.specs.Room.{room_for}
unfoldable pub use Rattle.xl_model.specs.Room.{has_room}
pub use Rattle.xl_model.specs.Shapes.{brought, Chained, narrowed, widened}
unfoldable pub use Rattle.xl_model.specs.Shapes.{shape_after}
pub use Rattle.xl_model.specs.Structures.{after_by, answer_by, finds_place, IsBlock, IsChange, IsFence, IsWalk, Made, moves_made, TableState, verdict_by, work_of}
unfoldable pub use Rattle.xl_model.specs.Structures.{fence_answer, table_after, table_answer, table_fenced, table_made, table_walked, verdict, walk_answer}
pub use Rattle.xl_model.specs.Walks.{chains_reads, orders_tried}
unfoldable pub use Rattle.xl_model.specs.Walks.{walked}
pub use Rattle.xl_model.specs.declared.address.Order.{Order}
pub use Rattle.xl_model.specs.declared.leaf.Leaf.{Leaf}
pub use Rattle.xl_model.specs.declared.perm.Perm.{Perm}
pub use Rattle.xl_model.specs.declared.work.Refused.{Refused}
pub use Rattle.xl_model.specs.declared.work.Work.{Work}
pub use Rattle.xl_model_lemmas.proofs.InsertionLemmas.{In-with, In-without, same-place, sorted-with, sorted-without, stays-with, with-In, without-In, without-other}
pub use Rattle.xl_model_lemmas.proofs.KeptLemmas.{mapping-In, mapping-sorted, meets-sym, place-meets}
pub use Rattle.xl_model_lemmas.proofs.MappingLemmas.{named-In, named-is}
pub use Rattle.xl_model_lemmas.proofs.PlaceLemmas.{covers-meets, named-key, named-order, named-space}
pub use Rattle.xl_model_lemmas.proofs.SortedLemmas.{same-sorted, with-without}
pub use Rattle.xl_model_lemmas.specs.Kept.{IsPlaced}
unfoldable pub use Rattle.xl_model_lemmas.specs.Kept.{mapping_of}
pub use Rattle.xl_model_table.specs.Kept.{IsApart, IsKept, protected_where, table_of}
unfoldable pub use Rattle.xl_model_table.specs.Kept.{in_front, with_perm_named, without_named}
