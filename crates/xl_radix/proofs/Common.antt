-- The names that this crate's proofs import from elsewhere, passed on from one place. Declares nothing.
pub use Rattle.std.proofs.Common.{if◌then◌else◌, ◌%◌, ◌&&◌, ◌*◌, ◌++◌, ◌+◌, ◌-◌, ◌/◌, ◌<◌, ◌==◌, ◌^◌, ◌∙◌, ◌∷◌, ◌≡◌, ◌≢◌, ◌≤◌, ◌⊎◌, [], ap, append_assoc, arith, Bool, cond, drop, false, inl, inr, length, length-append, List, lit<, map, nat_le, nat_lt, None, not, Option, refl, replicate, rules, slice_index, slice_index_or, slice_set, Some, subst, suc, sym, take, true, zero, ℕ}
pub use Rattle.std.proofs.lemmas.Bool.{cases_eq, cases_lt, eq-eqb, eqb-false, eqb-true, false_from_ne_true, false≢true}
pub use Rattle.std.proofs.lemmas.Bool.Decides.{nat_tests}
pub use Rattle.std.proofs.lemmas.Grind.{get_or_default_zero}
pub use Rattle.std.proofs.lemmas.Iterator.Adapters.{position_from-zero}
pub use Rattle.std.proofs.lemmas.List.{get_or-drop, get_or-replicate, get_or-set_other, get_or-set_same, get_or_append_left, get_or_past, length-drop, length-replicate, length-set, replicate-append-replicate, set-append_left, take_all}
pub use Rattle.std.proofs.lemmas.Option.{same_Some}
pub use Rattle.std.specs.List.{filter, find, list_any, position, position_from}
pub use Rattle.std.specs.Prelude.{IfNone, IfSome, is_none, is_some}
pub use Rattle.xl_list_lemmas.proofs.MemberLemmas.{any-false, any-In, find-In, find-None, find-only, find-passes, In-any}
pub use Rattle.xl_list_lemmas.specs.Members.{In}
pub use Rattle.xl_model.specs.Addresses.{level_of, pages_of}
pub use Rattle.xl_model.specs.Changes.{Insert, IsNamed, Protect, Relocate, Remove, with_new, without_old}
unfoldable pub use Rattle.xl_model.specs.Changes.{changed}
pub use Rattle.xl_model.specs.Image.{entry, image_from, is_slot, unless_zero, Word, word_of, words_from}
unfoldable pub use Rattle.xl_model.specs.Image.{image, leaf_in, word_at}
pub use Rattle.xl_model.specs.Mapping.{covers, is_leaf, leaf_key, meets_block, with_leaf}
unfoldable pub use Rattle.xl_model.specs.Mapping.{leaf_at_page, leaf_named, meets_any, without_leaf}
pub use Rattle.xl_model.specs.Nodes.{free_count, is_below, is_needed, is_under, kept_node, missing, Node, one_unless, put_first, roots, unless_there, up, with_path}
unfoldable pub use Rattle.xl_model.specs.Nodes.{in_nodes, leaf_nodes_missing, number_of, only_needed, opening_nodes, with_leaf_nodes, with_node}
unfoldable pub use Rattle.xl_model.specs.Room.{has_room}
pub use Rattle.xl_model.specs.Shapes.{brought, Radix}
unfoldable pub use Rattle.xl_model.specs.Shapes.{shape_after}
pub use Rattle.xl_model.specs.Structures.{IsBlock, IsLeafFor}
pub use Rattle.xl_model.specs.Walks.{end_level}
unfoldable pub use Rattle.xl_model.specs.Words.{leaf_word, pointer_word}
pub use Rattle.xl_model.specs.declared.address.Order.{Order}
pub use Rattle.xl_model.specs.declared.leaf.Leaf.{Leaf}
pub use Rattle.xl_model_lemmas.proofs.EndLemmas.{up-from}
pub use Rattle.xl_model_lemmas.proofs.InsertionLemmas.{In-with, In-without, same-place, sorted-with, sorted-without, stays-with, with-In, without-In, without-other}
pub use Rattle.xl_model_lemmas.proofs.MappingLemmas.{named-In, named-is}
pub use Rattle.xl_model_lemmas.proofs.PlaceLemmas.{aligned-frame, level-low, named-first, named-order, named-space, pages-some}
pub use Rattle.xl_model_lemmas.proofs.SortedLemmas.{same-sorted, with-without}
unfoldable pub use Rattle.xl_pte.specs.Decode.{decode_of}
pub use Rattle.xl_pte.specs.declared.word.Pte.{Pte}
pub use Rattle.xl_radix.specs.ReadBack.{leaf_by, leaf_said, order_of, read_to}
unfoldable pub use Rattle.xl_radix.specs.ReadBack.{leaf_here, read_back}
pub use Rattle.xl_radix.specs.Steps.{IsAtNode, IsEnd, IsLess, IsMade, IsMove, IsReady, IsTaken, shape_of}
pub use Rattle.xl_radix.specs.Table.{IsCounted, IsExact, IsImage, IsNearly, IsNew, IsRadixLeaf, IsRadixMapping, IsRooted, IsStore, one_if_filled, Table}
unfoldable pub use Rattle.xl_radix.specs.Table.{filled}
