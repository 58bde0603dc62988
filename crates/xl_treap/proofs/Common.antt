-- The names that this crate's proofs import from elsewhere, passed on from one place. Declares nothing.
pub use Rattle.std.proofs.Common.{◌%◌, ◌&&◌, ◌*◌, ◌++◌, ◌+◌, ◌-◌, ◌/◌, ◌<◌, ◌==◌, ◌^◌, ◌||◌, ◌∙◌, ◌∷◌, ◌≡◌, ◌≤◌, ◌⊎◌, [], add-zero, ap, append_assoc, arith, Bool, cond, false, find, get_or-set_other, get_or-set_same, inl, inr, length, length-append, length-set, List, nat_lt, None, not, Option, refl, replicate, slice_index, slice_set, Some, subst, suc, sym, true, zero, ℕ}
pub use Rattle.std.proofs.lemmas.Bool.Decides.{nat_tests}
pub use Rattle.std.proofs.lemmas.List.{get_or-replicate, length-replicate, with_items_is}
pub use Rattle.std.specs.List.{list_all, list_any}
pub use Rattle.std.specs.Vec.{vec_capacity, with_items}
pub use Rattle.xl_list_lemmas.proofs.MemberLemmas.{any-In, In-append, In-left, In-right, pick-no, pick-yes}
pub use Rattle.xl_list_lemmas.proofs.OnceLemmas.{once-last, once-more}
pub use Rattle.xl_list_lemmas.specs.Members.{In, Once}
pub use Rattle.xl_model.specs.Ranges.{end_key, holds_page, is_above, is_between, is_read, range_key, reads_among}
unfoldable pub use Rattle.xl_model.specs.Ranges.{range_reads}
pub use Rattle.xl_model.specs.declared.leaf.Range.{Range}
pub use Rattle.xl_treap.specs.Back.{end_of, ended, loaded_before, loaded_times, Searched, visit_of, visited}
unfoldable pub use Rattle.xl_treap.specs.Back.{search_from}
pub use Rattle.xl_treap.specs.Kept.{IsKept, IsTreap, seen_in, upto, WordsReadBack}
pub use Rattle.xl_treap.specs.Lines.{beyond, IsNode, link_at, on_side, order_said, range_by, range_of_link, range_of_node, range_under, side_at, side_in}
unfoldable pub use Rattle.xl_treap.specs.Lines.{node_word, range_said}
pub use Rattle.xl_treap.specs.Steps.{AreBeside, CanMerge, CanPart, CanPut, CanRise, CanTake, Each, Half, IsAttached, IsCut, IsEmpty, IsHung, IsLined, IsLinked, IsMade, IsParted, IsReached, IsResized, IsRisen, IsSized, IsSpine, IsTaken, IsTree, IsWay, Keeps, Off, parent_at, SameBut, SameLine, SameOff, step_at, TopOver}
pub use Rattle.xl_treap.specs.Treaps.{first_from, has_key, IsApart, IsFit, keeping, key_at, last_below, last_or, resized, TreapState, TreapView, with_range, without_range}
pub use Rattle.xl_treap.specs.Trees.{Bin, child, cut, cut_by, down, Every, examined, found, graft, InOrder, IsAt, IsHeap, merge, merge_into, Over, Pair, ranges, Tip, toward, Tree, tree_at, tree_by, with_child}
pub use Rattle.xl_treap.specs.declared.along.Visit.{Visit}
pub use Rattle.xl_treap.specs.declared.node.Side.{Side}
pub use Rattle.xl_treap.specs.declared.node.Side.TheVariants.{High, Low}
pub use Rattle.xl_treap.specs.declared.parting.Parts.{Parts}
