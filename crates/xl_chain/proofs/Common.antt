-- The names that this crate's proofs import from elsewhere, passed on from one place. Declares nothing.
pub use Rattle.std.proofs.Common.{◌%◌, ◌*◌, ◌++◌, ◌+◌, ◌-◌, ◌/◌, ◌<◌, ◌==◌, ◌^◌, ◌∙◌, ◌∷◌, ◌≡◌, ◌≤◌, ◌⊎◌, [], add-zero, ap, arith, Bool, cond, drop, false, inl, inr, length, length-append, List, lit<, map, nat_lt, None, not, Option, refl, replicate, slice_index, slice_set, Some, subst, suc, sym, take, true, zero, ℕ}
pub use Rattle.std.proofs.Math.ListN.{length-set}
pub use Rattle.std.proofs.lemmas.Bool.Decides.{nat_tests}
pub use Rattle.std.proofs.lemmas.List.{append-nil, get_or-replicate, get_or-set_other, get_or-set_same, get_or_read_under, length-map, length-replicate, map-append, with_items_is}
pub use Rattle.std.proofs.lemmas.List.Elements.{filter-append}
pub use Rattle.std.specs.List.{list_any}
pub use Rattle.std.specs.Prelude.{◌||◌, filter, find, IfSome, is_some}
pub use Rattle.std.specs.Vec.{vec_capacity, vec_len, with_items}
pub use Rattle.xl_list_lemmas.proofs.BucketLemmas.{length-by, unequal}
pub use Rattle.xl_list_lemmas.proofs.MemberLemmas.{any-false, any-In, filter-In, filter-passes, find-In, find-only, find-passes, In-any, In-append, In-left, In-map, In-right, map-In, pick-no, pick-yes}
pub use Rattle.xl_list_lemmas.proofs.OnceLemmas.{once-last, once-more}
pub use Rattle.xl_list_lemmas.specs.Buckets.{gather, in_front_by}
pub use Rattle.xl_list_lemmas.specs.Members.{In, Once}
pub use Rattle.xl_model.specs.Chains.{bucket_of, examined, has_tag}
unfoldable pub use Rattle.xl_model.specs.Chains.{chain_of}
pub use Rattle.xl_chain.specs.Back.{chain_back, chain_loads, ended, loaded_before, loaded_times, place_by, search_head, Searched, visit_of, visited}
unfoldable pub use Rattle.xl_chain.specs.Back.{place_from, search_back, search_from}
pub use Rattle.xl_chain.specs.Held.{ChainState, entries_from, entry_found, entry_of, first_value, found_of, has, Held, held_at, held_in, in_front_of, is_entry, loads_after, next_in, run, seen_in, tag_in, tags_of, value_in, with_value}
unfoldable pub use Rattle.xl_chain.specs.Held.{chain_in, held_of, held_with, value_of, values_in, without_tag}
pub use Rattle.xl_chain.specs.Kept.{Apart, AreLinked, Filled, IsChain, IsFront, IsInserted, IsLinked, IsTable, SameEntry, upto}
pub use Rattle.xl_chain.specs.Layout.{base_at, IsShape, line_at, most_entries, place_of_value}
pub use Rattle.xl_chain.specs.Lines.{AreLines, AreSingle, IsOwn, WordsReadBack}
unfoldable pub use Rattle.xl_chain.specs.Lines.{in_bucket}
pub use Rattle.xl_chain.specs.Places.{found_by, IsFirst, IsIndex, IsPlace, IsTaken, known, moved, place_at, place_found, placed, set_place, tag_by, tag_led}
pub use Rattle.xl_chain.specs.Steps.{IsPast, IsStepOf, Leads, tag_place}
pub use Rattle.xl_chain.specs.declared.along.Visit.{Visit}
pub use Rattle.xl_chain.specs.declared.shape.ChainShape.{ChainShape}
pub use Rattle.xl_chain.specs.declared.shape.Seek.{Seek}
