-- The names that this crate's proofs import from elsewhere, passed on from one place. Declares nothing.
pub use Rattle.std.proofs.Common.{◌&&◌, ◌*◌, ◌+◌, ◌-◌, ◌<◌, ◌==◌, ◌^◌, ◌||◌, ◌∙◌, ◌∷◌, ◌≡◌, ◌≤◌, [], ap, arith, Bool, cond, Err, false, inl, inr, length, List, lit<, map, nat_lt, None, not, Ok, OnErr, OnOk, Option, refl, Result, slice_set, Some, subst, suc, sym, true, zero, ℕ}
pub use Rattle.std.proofs.lemmas.Bool.Decides.{nat_tests}
pub use Rattle.std.proofs.lemmas.List.{length-map}
pub use Rattle.std.specs.Prelude.{filter, find}
pub use Rattle.xl_chain.specs.Held.{ChainState, first_value, found_of, has, Held, in_front_of, is_entry, tags_of, with_value}
unfoldable pub use Rattle.xl_chain.specs.Held.{held_with, without_tag}
pub use Rattle.xl_chain.specs.Kept.{IsInserted}
pub use Rattle.xl_chain.specs.declared.shape.ChainShape.{ChainShape}
pub use Rattle.xl_list_lemmas.proofs.MemberLemmas.{filter-In, find-In, find-None, find-passes, In-any, In-map, map-In}
pub use Rattle.xl_list_lemmas.specs.Members.{In, Once}
pub use Rattle.xl_model.specs.Chains.{bucket_of, has_tag}
pub use Rattle.xl_model.specs.declared.address.Order.{Order}
pub use Rattle.xl_model.specs.declared.leaf.Leaf.{Leaf}
pub use Rattle.xl_sections.specs.Counted.{AreCounts, Count, CountState, IsTied, keys_of, number_of, part, unit}
unfoldable pub use Rattle.xl_sections.specs.Counted.{count_of, word_of}
pub use Rattle.xl_sections.specs.Raised.{AreKept, count_in, counts_of, IsLowered, IsRaised, number_in}
