-- The names that this crate's proofs import from elsewhere, passed on from one place. Declares nothing.
pub use Rattle.std.proofs.Common.{◌+◌, ◌-◌, ◌<◌, ◌==◌, ◌||◌, ◌∙◌, ◌∷◌, ◌≡◌, ◌≤◌, [], ap, arith, Bool, cond, Err, false, inl, inr, length, List, lit<, map, not, Ok, OnErr, OnOk, refl, Result, slice_index, slice_set, subst, suc, sym, true, zero, ℕ}
pub use Rattle.std.proofs.lemmas.Bool.{eq-eqb, eqb-true, ne_eqb}
pub use Rattle.std.proofs.lemmas.List.{get_or-replicate, length-map}
pub use Rattle.std.specs.List.{list_any}
pub use Rattle.xl_chain.proofs.PlaceLemmas.{set-other, set-same}
pub use Rattle.xl_chain.specs.Held.{ChainState, found_of, Held, held_with, is_entry, tags_of, with_value, without_tag}
pub use Rattle.xl_model.specs.Chains.{has_tag}
pub use Rattle.xl_tagged.proofs.ChainLemmas.{found-under, IsUnderTag, same-entry, set-by, tags-set, values-front, values-without}
pub use Rattle.xl_tagged.proofs.SearchLemmas.{absent-word, slot-value}
pub use Rattle.xl_tagged.proofs.StepLemmas.{entry-held, inserted-put, len-set, not-held, removed-taken, tag-held, word-first}
pub use Rattle.xl_tagged.specs.Forms.{Sixteen, values_under, word_at}
pub use Rattle.xl_tagged.specs.Steps.{given_word, IsPut, IsSameTable, IsSet, IsTaken, IsWritten, word_found}
pub use Rattle.xl_clustered.specs.Blocks.{AreBlocks, IsCountedBlock, IsNewBlock, rewritten}
unfoldable pub use Rattle.xl_clustered.specs.Blocks.{used_in}
