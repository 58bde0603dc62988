-- The names that this crate's proofs import from elsewhere, passed on from one place. Declares nothing.
pub use Rattle.std.proofs.Common.{◌∙◌, ◌∷◌, ◌≡◌, [], ap, arith, Err, false, List, lit<, Ok, OnOk, refl, Result, slice_index, subst, sym, true, ℕ}
pub use Rattle.xl_chain.specs.Held.{ChainState, Held, tags_of}
pub use Rattle.xl_model.specs.Chains.{has_tag, leaf_tag, tag_of}
pub use Rattle.xl_tagged.proofs.SearchLemmas.{slot-one}
pub use Rattle.xl_tagged.proofs.StepLemmas.{absent-values, entry-held, inserted-put, not-held, removed-taken, set-slot, word-first}
pub use Rattle.xl_tagged.specs.Forms.{One, values_under, word_at}
pub use Rattle.xl_tagged.specs.Steps.{given_word, IsPut, IsSet, word_found}
