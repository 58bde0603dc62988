-- The names that this crate's proofs import from elsewhere, passed on from one place. Declares nothing.
pub use Rattle.std.proofs.Common.{◌%◌, ◌&&◌, ◌*◌, ◌++◌, ◌+◌, ◌-◌, ◌/◌, ◌<◌, ◌==◌, ◌^◌, ◌∙◌, ◌∷◌, ◌≡◌, ◌≤◌, ◌⊎◌, [], ap, arith, Bool, cond, eq-eqb, false, get_or, inl, inr, length, length-append, List, map, nat_lt, None, not, Option, refl, replicate, set, Some, subst, suc, sym, true, zero, ℕ}
pub use Rattle.std.proofs.Math.Pow.{pow_mono}
pub use Rattle.std.proofs.lemmas.Bool.Decides.{nat_tests}
pub use Rattle.std.proofs.lemmas.List.{get_or-append-add, get_or-replicate, get_or-set_other, get_or-set_same, get_or_append_left, length-replicate, length-set, set-get_or, with_items_is}
pub use Rattle.std.proofs.lemmas.Nat.{and_mask, mod-pow-add, pow_pos}
pub use Rattle.std.specs.Prelude.{bit_and, find, IfNone, IfSome, is_some, slice_index}
pub use Rattle.std.specs.Vec.{with_items}
pub use Rattle.xl_model.specs.Hashes.{mix}
unfoldable pub use Rattle.xl_model.specs.Hashes.{way_hash}
pub use Rattle.xl_model.specs.Placing.{is_held}
pub use Rattle.xl_model.specs.Ways.{begun_regs, has_key, regs_after, reworded, slot_at, slots_left, WayShape, with_entry, without_key, without_occupant}
unfoldable pub use Rattle.xl_model.specs.Ways.{advanced, begun, occupant, opening_way, slot, swapped, with_word, without_entry}
pub use Rattle.xl_model.specs.declared.way.Entry.{Entry}
pub use Rattle.xl_model.specs.declared.way.WayRegs.{WayRegs}
pub use Rattle.xl_phys.specs.Lines.{IsLine}
pub use Rattle.xl_way.specs.Back.{found_in, look_of, slot_says}
unfoldable pub use Rattle.xl_way.specs.Back.{slot_back}
pub use Rattle.xl_way.specs.Cells.{kept_of, moved, passing}
pub use Rattle.xl_way.specs.Kept.{AreApart, ArePlaced, AreRegs, IsKept, IsReady, reach, WordsReadBack}
pub use Rattle.xl_way.specs.Slots.{cell, no_entry, PlacesState, put, WayState, word_in}
unfoldable pub use Rattle.xl_way.specs.Slots.{entries_of, word_of}
pub use Rattle.xl_way.specs.Words.{or_empty, slot_words, slots_of}
unfoldable pub use Rattle.xl_way.specs.Words.{standing, words_of}
