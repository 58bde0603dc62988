-- The names that this crate's proofs import from elsewhere, passed on from one place. Declares nothing.
pub use Rattle.std.proofs.Common.{◌++◌, ◌+◌, ◌-◌, ◌<◌, ◌==◌, ◌^◌, ◌||◌, ◌∙◌, ◌∷◌, ◌≡◌, ◌≤◌, ◌⊎◌, [], ap, arith, Bool, cond, drop, false, get_or, IfErr, inl, inr, length, length-append, List, map, nat_le, nat_lt, None, not, OnOk, Option, refl, set, Some, subst, suc, sym, take, true, Vec, zero, ℕ}
pub use Rattle.std.proofs.Math.Seq.{drop-cons, get_or-append_seam, map-set_same, take-append_seam, take-length, take-suc}
pub use Rattle.std.proofs.lemmas.Bool.Decides.{nat_tests}
pub use Rattle.std.proofs.lemmas.List.{drop_all, get_or-set_same, get_or_default, get_or_read_under, length-map, length-set, length-take-le, map-append, map-set, set-get_or, set-set, with_items_is}
pub use Rattle.std.specs.Option.{option_or}
pub use Rattle.std.specs.Prelude.{find, IfSome, is_some, IsSome}
pub use Rattle.std.specs.Vec.{with_items}
pub use Rattle.xl_list_lemmas.specs.Tallies.{tally}
pub use Rattle.xl_model.specs.Base.{one_if, plus}
pub use Rattle.xl_model.specs.Placing.{after_attempt, after_placing, AtCap, Attempt, begins, begun_if_full, by_occupant, Candidate, candidate, Displaced, Fails, forced_moves, growths_left, holder_from, is_held, next_way, Placed, Placing, put_in, settled_moves, settled_way, slots_settled, smaller, start_way, Succeeds, to_grow, total, way_at, with_growth}
unfoldable pub use Rattle.xl_model.specs.Placing.{attempt, forced, insertion, place, placing, settled}
pub use Rattle.xl_model.specs.Shapes.{opening_ways}
pub use Rattle.xl_model.specs.Ways.{has_key, occupant, reworded, slots_left, swapped, WayShape, without_key}
unfoldable pub use Rattle.xl_model.specs.Ways.{advanced, begun, opening_way, with_word, without_entry}
pub use Rattle.xl_model.specs.declared.way.Entry.{Entry}
pub use Rattle.xl_model.specs.declared.way.Moves.{Moves}
pub use Rattle.xl_model_lemmas.proofs.PlacingLemmas.{entries-same, forced-entries, insertion-adds}
pub use Rattle.xl_model_lemmas.specs.Sections.{entries_in, entries_of}
pub use Rattle.xl_way.proofs.WayLemmas.{held_by}
pub use Rattle.xl_way.specs.Slots.{WayState, word_in}
unfoldable pub use Rattle.xl_way.specs.Slots.{word_of}
pub use Rattle.xl_cuckoo.specs.Growth.{candidate_in, candidate_of}
pub use Rattle.xl_cuckoo.specs.State.{changed_by, no_way, put_at, shapes, state_at, with_begun, with_forced, with_settled, with_swapped}
pub use Rattle.xl_cuckoo.specs.Table.{AddsEntry, AreOnce, CuckooState, inserted, IsTable, loaded, SameEntries, value_of}
pub use Rattle.xl_cuckoo.specs.Undo.{displaced, in_hand, key_of, previous_way}
unfoldable pub use Rattle.xl_cuckoo.specs.Undo.{keys_in_hand, undone}
