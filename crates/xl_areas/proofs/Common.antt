-- The names that this crate's proofs import from elsewhere, passed on from one place. Declares nothing.
pub use Rattle.std.proofs.Common.{◌&&◌, ◌*◌, ◌++◌, ◌+◌, ◌-◌, ◌/◌, ◌<◌, ◌==◌, ◌^◌, ◌∙◌, ◌∷◌, ◌≡◌, ◌≤◌, ◌⊎◌, [], ap, arith, Bool, cond, drop, false, find, inl, inr, is_ok, length, List, map, nat_le, nat_lt, None, of_calls, Option, refl, rules, slice_index_or, slice_set, Some, subst, suc, sym, take, true, zero, ℕ}
pub use Rattle.std.proofs.lemmas.Bool.Decides.{nat_tests}
pub use Rattle.std.proofs.lemmas.List.{length-append, length-map, with_items_is}
pub use Rattle.std.specs.List.{All, AllWithin, insert}
pub use Rattle.xl_model.specs.Items.{in_area}
pub use Rattle.xl_model.specs.declared.script.Area.{Area}
pub use Rattle.xl_areas.specs.Bounds.{AreRising, has_key, IsIndex, IsPlaced, key_at, or_later, with_later}
unfoldable pub use Rattle.xl_areas.specs.Bounds.{answer_at, count_to, cut_at}
pub use Rattle.xl_areas.specs.declared.bounds.Bound.{Bound}
