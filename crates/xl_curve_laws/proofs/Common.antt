-- The names that this crate's proofs import from elsewhere, passed on from one place. Declares nothing.
pub use Rattle.std.proofs.Common.{◌%◌, ◌*◌, ◌+◌, ◌-◌, ◌/◌, ◌<◌, ◌∙◌, ◌∷◌, ◌≡◌, ◌≤◌, [], ap, arith, Bool, false, find, inl, inr, List, map, nat_le, None, Option, refl, slice_get, slice_index_or, Some, subst, suc, sym, true, zero, ℕ}
pub use Rattle.std.proofs.lemmas.Bool.Decides.{nat_tests}
pub use Rattle.std.specs.Cmp.{first_so, second_so}
pub use Rattle.xl_curve_model.specs.Curves.{held_in, HitCurve, hits_of, leaf_touched, opening_point, Point, point_accessed, point_without, same_leaf, spec_of_width}
unfoldable pub use Rattle.xl_curve_model.specs.Curves.{curve_accessed, curve_missed, curve_without, hits_at, opening_curve}
pub use Rattle.xl_list_lemmas.proofs.MemberLemmas.{find-In, find-passes, same-tests}
pub use Rattle.xl_list_lemmas.specs.Members.{In}
pub use Rattle.xl_model.specs.Addresses.{is_canonical, page_of, pages_of, same_order}
pub use Rattle.xl_model.specs.Mapping.{covers, flat, leaf_at_page}
pub use Rattle.xl_model.specs.Rows.{Row}
pub use Rattle.xl_model.specs.Tlb.{Answer, answer_of, array_filled, array_without, covers_as, first_found, found_as, is_purged, reaches_leaf, serves_as, serves_kind, set_at, set_number, takes_order, TlbArray, with_set}
unfoldable pub use Rattle.xl_model.specs.Tlb.{array_hit, array_touched, arrays_filled, arrays_hit, arrays_without, opening_arrays}
pub use Rattle.xl_model.specs.declared.leaf.Leaf.{Leaf}
pub use Rattle.xl_model_lemmas.proofs.CoverLemmas.{covered-is, covered-one, found-leaf}
pub use Rattle.xl_model_lemmas.proofs.HitLemmas.{get-In}
pub use Rattle.xl_model_lemmas.specs.Fresh.{ArraysFresh}
