-- The names that this crate's proofs import from elsewhere, passed on from one place. Declares nothing.
pub use Rattle.std.proofs.Common.{if◌then◌else◌, ◌%◌, ◌&&◌, ◌*◌, ◌++◌, ◌+◌, ◌-◌, ◌/◌, ◌<◌, ◌==◌, ◌^◌, ◌||◌, ◌∙◌, ◌∷◌, ◌≡◌, ◌≢◌, ◌≤◌, [], ap, append_assoc, arith, Bool, drop, false, find, get_or, is_some, length, List, map, nat_lt, None, not, Option, refl, replicate, rules, set, Some, subst, suc, sym, take, true, zero, ℕ}
pub use Rattle.std.proofs.lemmas.Bool.Decides.{nat_tests}
pub use Rattle.std.proofs.lemmas.List.{drop-set, drop-set-lt, drop_all, drop_more, ext_get_or, get_or-append_right, get_or-drop, get_or-map, get_or-replicate, get_or-set_other, get_or-set_same, get_or-take, get_or_append_left, get_or_default, length-append, length-drop, length-map, length-replicate, length-set, length-take-le, map-set, set-get_or, take-append-drop, take-append-le, take-set, take-set-le, take_all, take_at, take_more, take_more_set}
pub use Rattle.std.proofs.lemmas.List.Edits.{map_over_more}
pub use Rattle.std.proofs.lemmas.List.FromFn.{fill_by_all, get_or-map-range_with_len, length-map-range_with_len, map-range_with_len_more}
pub use Rattle.std.specs.Cmp.{first_so, second_so}
pub use Rattle.std.specs.Fn.{FnReturnsAt}
pub use Rattle.std.specs.List.{list_all, range_with_len, remove, sum}
pub use Rattle.std.specs.Prelude.{IfSome}
pub use Rattle.xl_array.proofs.DropLemmas.{each_order}
pub use Rattle.xl_array.specs.Arrays.{covers_anywhere, covers_anywhere_as, IsFit}
pub use Rattle.xl_curve_model.proofs.SameLeafLemmas.{found_same, leaf_same, leaf_self}
pub use Rattle.xl_curve_model.specs.Curves.{HitCurve, hits_of, looked_for, opening_point, Point, point_accessed, point_without, same_leaf, spec_of_width}
unfoldable pub use Rattle.xl_curve_model.specs.Curves.{curve_accessed, curve_missed, curve_without, hits_at, opening_curve}
pub use Rattle.xl_list_lemmas.proofs.MemberLemmas.{same-tests}
pub use Rattle.xl_model.proofs.OrderLemmas.{orders-same}
pub use Rattle.xl_model.specs.Addresses.{level_of, order_at, pages_of, same_order}
pub use Rattle.xl_model.specs.Mapping.{covers, is_leaf}
pub use Rattle.xl_model.specs.Recency.{in_front, purged, touched, with_newest, without_first}
pub use Rattle.xl_model.specs.Tlb.{covers_as, takes_order}
unfoldable pub use Rattle.xl_model.specs.Tlb.{array_filled}
pub use Rattle.xl_model.specs.declared.address.Order.{Order}
pub use Rattle.xl_model.specs.declared.leaf.Leaf.{Leaf}
pub use Rattle.xl_recency.specs.Lists.{IsTest}
pub use Rattle.xl_curve.specs.Places.{AreApart, AreFewer, AreMarks, AreRanks, AreThinned, at_rank, distance, further, gap, gives_way, guided, HasRank, held, hole_where, is_vacant, IsFirst, IsGap, IsGuide, IsNamed, IsNeither, IsSameOrHole, IsSolid, IsStack, IsThinned, mark_of, mark_unless, moved, place_without, places_of, same_words, shifted, vacated}
unfoldable pub use Rattle.xl_curve.specs.Places.{in_turn, leaf_in, place_of}
pub use Rattle.xl_curve.specs.Slots.{IsGuided, IsInFront, list_of}
pub use Rattle.xl_curve.specs.Views.{counted, hits_below, is_placed, IsCurve, point_at, removed, set_of, with_front, with_removed}
unfoldable pub use Rattle.xl_curve.specs.Views.{curve_of}
pub use Rattle.xl_curve.specs.declared.place.Place.{Place}
