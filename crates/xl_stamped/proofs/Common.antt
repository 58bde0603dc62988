-- The names that this crate's proofs import from elsewhere, passed on from one place. Declares nothing.
pub use Rattle.std.proofs.Common.{◌++◌, ◌+◌, ◌-◌, ◌<◌, ◌∙◌, ◌∷◌, ◌≡◌, ◌≤◌, ◌⊎◌, [], ap, arith, Bool, cond, drop, eqb, false, filter, find, get_or, inl, inr, leb, length, List, ltb, map, None, not, refl, set, Some, suc, sym, take, true, zero, zero-add, ℕ}
pub use Rattle.std.proofs.lemmas.Bool.{cases_Bool, cases_eq, cases_lt, eq-eqb, le-leb, le-ltb, lt-leb, lt-ltb, ne_eqb}
pub use Rattle.std.proofs.lemmas.List.{append_assoc, drop-set-lt, drop_all, drop_at, drop_more, get_or-append_right, get_or-drop, get_or-set_other, get_or-set_same, get_or_default, length-append, length-drop, length-map, length-set, length-take, map-append, take_all, take_at, take_more_set}
pub use Rattle.std.proofs.lemmas.List.Filters.{FiltersInPlace, FiltersInPlace-all, FiltersInPlace-more_no, FiltersInPlace-more_set}
pub use Rattle.std.specs.Fn.{FnReturnsAt}
pub use Rattle.xl_model.specs.Recency.{purged, touched, with_newest, without_first}
pub use Rattle.xl_recency.specs.Lists.{IsTest}
pub use Rattle.xl_recency.specs.declared.item.Item.{Item}
pub use Rattle.xl_stamped.specs.Stamps.{AreStamps, IsNewest, item_of, NoneMeets, rank_of, renumbered}
unfoldable pub use Rattle.xl_stamped.specs.Stamps.{Apart, by_stamp, Each, newest_first, with_place}
pub use Rattle.xl_stamped.specs.declared.stamped.Place.{Place}
