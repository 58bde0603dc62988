-- The names that this crate's proofs import from elsewhere, passed on from one place. Declares nothing.
pub use Rattle.std.proofs.Common.{if◌then◌else◌, ◌*◌, ◌++◌, ◌+◌, ◌-◌, ◌<◌, ◌==◌, ◌∙◌, ◌∷◌, ◌≡◌, ◌≢◌, ◌≤◌, [], ap, arith, Bool, drop, false, find, get_or, inl, inr, length, List, map, nat_lt, None, not, refl, replicate, rules, set, Some, subst, suc, sym, take, true, zero, ℕ}
pub use Rattle.std.proofs.lemmas.Bool.{cases_lt}
pub use Rattle.std.proofs.lemmas.Bool.Decides.{nat_tests}
pub use Rattle.std.proofs.lemmas.Fn.{says_at}
pub use Rattle.std.proofs.lemmas.List.{drop_all, ext_get_or, get_or-map, get_or-set_other, get_or-set_same, get_or-take, get_or_default, get_or_read, length-append, length-drop, length-map, length-replicate, length-set, length-take-le, take-append-le, take-take, take_all}
pub use Rattle.std.proofs.lemmas.List.Edits.{get_or-remove_above, get_or-remove_below, length-remove, map_over_more}
pub use Rattle.std.proofs.lemmas.List.Filters.{FiltersInPlace, FiltersInPlace-more_no, FiltersInPlace-more_set}
pub use Rattle.std.specs.Fn.{FnReturnsAt}
pub use Rattle.std.specs.List.{remove}
pub use Rattle.xl_model.specs.Recency.{purged, touched, without_first}
pub use Rattle.xl_recency.specs.Lists.{AllFail, FailBefore, Fills, IsFirst, IsTest, items_in, Purges, PurgesIn, Touches}
pub use Rattle.xl_recency.specs.Marks.{AreSlots, has_tag, in_order, IsFirstTag, item_in, item_mark, LacksTag, mark_of}
pub use Rattle.xl_recency.specs.Widths.{of_width}
pub use Rattle.xl_recency.specs.declared.item.Item.{Item}
