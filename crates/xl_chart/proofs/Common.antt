-- The names that this crate's proofs import from elsewhere, passed on from one place. Declares nothing.
pub use Rattle.std.proofs.Common.{◌&&◌, ◌==◌, ◌∙◌, ◌∷◌, ◌≡◌, ◌⊎◌, [], ap, arith, Bool, Err, false, find, inl, inr, List, None, Ok, Option, refl, Result, Some, subst, sym, true, ℕ}
pub use Rattle.xl_curve_model.specs.CurveRun.{Charted, charted_again, charted_demand, charted_event, curve_followed, curve_looked, curve_looked_where, curve_purged, old_of, unless_refused}
unfoldable pub use Rattle.xl_curve_model.specs.CurveRun.{charted_item, curve_after}
pub use Rattle.xl_curve_model.specs.Curves.{curve_accessed, curve_without, HitCurve}
pub use Rattle.xl_model.specs.Addresses.{is_canonical, page_of, same_order}
pub use Rattle.xl_model.specs.Items.{again_where, area_for, area_wanted, demanded, map_of, wanted}
unfoldable pub use Rattle.xl_model.specs.Items.{referenced, state_after}
pub use Rattle.xl_model.specs.RowRun.{changed_outcome, outcome_after_rule, outcome_by, reach_of, refusal_of, reply_to, RowState, served_outcome}
unfoldable pub use Rattle.xl_model.specs.RowRun.{outcome_of}
pub use Rattle.xl_model.specs.Rows.{Row}
pub use Rattle.xl_model.specs.Rules.{insert_at, named_rule, or_else, overlap_rule, place_rule, there_rule, unless}
unfoldable pub use Rattle.xl_model.specs.Rules.{change_of, rule}
pub use Rattle.xl_model.specs.Scenes.{Served, served_after}
pub use Rattle.xl_model.specs.declared.address.Kind.{Kind}
pub use Rattle.xl_model.specs.declared.event.Event.{Event}
pub use Rattle.xl_model.specs.declared.event.Outcome.{Outcome}
pub use Rattle.xl_model.specs.declared.leaf.Leaf.{Leaf}
pub use Rattle.xl_model.specs.declared.row.Purge.{Purge}
pub use Rattle.xl_chart.specs.Follows.{followed, page_reach}
