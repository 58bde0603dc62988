-- The names that this crate's proofs import from elsewhere, passed on from one place. Declares nothing.
pub use Rattle.std.proofs.Common.{◌++◌, ◌+◌, ◌<◌, ◌∙◌, ◌∷◌, ◌≡◌, [], ap, append_assoc, arith, Bool, drop, false, is_ok, length, List, map, None, Option, refl, Some, subst, suc, sym, take, true, zero, ℕ}
pub use Rattle.std.proofs.lemmas.List.{append-nil, map-append, map-id, nil_from_length, take-append-drop}
pub use Rattle.std.proofs.lemmas.List.Elements.{All-append, All-cons, All-drop, All-push, All-take}
pub use Rattle.std.specs.Prelude.{IfSome, slice_get}
pub use Rattle.serde_json.specs.View.{items_of, view}
pub use Rattle.xl_course.specs.Serving.{EqualWhere, HasServed}
pub use Rattle.xl_lackey.specs.declared.skim.Access.{Access}
pub use Rattle.xl_machine.specs.Served.{accessed_by, after_of, IsFramed, opened}
pub use Rattle.xl_model.specs.Addresses.{is_canonical, levels_of, page_of}
unfoldable pub use Rattle.xl_model.specs.Caches.{opening_caches}
pub use Rattle.xl_model.specs.Items.{again_where, area_for, area_wanted, areas_after, demanded, map_of, wanted}
unfoldable pub use Rattle.xl_model.specs.Items.{referenced, state_after}
pub use Rattle.xl_model.specs.Lines.{answer_line, row_line}
pub use Rattle.xl_model.specs.Report.{image_lines, images_lines, row_lines}
pub use Rattle.xl_model.specs.RowRun.{looked_by, looked_where, outcome_of, reply_to, RowState, walk_filled, walk_made}
unfoldable pub use Rattle.xl_model.specs.RowRun.{accessed, after_event, served as done, looked, opening}
pub use Rattle.xl_model.specs.Rows.{Row, row_of}
pub use Rattle.xl_model.specs.Scenes.{access_line, demand_lines, event_line, rows_after, rows_lines, scenes_after, second_line, Served, served_after}
unfoldable pub use Rattle.xl_model.specs.Scenes.{item_lines, scene_after}
unfoldable pub use Rattle.xl_model.specs.Shapes.{opening_shape}
pub use Rattle.xl_model.specs.declared.address.Kind.{Kind}
pub use Rattle.xl_model.specs.declared.event.Event.{Event}
pub use Rattle.xl_model.specs.declared.row.Counts.{Counts}
pub use Rattle.xl_model.specs.declared.script.Area.{Area}
pub use Rattle.xl_model.specs.declared.script.Item.{Item}
pub use Rattle.xl_model.specs.declared.script.Item.TheVariants.{Command, Declared, Referenced}
pub use Rattle.xl_outside.proofs.SinkLemmas.{sink_cut, sink_same, sink_then}
pub use Rattle.xl_outside.specs.Sinks.{SinkAfter, SinkMeaning}
pub use Rattle.xl_report.specs.Json.{row_object, row_objects}
pub use Rattle.xl_serving.specs.Serving.{scene_of}
pub use Rattle.xl_tagged.specs.Forms.{One, Sixteen}
pub use Rattle.xl_tagged.specs.Slots.{chained}
pub use Rattle.xl_rack.specs.Batches.{access_served, batch_served, demand_after, row_served}
pub use Rattle.xl_rack.specs.Beside.{curve_after_part, curve_served, each_curve, row_after}
pub use Rattle.xl_rack.specs.Forms.{form_named, IsCuckoo}
pub use Rattle.xl_rack.specs.Slots.{EachServed, IsNamed, served_of, slot_form}
pub use Rattle.xl_rack.specs.declared.slot.Slot.{Slot}
