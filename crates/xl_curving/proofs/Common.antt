-- The names that this crate's proofs import from elsewhere, passed on from one place. Declares nothing.
pub use Rattle.std.proofs.Common.{◌++◌, ◌+◌, ◌<◌, ◌∙◌, ◌∷◌, ◌≡◌, ◌≤◌, ◌⊎◌, [], ap, append-nil, append_assoc, arith, Bool, drop, false, inl, inr, length, List, map, refl, replicate, subst, suc, sym, take, true, zero, ℕ}
pub use Rattle.std.proofs.lemmas.Bool.Decides.{nat_tests}
pub use Rattle.std.proofs.lemmas.List.{map-append, map-id, take-append-le, take_all}
pub use Rattle.std.specs.Prelude.{Err, IfSome, None, Ok, Option, Result, slice_get, slice_index_or, Some}
pub use Rattle.xl_course.proofs.KnownLemmas.{is_err_by, known_one, known_then}
pub use Rattle.xl_course.proofs.MeaningLemmas.{states-append}
pub use Rattle.xl_course.specs.Accounts.{account, Ends}
pub use Rattle.xl_course.specs.Courses.{accesses_items, at_last, before, Course, course, course_by, finish, items_of as items_in, items_of_all, ran, ran_all}
pub use Rattle.xl_course.specs.Meanings.{printed_by, states_after}
pub use Rattle.xl_course.specs.Serving.{HasServed, Skimmed}
pub use Rattle.xl_curve_model.specs.Curves.{HitCurve, opening_curve}
pub use Rattle.xl_lackey.specs.declared.skim.Access.{Access}
pub use Rattle.xl_model.specs.Courses.{Accesses, at_end, events_from, Trail}
pub use Rattle.xl_model.specs.Scenes.{rows_after, Scene, Served}
unfoldable pub use Rattle.xl_model.specs.Scenes.{scene_after}
pub use Rattle.xl_model.specs.declared.address.Kind.{Kind}
pub use Rattle.xl_model.specs.declared.script.Area.{Area}
pub use Rattle.xl_model.specs.declared.script.Item.{Item}
pub use Rattle.xl_model.specs.declared.script.Item.TheVariants.{Command, Declared, Referenced}
pub use Rattle.xl_outside.proofs.SinkLemmas.{sink_cut, sink_same, sink_then}
pub use Rattle.xl_outside.specs.Sinks.{SinkAfter, SinkMeaning}
pub use Rattle.xl_rack.specs.Batches.{access_served, row_served}
pub use Rattle.xl_rack.specs.Beside.{curve_served, curve_stepped, each_curve}
pub use Rattle.xl_serving.proofs.PlainLemmas.{can-area, can-events, can-script, events-items, placed, room}
pub use Rattle.xl_serving.specs.Batches.{item_of}
pub use Rattle.xl_serving.specs.Inputs.{Finds, trail_for}
pub use Rattle.xl_serving.specs.Plain.{AreOpened, plain, plain_start, rows_by, rows_from, Start, start_of, steps_of}
pub use Rattle.xl_serving.specs.Serving.{count_of, event_at, scene_of}
pub use Rattle.xl_words.specs.Words.{AskedPlain, plain_of}
pub use Rattle.xl_curving.specs.Curving.{curve_lines, curve_scene_after, curve_scene_of, curved, curves_by, curves_drained, curves_from, curves_text, CurveScene, with_curves}
