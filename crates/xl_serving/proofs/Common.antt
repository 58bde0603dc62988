-- The names that this crate's proofs import from elsewhere, passed on from one place. Declares nothing.
pub use Rattle.std.proofs.Common.{◌%◌, ◌++◌, ◌+◌, ◌-◌, ◌<◌, ◌^◌, ◌∙◌, ◌∷◌, ◌≡◌, ◌≤◌, ◌⊎◌, [], ap, append-nil, append_assoc, arith, Bool, cond, drop, false, inl, inr, length, length-append, length-take, List, map, refl, rules, subst, suc, sym, take, true, zero, ℕ}
pub use Rattle.std.proofs.lemmas.Bool.{cases_lt, false_from_ne_true, false≢true, lt-ltb}
pub use Rattle.std.proofs.lemmas.Bool.Decides.{nat_tests}
pub use Rattle.std.proofs.lemmas.List.{drop-append-le, drop-drop, drop-take, drop_all, length-drop, map-append, take-append-drop, take-append-le, take-take, take_all}
pub use Rattle.std.proofs.lemmas.List.Elements.{All-cons, All-drop, All-get_or, All-head, All-nil, All-same, All-tail}
pub use Rattle.std.proofs.lemmas.List.Sums.{sum_by-cons}
pub use Rattle.std.specs.Prelude.{if◌then◌else◌, All, codes, count_by, Err, is_ok, nat_lt, None, Ok, Option, Result, slice_get, Some}
pub use Rattle.std.specs.Vec.Iter.{into_iter_items, into_iter_len}
pub use Rattle.xl_course.proofs.KnownLemmas.{is_err_by, known_all, known_one, known_then}
pub use Rattle.xl_course.specs.Accounts.{Account, account, EndAfter, Ends, EndsAs, faulted, last_where}
pub use Rattle.xl_course.specs.Courses.{commands_of, course, items_of_all, items_of as record_items}
pub use Rattle.xl_course.specs.Meanings.{lines_where, printed_by, states_after}
pub use Rattle.xl_course.specs.Serving.{HasServed, Skimmed}
pub use Rattle.xl_course.specs.Sources.{accesses_of_all, EndsBy, Skims}
pub use Rattle.xl_course.specs.declared.stop.Stop.{Stop}
pub use Rattle.xl_lackey.specs.Answers.{Gives, record_of}
pub use Rattle.xl_lackey.specs.Skims.{accesses_in, all_accesses, pair, Takes as TakesLines, with_records}
pub use Rattle.xl_lackey.specs.Stream.{due, Left, left, left_by, MayCome, Record, records, State, unless_bad}
pub use Rattle.xl_lackey.specs.declared.skim.Access.{Access}
pub use Rattle.xl_model.specs.Courses.{Accesses, accesses_items, at_end, events_from, Trail}
unfoldable pub use Rattle.xl_model.specs.Items.{state_after}
pub use Rattle.xl_model.specs.Report.{images_where}
unfoldable pub use Rattle.xl_model.specs.Report.{report, tail}
pub use Rattle.xl_model.specs.Rows.{IsRow, Row, row_of}
pub use Rattle.xl_model.specs.Scenes.{lives_after, opened, opening_scene, rows_after, rows_lines, Scene, scenes_after, printed_by as scenes_printed, Served, unprinted}
unfoldable pub use Rattle.xl_model.specs.Scenes.{item_lines, scene_after}
pub use Rattle.xl_model.specs.declared.address.Kind.{Kind}
pub use Rattle.xl_model.specs.declared.fault.InputFault.{InputFault}
pub use Rattle.xl_model.specs.declared.fault.InputFault.TheVariants.{TraceTooLong}
pub use Rattle.xl_model.specs.declared.script.Area.{Area}
pub use Rattle.xl_model.specs.declared.script.Command.{Command}
pub use Rattle.xl_model.specs.declared.script.Item.{Item}
pub use Rattle.xl_model.specs.declared.script.Item.TheVariants.{Declared, Referenced}
pub use Rattle.xl_model_lemmas.proofs.SceneLemmas.{printed-append, scene-append, scene-is}
pub use Rattle.xl_outside.proofs.SinkLemmas.{sink_cut, sink_same, sink_then}
pub use Rattle.xl_outside.specs.Folders.{file_of, Fine, FolderAfter}
pub use Rattle.xl_outside.specs.Sinks.{SinkAfter, SinkMeaning}
pub use Rattle.xl_outside.specs.Whole.{ReadsWhole}
pub use Rattle.xl_script.specs.Placing.{is_area, IsPlaced}
pub use Rattle.xl_text.specs.Texts.{lines_by, lines_of}
pub use Rattle.xl_words.specs.Words.{AskedPlain, plain_of}
pub use Rattle.xl_serving.specs.Batches.{Backlog, BatchesMore, deferred, drained, gaps, item_of, items_batched, items_of_all as scene_items}
pub use Rattle.xl_serving.specs.Inputs.{commands_said, config_fault, Finds, rows_in, rows_said, said_by, said_in, script_fault, trail_for}
pub use Rattle.xl_serving.specs.Plain.{account_by, account_from, AreOpened, end_text, items_of, plain, plain_account, plain_rows, plain_start, rows_by, rows_from, rows_text, Start, start_of, step_of, steps_of, with_area}
pub use Rattle.xl_serving.specs.Serving.{count_of, event_at, scene_of}
pub use Rattle.xl_serving.specs.Tapes.{Feeds, FeedsOf, Fills, HasMore, IsFedFrom, IsUnfed, IsWithin, KeepsLeft, size_of, to_come}
pub use Rattle.xl_serving.specs.Traces.{accesses_of, ahead, at_first, fault_of, left_of, limit, made_left, MadeProgress, next_number, numbered, Progress, trail, trail_of, with_record}
pub use Rattle.xl_serving.specs.declared.batch.BatchedEvent.{BatchedEvent}
