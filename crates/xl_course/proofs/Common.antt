-- The names that this crate's proofs import from elsewhere, passed on from one place. Declares nothing.
pub use Rattle.std.proofs.Common.{◌++◌, ◌+◌, ◌-◌, ◌/◌, ◌<◌, ◌∙◌, ◌∷◌, ◌≡◌, ◌≤◌, ◌⊎◌, [], ap, append-nil, append_assoc, arith, Bool, false, inl, inr, length, length-append, List, refl, subst, suc, sym, take, true, zero, ℕ}
pub use Rattle.std.proofs.lemmas.Bool.Decides.{nat_tests}
pub use Rattle.std.proofs.lemmas.List.{drop_all, drop_more, take-append-drop, take_all}
pub use Rattle.std.specs.Option.{IfSome}
pub use Rattle.std.specs.Prelude.{drop, eqb, Err, max, None, not, Ok, Option, option_map, Result, slice_get, Some}
pub use Rattle.xl_lackey.specs.Accesses.{accesses, accesses_at, borders, each, places, starts}
pub use Rattle.xl_model.specs.declared.fault.InputFault.{InputFault}
pub use Rattle.xl_outside.proofs.FolderLemmas.{folder_same, folder_then}
pub use Rattle.xl_outside.proofs.SinkLemmas.{front_of_more, front_written, proceeds_same, proceeds_then, sink_cut, sink_same, sink_then}
pub use Rattle.xl_outside.specs.Folders.{Files, Fine, FolderAfter}
pub use Rattle.xl_outside.specs.Sinks.{FlushAfter, IsFlushed, IsMore, Outside, Proceeds, SinkAfter, SinkMeaning, with_more, WroteFront}
pub use Rattle.xl_course.specs.Accounts.{Account, account, end_flushed, EndAfter, Ends, EndsAs, EndsWith, fault_message, FlushesEnd, last_where, message_by, message_of, text_of}
pub use Rattle.xl_course.specs.Courses.{accesses_items, at_last, before, commands_of, Course, course, course_by, ended, finish, items_of, items_of_all, ran, ran_all}
pub use Rattle.xl_course.specs.Meanings.{joined, lines_where, Meaning, printed_by, printings, states_after}
pub use Rattle.xl_course.specs.Serving.{EqualWhere, HasServed, Reached, Serves, ServesNext, ServesPart, ServesRecord, Skimmed}
pub use Rattle.xl_course.specs.Stops.{is_all_put, status_by, StopsServing}
pub use Rattle.xl_course.specs.declared.stop.Stop.{Stop}
