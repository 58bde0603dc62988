-- The names that this crate's proofs import from elsewhere, passed on from one place. Declares nothing.
pub use Rattle.std.proofs.Common.{◌++◌, ◌+◌, ◌<◌, ◌∙◌, ◌∷◌, ◌≡◌, [], ap, append_assoc, arith, Bool, drop, false, length, List, map, refl, subst, suc, sym, take, true, zero, ℕ}
pub use Rattle.std.proofs.lemmas.List.Elements.{All-cons, All-head, All-nil, All-tail}
pub use Rattle.std.specs.Prelude.{All, Err, is_ok, Ok, slice_index_or, Some}
pub use Rattle.xl_course.proofs.KnownLemmas.{is_err_by, known_one, known_then}
pub use Rattle.xl_course.specs.Accounts.{account, Ends}
pub use Rattle.xl_course.specs.Meanings.{states_after}
pub use Rattle.xl_hart_model.specs.Harts.{after_hart_event, all_counts, current_hart, Hart, hart_reply, HartsState, opening_hart}
unfoldable pub use Rattle.xl_hart_model.specs.Harts.{hart_change, hart_outcome, hart_refusal, hart_rule}
pub use Rattle.xl_hart_report.specs.Lines.{all_counts_line, hart_counts_line}
pub use Rattle.xl_hart_script.specs.Scripts.{harts_script_of, HartText, IsReady}
pub use Rattle.xl_hart_script.specs.declared.command.HartCommand.{HartCommand}
pub use Rattle.xl_model.specs.declared.leaf.Reply.{Reply}
pub use Rattle.xl_outside.proofs.SinkLemmas.{sink_cut, sink_then}
pub use Rattle.xl_outside.specs.Sinks.{SinkAfter, SinkMeaning}
pub use Rattle.xl_paired.proofs.PairLemmas.{course_ends, served_commands, served_ends, served_more, stopped_ends}
pub use Rattle.xl_paired.specs.Pairs.{accesses_after, account_from, Command, course_of, events_from, meaning_of, script_in, state_from}
pub use Rattle.xl_serving.specs.Inputs.{Finds, trail_in}
pub use Rattle.xl_harting.specs.Harting.{access_of, counts_lines, event_at, events_of, harts_account, harts_form, harts_left, step_of}
