-- The names that this crate's proofs import from elsewhere, passed on from one place. Declares nothing.
pub use Rattle.std.proofs.Common.{◌∙◌, ◌∷◌, ◌≡◌, [], ap, drop, false, List, map, refl, true, ℕ}
pub use Rattle.std.proofs.lemmas.List.Elements.{All-cons, All-head, All-nil, All-tail}
pub use Rattle.std.specs.Prelude.{All, Err, Ok, Some}
pub use Rattle.xl_course.proofs.KnownLemmas.{is_err_by, known_one, known_then}
pub use Rattle.xl_course.specs.Accounts.{account, Ends}
pub use Rattle.xl_course.specs.Courses.{commands_of, course}
pub use Rattle.xl_course.specs.Meanings.{states_after}
pub use Rattle.xl_nested_script.specs.Lines.{IsPlaced}
pub use Rattle.xl_nested_script.specs.Scripts.{IsReady, nest_script_of}
pub use Rattle.xl_paired.proofs.PairLemmas.{course_ends, served_commands, served_ends, served_more, stopped_ends}
pub use Rattle.xl_paired.specs.Pairs.{accesses_after, account_from, Command, events_from, meaning_of, script_in, state_from}
pub use Rattle.xl_serving.specs.Inputs.{Finds, trail_in}
pub use Rattle.xl_nesting.specs.Nesting.{counts_text, event_at, events_of, nested_form, step_of}
