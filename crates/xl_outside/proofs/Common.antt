-- The names that this crate's proofs import from elsewhere, passed on from one place. Declares nothing.
pub use Rattle.std.proofs.Common.{◌++◌, ◌+◌, ◌-◌, ◌<◌, ◌∙◌, ◌≡◌, ◌≤◌, [], ap, append_assoc, arith, Bool, drop, false, inl, inr, length, length-append, length-drop, length-take, List, refl, rules, subst, sym, take, true, ℕ}
pub use Rattle.std.proofs.Math.Seq.{take-add, take-append-add, take-append_seam}
pub use Rattle.std.proofs.lemmas.List.{append_cancel_left, drop-take, take-append-drop, take-append-le, take-take, take_all, take_rest}
pub use Rattle.std.specs.Option.{IfSome}
pub use Rattle.std.specs.Prelude.{is_ok, None, Ok, Option, Some}
pub use Rattle.xl_outside.specs.Folders.{FateCounts, file_of, FileMissing, Files, Fine, FolderAfter, FolderMeaning, ReadFailed, ReadFate, ReadsFile}
pub use Rattle.xl_outside.specs.Fronts.{more_none, more_then, with_more-twice, with_none}
pub use Rattle.xl_outside.specs.Outside.{Counted}
pub use Rattle.xl_outside.specs.Sinks.{FlushAfter, FlushedWhere, IsFlushed, IsMore, Outside, Proceeds, SentAfter, SinkAfter, SinkMeaning, with_more, WriteCounts, Wrote, WroteFront}
