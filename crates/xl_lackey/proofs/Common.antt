-- The names that this crate's proofs import from elsewhere, passed on from one place. Declares nothing.
pub use Rattle.std.proofs.Common.{◌%◌, ◌&&◌, ◌*◌, ◌++◌, ◌+◌, ◌-◌, ◌/◌, ◌<◌, ◌^◌, ◌∙◌, ◌∷◌, ◌≡◌, ◌≢◌, ◌≤◌, [], ap, append-nil, append_assoc, ap₂, arith, bit_and, Bool, drop, false, Fits, get_or, inl, inr, length, length-append, length-drop, length-set, length-take, List, map, min, refl, replicate, set, subst, suc, sym, take, true, w8, zero, ℕ}
pub use Rattle.std.proofs.Math.Seq.{drop-append-add, drop-length, take-add, take-append-add}
pub use Rattle.std.proofs.lemmas.Bool.{cases_lt, le-ltb, lt-ltb}
pub use Rattle.std.proofs.lemmas.Bool.Decides.{eqb_tells, nat_tests}
pub use Rattle.std.proofs.lemmas.List.{drop-drop, drop-take, drop_all, drop_more, get_or-drop, get_or-take, length-take-le, map-append, take-append-drop, take-set-le, take-take, take_all, take_more, take_more_set, take_rest}
pub use Rattle.std.proofs.lemmas.List.Elements.{All-drop, All-from_get_or, All-from_recursion, All-get_or, All-head, All-replicate, All-set, All-tail, All-take}
pub use Rattle.std.proofs.lemmas.Option.{same_Some}
pub use Rattle.std.specs.Option.{option_and_then, option_map}
pub use Rattle.std.specs.Prelude.{if◌then◌else◌, ◌==◌, ◌||◌, ◌⊎◌, codes, IfSome, nat_le, nat_lt, None, Option, slice_get, slice_index, Some}
pub use Rattle.xl_model.specs.declared.address.Kind.{Kind}
pub use Rattle.xl_model.specs.declared.address.Kind.TheVariants.{Fetch, Load, Store}
pub use Rattle.xl_text.specs.Numbers.{address_of, number_in}
pub use Rattle.xl_text.specs.Texts.{ended_lines, in_first, is_blank, lines_by, lines_of, without_return}
pub use lib.Lanes.{Each1, number_l, sel_l, top, zip2}
pub use Rattle.xl_lackey.specs.Accesses.{accesses_at, borders, each, places, starts}
pub use Rattle.xl_lackey.specs.Answers.{Answers, Ends, Gives, Refuses, with_record}
pub use Rattle.xl_lackey.specs.Digits.{digit_or_4096, hex_digit, hex_value}
pub use Rattle.xl_lackey.specs.Lanes.{is_below, lane_value, less, number_of, plus}
pub use Rattle.xl_lackey.specs.Lines.{address_in, after, before, decimal_value, fits, front, in_front, is_digit, is_remark, is_size, of_address, of_end, of_size, of_text, of_words, parted, size_in, with_rest}
unfoldable pub use Rattle.xl_lackey.specs.Lines.{judge}
pub use Rattle.xl_lackey.specs.PrefixCache.{four_bytes, IsBeginning, IsPrefix}
pub use Rattle.xl_lackey.specs.Scans.{IsFirstLine}
pub use Rattle.xl_lackey.specs.Skims.{accesses_in, accesses_in_page, all_accesses, batch_size, Gathered, HasAccesses, IsRecordLine, IsSure, lines_after, pair, read_of, Runs, runs_both, Skimmed, Skims, Taken, Takes, with_records}
pub use Rattle.xl_lackey.specs.Stream.{due, first_due, Left, left, left_by, MayCome, next_line, of_due, Record, records, State, unless_bad, with_verdict}
pub use Rattle.xl_lackey.specs.Usual.{first_kind, is_modify, judged, judged_line, usual_front}
pub use Rattle.xl_lackey.specs.declared.line.Verdict.{Verdict}
pub use Rattle.xl_lackey.specs.declared.line.Verdict.TheVariants.{Bad, Found, Skipped}
pub use Rattle.xl_lackey.specs.declared.prefixes.Prefix.{Prefix}
pub use Rattle.xl_lackey.specs.declared.reference.Letter.{Letter}
pub use Rattle.xl_lackey.specs.declared.skim.Access.{Access}
pub use Rattle.xl_lackey.specs.declared.skim.Run.{Run}
