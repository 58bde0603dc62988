-- The names that this crate's proofs import from elsewhere, passed on from one place. Declares nothing.
pub use Rattle.std.proofs.Common.{if◌then◌else◌, ◌&&◌, ◌*◌, ◌+◌, ◌-◌, ◌<◌, ◌==◌, ◌^◌, ◌||◌, ◌∙◌, ◌∷◌, ◌≡◌, ◌≤◌, [], add-one, add-zero, ap, ap₂, arith, Bool, cond, drop, Err, false, get_or, inl, inr, length, length-drop, length-take, List, map, nat_le, nat_lt, None, not, Ok, one-add, Option, refl, rules, slice_get, Some, subst, suc, sym, take, true, zero, ℕ}
pub use Rattle.std.proofs.lemmas.Bool.{cases_lt, eqb-true, le-leb, le-ltb, leb-true, lt-ltb, ltb-true, ne_eqb}
pub use Rattle.std.proofs.lemmas.List.{append-nil, drop-drop, drop_all, drop_more, get_or-drop, take-take, take_rest}
pub use Rattle.std.proofs.lemmas.List.Sums.{prefix_len-le-length, prefix_len_is, prefix_len_stops, sum_by-cons}
pub use Rattle.std.specs.List.{list_all, position, position_or_len, slice_range}
pub use Rattle.std.specs.Prelude.{All, count_by, IfNone, IfSome, Result}
pub use Rattle.memchr.specs.Find.{is_byte, IsFirstByte}
pub use Rattle.xl_text.proofs.DigitLemmas.{digit_read, no_digit, none_read, number_after}
pub use Rattle.xl_text.specs.Numbers.{address_of, number_in}
pub use Rattle.xl_script.specs.Numbers.{below}
unfoldable pub use Rattle.xl_script.specs.Numbers.{hexadecimal_of}
pub use Rattle.xl_script.specs.Plain.{counted, numbered, plain_said}
pub use Rattle.xl_script.specs.Scripts.{after, and_then, lines_read, Reading, Said}
unfoldable pub use Rattle.xl_script.specs.Scripts.{text_read}
pub use Rattle.xl_script.specs.Texts.{onto, pieces, to_newline, up_to_comment}
unfoldable pub use Rattle.xl_script.specs.Texts.{script_lines, words_of}
