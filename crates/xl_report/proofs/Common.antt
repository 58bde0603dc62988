-- The names that this crate's proofs import from elsewhere, passed on from one place. Declares nothing.
pub use Rattle.std.proofs.Common.{◌%◌, ◌*◌, ◌++◌, ◌+◌, ◌-◌, ◌/◌, ◌<◌, ◌^◌, ◌||◌, ◌∙◌, ◌∷◌, ◌≡◌, ◌≤◌, [], add-one, ap, append-nil, append_assoc, ap₂, arith, bit_and, Bool, codes, decimal, drop, drop-cons, false, inl, inr, length, length-append, length-drop, length-take-le, List, map, refl, replicate, rules, slice_index, subst, suc, sym, take, true, zero, ℕ}
pub use Rattle.std.proofs.lemmas.Fmt.{decimal_digit, decimal_step, length-decimal-le}
pub use Rattle.std.proofs.lemmas.List.{drop-append-le, drop-drop, drop_all, map-append, take-append-drop, take_all}
pub use Rattle.std.specs.Str.{IsAscii, IsUtf8}
pub use Rattle.serde_json.specs.Data.{Data, Members, no_members, object}
pub use Rattle.serde_json.specs.View.{items_of, members_view, view}
pub use Rattle.xl_model.specs.Addresses.{code_of}
pub use Rattle.xl_model.specs.Lines.{hex_digits, hex_glyph, kind_letter, with_arrays, with_more_arrays, with_reply, with_rest}
unfoldable pub use Rattle.xl_model.specs.Lines.{hex16}
pub use Rattle.xl_model.specs.Tally.{physical}
pub use Rattle.xl_model.specs.declared.address.Kind.{Kind}
pub use Rattle.xl_model.specs.declared.leaf.Reply.{Reply}
pub use lib.Lanes.{chunk, digits_l, Each1, pick_l, put_chunk, sel_l, top, zip2}
pub use Rattle.xl_report.specs.Json.{amount, objects_of, pair, pairs, row_objects}
unfoldable pub use Rattle.xl_report.specs.Json.{change_members, named_members, row_object, verdict_members, walk_members}
