-- The names that this crate's proofs import from elsewhere, passed on from one place. Declares nothing.
pub use Rattle.std.proofs.Common.{◌%◌, ◌*◌, ◌++◌, ◌+◌, ◌-◌, ◌/◌, ◌<◌, ◌^◌, ◌∙◌, ◌∷◌, ◌≡◌, ◌≤◌, ◌⊎◌, [], ap, append_assoc, arith, Bool, drop, false, inl, inr, length, length-append, List, nat_lt, refl, subst, suc, sym, take, true, zero, ℕ}
pub use Rattle.rand_pcg.specs.Lcg.{Lcg}
pub use Rattle.xl_lackey.proofs.SkimLemmas.{takes_more, takes_none}
pub use Rattle.xl_lackey.specs.Skims.{accesses_in, accesses_in_page, pair, Takes}
pub use Rattle.xl_lackey.specs.Usual.{first_kind, is_modify, usual_front}
pub use Rattle.xl_lackey.specs.declared.reference.Letter.{Letter}
pub use Rattle.xl_model.specs.Lines.{hex_digits, hex_glyph}
pub use Rattle.xl_made.specs.Made.{after, letter_of, made_script, record_lines, size_text, with_unmap, with_unmaps, word}
unfoldable pub use Rattle.xl_made.specs.Made.{address_of, page_of, record_line, size_of}
pub use Rattle.xl_made.specs.Taken.{Follows, IsFirst, IsFirstOf, record_of_word, TakesFirst}
