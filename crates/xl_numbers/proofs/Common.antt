-- The names that this crate's proofs import from elsewhere, passed on from one place. Declares nothing.
pub use Rattle.std.proofs.Common.{◌%◌, ◌*◌, ◌++◌, ◌+◌, ◌-◌, ◌/◌, ◌<◌, ◌==◌, ◌^◌, ◌∙◌, ◌∷◌, ◌≡◌, ◌≤◌, [], ap, arith, Bool, false, get_or-set_other, get_or-set_same, inl, inr, length, length-set, List, nat_lt, None, Option, refl, replicate, rules, slice_index, slice_index_or, slice_set, Some, subst, suc, sym, true, w64, zero, ℕ}
pub use Rattle.std.proofs.lemmas.Bool.{cases_eq, cases_lt, eqb-true, false≢true}
pub use Rattle.std.proofs.lemmas.Bool.Decides.{nat_tests}
pub use Rattle.std.proofs.lemmas.List.{ext_get_or, get_or-append_right, get_or-replicate, get_or_append_left, length-append, length-replicate, set-get_or, with_items_is}
pub use Rattle.std.proofs.lemmas.Nat.Bits.{bit_at-trailing_ones, bit_at-trailing_zeros, bit_at-zero, bit_at_clear_other, bit_at_clear_same, bit_at_ones, bit_at_set_other, bit_at_set_same}
pub use Rattle.std.specs.Int.{bit_at, trailing_ones, trailing_zeros}
pub use Rattle.std.specs.Prelude.{◌↔◌, IfNone, IfSome, IsTrue}
pub use Rattle.xl_numbers.specs.Bits.{AreOnes, AreWords, bit_of, IsAbove, IsAlike, IsFirstBit, IsFirstWord, IsPut, IsSet, IsStack, IsWord}
unfoldable pub use Rattle.xl_numbers.specs.Bits.{flags}
pub use Rattle.xl_numbers.specs.Free.{AreFree, AreMarked, HasNone, IsLowest}
