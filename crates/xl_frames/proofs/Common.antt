-- The names that this crate's proofs import from elsewhere, passed on from one place. Declares nothing.
pub use Rattle.std.proofs.Common.{◌*◌, ◌++◌, ◌+◌, ◌-◌, ◌/◌, ◌<◌, ◌^◌, ◌∙◌, ◌≡◌, ◌≤◌, ◌⊎◌, ap, arith, Bool, drop, false, get_or, inl, inr, length, List, None, Option, refl, replicate, rules, set, Some, subst, suc, sym, take, true, ℕ}
pub use Rattle.std.proofs.Math.Nat.{add-mul, div-add-mod, mul-le-mul_right, mul_comm, suc-mul}
pub use Rattle.std.proofs.lemmas.Bool.{cases_eq, cases_lt, false≢true}
pub use Rattle.std.proofs.lemmas.List.{ext_get_or, get_or-append_right, get_or-drop, get_or-replicate, get_or-set_other, get_or-set_same, get_or-take, get_or_append_left, get_or_past, length-append, length-drop, length-replicate, length-set, length-take}
pub use Rattle.std.specs.Prelude.{IfSome}
pub use Rattle.xl_model.specs.Addresses.{pages_of}
pub use Rattle.xl_numbers.specs.Free.{AreFree, AreMarked}
pub use Rattle.xl_frames.specs.Pool.{IsFree, IsLowest, marked}
