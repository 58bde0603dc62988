-- The names that this crate's proofs import from elsewhere, passed on from one place. Declares nothing.
pub use Rattle.std.proofs.Common.{◌%◌, ◌&&◌, ◌*◌, ◌+◌, ◌-◌, ◌/◌, ◌<◌, ◌==◌, ◌^◌, ◌||◌, ◌∙◌, ◌∷◌, ◌≡◌, ◌≢◌, ◌≤◌, [], ap, arith, bit_and, Bool, drop, false, find, get_or, is_some, length, List, map, nat_le, nat_lt, None, Option, refl, replicate, set, Some, subst, suc, sym, take, true, zero, ℕ}
pub use Rattle.std.proofs.Math.ListN.{get_or-map}
pub use Rattle.std.proofs.Math.Nat.{mod-lt, pow-le-pow_right}
pub use Rattle.std.proofs.lemmas.Bool.Decides.{nat_tests}
pub use Rattle.std.specs.List.{All, list_all}
pub use Rattle.std.specs.Option.{IfNone, IfSome}
pub use Rattle.xl_model.proofs.ArrayLemmas.{filled-spec, touched-spec}
pub use Rattle.xl_model.specs.Addresses.{pages_of}
pub use Rattle.xl_model.specs.LeafWords.{leaf_with, small_leaf}
pub use Rattle.xl_model.specs.Mapping.{covers, is_leaf}
pub use Rattle.xl_model.specs.Tlb.{array_without, covers_as, is_purged, leaves_in_sets, reaches_leaf, set_number, takes_order, TlbArray}
pub use Rattle.xl_model.specs.declared.address.Order.{Order}
pub use Rattle.xl_model.specs.declared.leaf.Leaf.{Leaf}
pub use Rattle.xl_model.specs.declared.row.TlbSpec.{TlbSpec}
pub use Rattle.xl_recency.specs.Marks.{has_tag}
pub use Rattle.xl_recency.specs.declared.item.Item.{Item}
pub use Rattle.xl_array.specs.Any.{array_in}
pub use Rattle.xl_array.specs.Arrays.{covers_anywhere, covers_anywhere_as, is_any, is_in_set, is_of_space, is_same, IsArray, IsFit}
pub use Rattle.xl_array.specs.Coding.{has_block, has_space, is_item, leaves_of}
pub use Rattle.xl_array.specs.Equal.{is_equal, keeps_leaf}
pub use Rattle.xl_array.specs.Hits.{hit_touched, leaf_hit, word_touched}
