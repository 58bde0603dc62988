-- The names that this crate's proofs import from elsewhere, passed on from one place. Declares nothing.
pub use Rattle.std.proofs.Common.{◌%◌, ◌&&◌, ◌*◌, ◌++◌, ◌+◌, ◌-◌, ◌/◌, ◌<◌, ◌==◌, ◌^◌, ◌∙◌, ◌∷◌, ◌≡◌, ◌≢◌, ◌≤◌, [], ap, arith, Bool, cond, count_by, drop, false, find, get_or, is_some, length, List, map, nat_le, nat_lt, None, not, Option, refl, replicate, rules, set, Some, subst, suc, sym, take, true, zero, ℕ}
pub use Rattle.std.proofs.lemmas.Bool.Decides.{nat_tests}
pub use Rattle.std.proofs.lemmas.List.{append-nil, drop_all, get_or-set_other, length-map, nil_from_length, take_all}
pub use Rattle.std.proofs.lemmas.List.Sums.{sum_by-cons}
pub use Rattle.std.specs.Prelude.{eqb}
pub use Rattle.xl_array.proofs.TouchLemmas.{array_found, front_touch, hit_front}
pub use Rattle.xl_array.specs.Hits.{leaf_hit}
pub use Rattle.xl_array.specs.Touches.{IsFrontHit, IsPageTouch, IsPageWord, IsTouch, LacksSmall}
pub use Rattle.xl_array.specs.declared.lookup.Lookup.{Lookup}
pub use Rattle.xl_model.proofs.ArrayLemmas.{filled-spec, touched-spec}
pub use Rattle.xl_model.specs.Base.{plus}
pub use Rattle.xl_model.specs.LeafWords.{leaf_with, small_leaf}
pub use Rattle.xl_model.specs.Tally.{counted, one_more_where}
pub use Rattle.xl_model.specs.Tlb.{Answer, answer_of, array_hit, array_without, asked, covers_as, filled_below, filled_for, filled_where, fills_array, hits_at, is_looked, is_purged, misses_at, opening_array, reaches_leaf, serves_as, serves_kind, set_at, set_number, takes_leaf, takes_order, TlbArray, where_taken, with_set}
unfoldable pub use Rattle.xl_model.specs.Tlb.{array_filled, array_touched, arrays_filled, arrays_hit, arrays_without}
pub use Rattle.xl_model.specs.declared.address.Kind.{Kind}
pub use Rattle.xl_model.specs.declared.event.Reach.{Reach}
pub use Rattle.xl_model.specs.declared.leaf.Leaf.{Leaf}
pub use Rattle.xl_model.specs.declared.row.Purge.{Purge}
pub use Rattle.xl_model.specs.declared.row.Serves.{Serves}
pub use Rattle.xl_model.specs.declared.row.TlbSpec.{TlbSpec}
pub use Rattle.xl_tlb.specs.Answers.{IsLooked, IsNowhere, IsWord}
pub use Rattle.xl_tlb.specs.Counted.{alone_in, answered_as, hit_at, IsState, one_more_at, seen_in}
pub use Rattle.xl_tlb.specs.Firsts.{alone_at, first_in, Fits, IsKept, IsKnown, numbers_of}
pub use Rattle.xl_tlb.specs.Fits.{fits_in, split_of}
pub use Rattle.xl_tlb.specs.Founds.{found_leaf, replied_of, with_fill}
pub use Rattle.xl_tlb.specs.Fronts.{FirstLacks, FrontsStay, HasEights, IsFront}
pub use Rattle.xl_tlb.specs.Known.{IsKey, Knows, no_key, page_place, StaysKnown}
pub use Rattle.xl_tlb.specs.Requests.{IsFill}
pub use Rattle.xl_tlb.specs.Shapes.{Alone, ArePaired, AreThree, AreTwo, AtAll, AtData, AtFetch, AtOne, AtPair, firsts_in, IsAloneFill, IsAloneLook, IsKnownAnswer, IsKnownWord, IsOfPair, IsOne, IsPairFill, IsPairLook}
pub use Rattle.xl_tlb.specs.Tlbs.{bumped_where, fills_replied, hits_up_to, IsRising, IsTlb, leaf_replied, looked_arrays, misses_up_to, NoneBelow, Replied, replied, spec_of, tlb_of, TlbState}
unfoldable pub use Rattle.xl_tlb.specs.Tlbs.{tlb_fenced, tlb_filled, tlb_looked, tlb_purged}
pub use Rattle.xl_tlb.specs.declared.newest.MruPages.{MruPages}
pub use Rattle.xl_tlb.specs.declared.pair.Seen.{Seen}
