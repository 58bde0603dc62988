-- Hit curves: how often TLB arrays of each width from 1 to 64 are hit by the same look-ups (Mattson and others, 1970).
-- Each width has an array of its own, and none sees another.
use Rattle.std.specs.Prelude.{ℕ, ◌-◌, ◌==◌, Bool, true, ◌&&◌, List, find, map, slice_index_or, Option, None, Some}
use Rattle.std.specs.List.{range_with_len}
use Rattle.xl_model.specs.declared.leaf.Leaf.{Leaf}
use Rattle.xl_model.specs.declared.row.Serves.TheVariants as serves
use Rattle.xl_model.specs.declared.row.TlbSpec.{TlbSpec}
use Rattle.xl_model.specs.Base.{plus}
use Rattle.xl_model.specs.Mapping.{is_leaf}
use Rattle.xl_model.specs.Ranges.{same_perm}
use Rattle.xl_model.specs.Recency.{touched}
use Rattle.xl_model.specs.Tlb.{TlbArray, set_number, set_at, with_set, array_filled, array_without, opening_array}

-- A point of a curve: an array, and how often it was hit.
pub record Point : Type 0 where
  pub array : TlbArray
  pub hits : ℕ

-- A curve: its points in rising width, and how many look-ups there were.
pub record HitCurve : Type 0 where
  pub points : List Point
  pub lookups : ℕ

-- Two leaves are the same in each of their parts.
abbrev pub same_leaf : Leaf → Leaf → Bool
same_leaf a b =
    is_leaf a.space a.first a.order b && ((b.frame == a.frame) && same_perm a.perm b.perm)

-- What the leaf's set holds of the leaf.
abbrev pub held_in : Leaf → TlbArray → Option Leaf
held_in leaf a = find (same_leaf leaf) (set_at a leaf.order leaf.first)

-- The array with the leaf, which it holds, in front of its set.
abbrev pub leaf_touched : Leaf → TlbArray → TlbArray
leaf_touched leaf a =
    with_set a (set_number a.spec leaf.order leaf.first) (touched (same_leaf leaf) (set_at a leaf.order leaf.first))

-- An array that holds the leaf is hit and touches it; else the leaf is filled.
abbrev pub looked_for : Option Leaf → Leaf → Point → Point
looked_for (Some held) leaf p = record { array = leaf_touched leaf p.array; hits = plus p.hits 1 }
looked_for None leaf p = record p { array = array_filled leaf p.array }

-- A point after a leaf was looked for.
abbrev pub point_accessed : Leaf → Point → Point
point_accessed leaf p = looked_for (held_in leaf p.array) leaf p

-- A point without the leaves that pass a test.
abbrev pub point_without : (Leaf → Bool) → Point → Point
point_without q p = record p { array = array_without q p.array }

-- The curve after a look-up that finds this leaf in the mapping.
unfoldable pub curve_accessed : Leaf → HitCurve → HitCurve
curve_accessed leaf c = record { points = map (point_accessed leaf) c.points; lookups = plus c.lookups 1 }

-- The curve after a look-up that finds no leaf in the mapping: it misses at every width.
unfoldable pub curve_missed : HitCurve → HitCurve
curve_missed c = record c { lookups = plus c.lookups 1 }

-- The curve without the leaves that pass a test.
unfoldable pub curve_without : (Leaf → Bool) → HitCurve → HitCurve
curve_without q c = record c { points = map (point_without q) c.points }

-- The array of a width: at level 1, of all orders.
abbrev pub spec_of_width : ℕ → ℕ → TlbSpec
spec_of_width sets width = record { level = 1; sets = sets; width = width; k4 = true; m2 = true; g1 = true; serves = serves.All }

-- The point of a width, before any look-up.
abbrev pub opening_point : ℕ → ℕ → Point
opening_point sets width = record { array = opening_array (spec_of_width sets width); hits = 0 }

-- The curve of arrays of this many sets, before any look-up.
unfoldable pub opening_curve : ℕ → HitCurve
opening_curve sets = record { points = map (opening_point sets) (range_with_len 1 64); lookups = 0 }

-- The hits of a point.
abbrev pub hits_of : Point → ℕ
hits_of p = p.hits

-- The hits at a width from 1 on.
unfoldable pub hits_at : ℕ → HitCurve → ℕ
hits_at width c = slice_index_or (map hits_of c.points) (width - 1) 0
