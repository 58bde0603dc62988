use Rattle.xl_machine.proofs.Common.{◌&&◌, ◌*◌, ◌+◌, ◌==◌, ◌^◌, ◌||◌, ◌∷◌, ◌≡◌, ◌≤◌, [], AreSpecs, arith, Bool, Counts, false, is_array, is_width, is_within, IsMapping, IsRising, IsRow, IsRowFor, IsServed, IsSpec, length, levels_of, levels_rise, levels_rise_from, List, list_all, Mode, nat_le, nat_tests, no_counts, NoneBelow, opened, opening, opening-fresh, page_limit, refl, replicate, Row, row_of, served, spaces_of, suc, TableState, tlb_opening, TlbState, true, zero, ℕ}
use Rattle.std.proofs.lemmas.List.{get_or-replicate, length-replicate}
use Rattle.std.specs.Cmp.{first_so, second_so}
use Rattle.xl_model.specs.Shapes.{opening_shape}
use Rattle.xl_model.specs.declared.row.Table.{Table}
use Rattle.xl_model.specs.declared.row.TlbSpec.{TlbSpec}
use Rattle.xl_model.specs.declared.address.Mode.TheVariants as mode
use Rattle.xl_model.specs.declared.row.Table.TheVariants as table
use Rattle.xl_machine.proofs.machine.Machine.open.Goals as goal

-- levels that rise by one at most rise
none-below : (low level : ℕ) (specs : List TlbSpec) → low ≤ level → NoneBelow level specs → NoneBelow low specs
none-below low level [] h n = tt
none-below low level (t ∷ ts) h n = let k : level ≤ t.level = n.0 in (omega arith, none-below low level ts h n.1)

rising-from : (level : ℕ) (specs : List TlbSpec) → levels_rise_from level specs ≡ true → NoneBelow level specs × IsRising specs
rising-from level [] h = (tt, tt)
rising-from level (t ∷ ts) h =
    let rest = rising-from t.level ts (second_so _ _ h) in
    let low : level ≤ t.level = next level t.level (first_so _ _ h) in
    ((low, none-below level t.level ts low rest.0), rest)
  where
    next : (a b : ℕ) → ((b == a) || (b == a + 1)) ≡ true → a ≤ b
    next a b e = grind (arith, nat_tests)

rising : (specs : List TlbSpec) → levels_rise specs ≡ true → IsRising specs
rising [] h = tt
rising (t ∷ ts) h = rising-from t.level ts (second_so _ _ h)

-- each array of a row is one that arrays can be
spec-by : (level sets rest width some : Bool) → ((level && sets) && ((width && some) && rest)) ≡ true → (sets ≡ true) × (width ≡ true) × (some ≡ true)
spec-by level sets rest width some h =
    let a : (level && sets) ≡ true = first_so (level && sets) ((width && some) && rest) h in
    let b : ((width && some) && rest) ≡ true = second_so (level && sets) ((width && some) && rest) h in
    let d : (width && some) ≡ true = first_so (width && some) rest b in
    (second_so level sets a, first_so width some d, second_so width some d)

spec-of : (spec : TlbSpec) → is_array spec ≡ true → IsSpec spec
spec-of spec h =
    let e = spec-by (is_within 1 3 spec.level) (is_within 1 16384 spec.sets) (nat_le (spec.sets * spec.width) 16384 && (spec.k4 || (spec.m2 || spec.g1))) (is_width spec.width) (nat_le 1 spec.width) h in
    let least : nat_le 1 spec.sets ≡ true = first_so (nat_le 1 spec.sets) (nat_le spec.sets 16384) e.0 in
    let some : nat_le 1 spec.width ≡ true = e.2 in
    record { sets = grind (arith, nat_tests); some = grind (arith, nat_tests); width = e.1 }

specs-of : (specs : List TlbSpec) → list_all is_array specs ≡ true → AreSpecs specs
specs-of [] h i d below = absurd (omega arith)
specs-of (x ∷ xs) h zero d below = spec-of x (first_so _ _ h)
specs-of (x ∷ xs) h (suc i) d below = specs-of xs (second_so _ _ h) i d (omega arith)

-- frames and spaces of a row
frames-of : (row : Row) → IsRow row → (1 ≤ row.frames) × (row.frames ≤ 2 ^ 22)
frames-of row is =
    let a = first_so (nat_le 1 row.frames) (nat_le row.frames 4194304) is.frames_in in
    let b = second_so (nat_le 1 row.frames) (nat_le row.frames 4194304) is.frames_in in
    (grind (arith, nat_tests), grind (arith, nat_tests))

spaces-of : (row : Row) → IsRow row → (1 ≤ row.spaces) × (row.spaces ≤ 64)
spaces-of row is =
    let a = first_so (nat_le 1 row.spaces) (nat_le row.spaces 64) is.spaces_in in
    let b = second_so (nat_le 1 row.spaces) (nat_le row.spaces 64) is.spaces_in in
    (grind (arith, nat_tests), grind (arith, nat_tests))

pages-in : (m : Mode) → 2 ^ (9 * levels_of m) ≤ 2 ^ 45
pages-in mode.Sv39 = omega arith
pages-in mode.Sv48 = omega arith
pages-in mode.Sv57 = omega arith

shape-takes : (m : Mode) (spaces : ℕ) (t : Table) → spaces ≤ 64
    → (spaces ≤ spaces_of (opening_shape (levels_of m) spaces t)) × (2 ^ (9 * levels_of m) ≤ page_limit (opening_shape (levels_of m) spaces t))
unfolding opening_shape
shape-takes m spaces (table.Radix frames caches) h = (omega arith, omega arith)
shape-takes m spaces (table.Hashed buckets entries) h = (h, pages-in m)
shape-takes m spaces (table.Clustered buckets blocks) h = (h, pages-in m)
shape-takes m spaces (table.Cuckoo ways start cap threshold kick_limit migrate sections_2m sections_1g caches) h = (h, pages-in m)
shape-takes m spaces (table.Range ranges tlb) h = (h, pages-in m)

opening-fits : (row : Row) → IsRow row → IsRowFor row (opening row).table
unfolding opening
opening-fits row is =
    let s = spaces-of row is in
    let f = frames-of row is in
    let t = shape-takes row.mode row.spaces row.table s.1 in
    record { spaces_in = t.0; few_spaces = s.1; pages_in = t.1; few_frames = f.1 }

no-leaves : (row : Row) → IsMapping row []
no-leaves row = record { sorted = tt; valid = λ x i. absurd i; pages = λ x y page i. absurd i; frames = λ x y frame i. absurd i }

kept-at-opening : (row : Row) → IsRow row → IsServed row (opening row).table 0 (tlb_opening row.tlb) (replicate row.frames true)
unfolding opening tlb_opening
kept-at-opening row is =
    let s = spaces-of row is in
    record {
      fits = opening-fits row is;
      mapping = no-leaves row;
      fresh = opening-fresh row.tlb [];
      pool_is = record { size = length-replicate row.frames true; each = λ f below. get_or-replicate row.frames f true false below };
      space_in = s.0;
    }

opening-kept : (row : Row) (table : TableState) (tlb : TlbState) (pool : List Bool) → IsRow row → table ≡ (opening row).table → tlb ≡ tlb_opening row.tlb → pool ≡ replicate row.frames true
    → IsServed row table 0 tlb pool
opening-kept row table tlb pool is e f p = rw (e, f, p) (kept-at-opening row is)

served-at-opening : (row : Row) → served row (opening row).table 0 (tlb_opening row.tlb) (no_counts (length row.tlb)) ≡ opened row
unfolding opening tlb_opening no_counts
served-at-opening row = refl

opening-is : (row : Row) (table : TableState) (tlb : TlbState) (counts : Counts) (arrays : ℕ) → table ≡ (opening row).table → tlb ≡ tlb_opening row.tlb → counts ≡ no_counts arrays → arrays ≡ length row.tlb
    → served row table 0 tlb counts ≡ opened row
opening-is row table tlb counts arrays e f c n = rw (e, f, c, n) (served-at-opening row)

pub open-requires-2-clause-specs : goal.open-requires-2-clause-specs
open-requires-2-clause-specs g c = specs-of c.args.row.tlb.items c.requires.row.arrays_are

pub open-requires-2-clause-rising : goal.open-requires-2-clause-rising
open-requires-2-clause-rising g c = rising c.args.row.tlb.items c.requires.row.levels_are

pub invariant_of-result : goal.invariant_of-result
invariant_of-result g c = record {
  served = opening-kept (row_of c.args.row) (g.S.Structure.table c.args.table) c.in_ok-tlb.tlb c.in_ok-frames.frames c.requires.row c.requires.table c.in_ok-tlb.ensures c.in_ok-frames.ensures;
  span_is = c.of-span.ensures;
}

pub returns : goal.returns
returns g c =
    opening-is (row_of c.args.row) (g.S.Structure.table c.args.table) c.in_ok-tlb.tlb c.none-counts.result c.len.result c.requires.table c.in_ok-tlb.ensures c.none-counts.ensures c.len.ensures.value
