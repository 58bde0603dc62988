use Rattle.xl_curving.proofs.Common.{◌++◌, ◌+◌, ◌<◌, ◌∙◌, ◌∷◌, ◌≡◌, ◌≤◌, ◌⊎◌, [], ap, append-nil, append_assoc, arith, Bool, curve_lines, drop, false, HitCurve, IfSome, inl, inr, length, List, nat_tests, refl, Served, sink_cut, sink_then, SinkAfter, SinkMeaning, slice_get, slice_index_or, Some, subst, suc, sym, take, true, zero, ℕ}
use Rattle.xl_curve_model.specs.CurveLines.{line_of}
use Rattle.xl_model.specs.Rows.{Row, row_of}
use Rattle.xl_rack.proofs.RowsLemmas.{some-of}
use Rattle.xl_curving.proofs.curving.write_curves.Goals as goal

-- The lines of curves, one after another.
no-curves : (sets : ℕ) (rows : List Served) → curve_lines sets rows [] ≡ []
no-curves sets [] = refl
no-curves sets (r ∷ rows) = refl

-- the lines of the first rows, and of the others
lines-parts : (sets i : ℕ) (rows : List Served) (curves : List HitCurve) → curve_lines sets rows curves ≡ curve_lines sets (take i rows) curves ++ curve_lines sets (drop i rows) (drop i curves)
lines-parts sets zero rows curves = refl
lines-parts sets (suc i) [] curves = refl
lines-parts sets (suc i) (r ∷ rows) [] = sym (no-curves sets (drop i rows))
lines-parts sets (suc i) (r ∷ rows) (c ∷ curves) =
    let line = line_of r.row.name sets c in
    ap (λ (t : List ℕ). line ++ t) (lines-parts sets i rows curves)
    ∙ sym (append_assoc line (curve_lines sets (take i rows) curves) (curve_lines sets (drop i rows) (drop i curves)))

next-line : (sets i : ℕ) (rows : List Served) (curves : List HitCurve) (v : Served) (c : HitCurve) → slice_get rows i ≡ Some v → slice_get curves i ≡ Some c
    → curve_lines sets (take (suc i) rows) curves ≡ curve_lines sets (take i rows) curves ++ line_of v.row.name sets c
next-line sets zero [] curves v c h k = absurd (grind arith)
next-line sets (suc i) [] curves v c h k = absurd (grind arith)
next-line sets zero (r ∷ rows) [] v c h k = absurd (grind arith)
next-line sets (suc i) (r ∷ rows) [] v c h k = absurd (grind arith)
next-line sets zero (r ∷ rows) (d ∷ curves) v c h k =
    let e : r ≡ v = cc in
    let f : d ≡ c = cc in
    append-nil (line_of r.row.name sets d) ∙ ap (λ (w : Served). line_of w.row.name sets d) e ∙ ap (line_of v.row.name sets) f
next-line sets (suc i) (r ∷ rows) (d ∷ curves) v c h k =
    let line = line_of r.row.name sets d in
    ap (λ (t : List ℕ). line ++ t) (next-line sets i rows curves v c h k)
    ∙ sym (append_assoc line (curve_lines sets (take i rows) curves) (line_of v.row.name sets c))

lines-next : (sets i : ℕ) (rows : List Served) (curves : List HitCurve) (v : Served) (c : HitCurve) → slice_get rows i ≡ Some v → slice_get curves i ≡ Some c
    → curve_lines sets (take (i + 1) rows) curves ≡ curve_lines sets (take i rows) curves ++ line_of v.row.name sets c
lines-next sets i rows curves v c h k =
    let e : i + 1 ≡ suc i = omega arith in
    ap (λ (j : ℕ). curve_lines sets (take j rows) curves) e ∙ next-line sets i rows curves v c h k

-- after the last row, or the last curve, there are no lines
lines-all : (sets i : ℕ) (rows : List Served) (curves : List HitCurve) → length rows ≤ i → curve_lines sets (take i rows) curves ≡ curve_lines sets rows curves
lines-all sets i [] curves h = none i
  where
    none : (j : ℕ) → curve_lines sets (take j []) curves ≡ []
    none zero = refl
    none (suc j) = refl
lines-all sets zero (r ∷ rows) curves h = absurd (omega arith)
lines-all sets (suc i) (r ∷ rows) [] h = refl
lines-all sets (suc i) (r ∷ rows) (c ∷ curves) h = ap (λ (t : List ℕ). line_of r.row.name sets c ++ t) (lines-all sets i rows curves (omega arith))

lines-of-all : (sets i : ℕ) (rows : List Served) (curves : List HitCurve) → length curves ≤ i → curve_lines sets (take i rows) curves ≡ curve_lines sets rows curves
lines-of-all sets i [] curves h = lines-all sets i [] curves (omega arith)
lines-of-all sets zero (r ∷ rows) [] h = refl
lines-of-all sets (suc i) (r ∷ rows) [] h = refl
lines-of-all sets zero (r ∷ rows) (c ∷ curves) h = absurd (omega arith)
lines-of-all sets (suc i) (r ∷ rows) (c ∷ curves) h = ap (λ (t : List ℕ). line_of r.row.name sets c ++ t) (lines-of-all sets i rows curves (omega arith))

nth : {A : Type 0} (xs : List A) (i : ℕ) → i < length xs → (x : A) × (slice_get xs i ≡ Some x)
nth [] i h = absurd (omega arith)
nth (x ∷ xs) zero h = (x, refl)
nth (x ∷ xs) (suc i) h = nth xs i (omega arith)

-- what was read at a place
nth-is : {A : Type 0} (xs : List A) (i : ℕ) (x : A) → i < length xs → x ≡ slice_index_or xs i x → slice_get xs i ≡ Some x
nth-is [] i x h e = absurd (omega arith)
nth-is (y ∷ xs) zero x h e = ap Some (sym e)
nth-is (y ∷ xs) (suc i) x h e = nth-is xs i x (omega arith) e

module _ {K : Type 0} (sink : SinkMeaning K) where
  -- one line more was written, or a put failed in it
  line-written : (sets i : ℕ) (rows : List Served) (curves : List HitCurve) (row : Row) (c : HitCurve) (k l m : K) (whole : Bool) → i < length rows
      → IfSome (slice_get rows i) (λ v. row ≡ v.row) → slice_get curves i ≡ Some c → SinkAfter sink (curve_lines sets (take i rows) curves) k l true
      → SinkAfter sink (line_of row.name sets c) l m whole → SinkAfter sink (curve_lines sets (take (i + 1) rows) curves) k m whole
  line-written sets i rows curves row c k l m whole h named at first next =
      let (v, e) = nth rows i h in
      let same : row ≡ v.row = some-of (slice_get rows i) (λ (w : Served). row ≡ w.row) v named e in
      let line = line_of v.row.name sets c in
      let second : SinkAfter sink line l m whole = subst (λ (r : Row). SinkAfter sink (line_of r.name sets c) l m whole) same next in
      subst (λ (t : List ℕ). SinkAfter sink t k m whole) (sym (lines-next sets i rows curves v c e at)) (sink_then sink (curve_lines sets (take i rows) curves) line k l m whole first second)

  -- a put failed in the lines of the first rows
  lines-cut : (sets i : ℕ) (rows : List Served) (curves : List HitCurve) (k l : K) → SinkAfter sink (curve_lines sets (take i rows) curves) k l false
      → SinkAfter sink (curve_lines sets rows curves) k l false
  lines-cut sets i rows curves k l first =
      let P : List ℕ → Type 0 = λ t. SinkAfter sink t k l false in
      subst P (sym (lines-parts sets i rows curves)) (sink_cut sink (curve_lines sets (take i rows) curves) (curve_lines sets (drop i rows) (drop i curves)) k l first)

  -- all lines were written
  lines-written : (sets i : ℕ) (rows : List Served) (curves : List HitCurve) (k l : K) → (length rows ≤ i) ⊎ (length curves ≤ i)
      → SinkAfter sink (curve_lines sets (take i rows) curves) k l true → SinkAfter sink (curve_lines sets rows curves) k l true
  lines-written sets i rows curves k l (inl h) first = subst (λ (t : List ℕ). SinkAfter sink t k l true) (lines-all sets i rows curves h) first
  lines-written sets i rows curves k l (inr h) first = subst (λ (t : List ℕ). SinkAfter sink t k l true) (lines-of-all sets i rows curves h) first

pub returns-in-Err : goal.returns-in-Err
returns-in-Err g c =
    let sink = g.K.Sink.sink in
    let at = c.loop-i in
    let sets = c.args.sets in
    let rows = c.args.rack.now in
    let curves = c.args.curves.now in
    let curve = c.index-curves-i.result in
    let row : at.i < length rows = let e = c.len.ensures in let f = c.if-i-len.false in grind (arith, nat_tests) in
    let inside : at.i < length curves = grind (arith, nat_tests) in
    lines-cut sink sets (at.i + 1) rows curves c.args.out.now c.write_curve.new.out
    (line-written sink sets at.i rows curves (row_of c.row.result.now) curve c.args.out.now at.out c.write_curve.new.out false row c.row.ensures
    (nth-is curves at.i curve inside c.index-curves-i.is) at.invariant (rw (c.lookups.ensures, c.all_hits.ensures) at c.in-Err.ensures))

pub loop-i-preserved : goal.loop-i-preserved
loop-i-preserved g c =
    let at = c.loop-i in
    let sets = c.args.sets in
    let rows = c.args.rack.now in
    let curves = c.args.curves.now in
    let curve = c.index-curves-i.result in
    let row : at.i < length rows = let e = c.len.ensures in let f = c.if-i-len.false in grind (arith, nat_tests) in
    let inside : at.i < length curves = grind (arith, nat_tests) in
    line-written g.K.Sink.sink sets at.i rows curves (row_of c.row.result.now) curve c.args.out.now at.out c.write_curve.new.out true row c.row.ensures
    (nth-is curves at.i curve inside c.index-curves-i.is) at.invariant (rw (c.lookups.ensures, c.all_hits.ensures) at c.in-Ok.ensures)

pub returns : goal.returns
returns g c =
    let all : length c.args.curves.now ≤ c.loop-i.i = grind (arith, nat_tests) in
    lines-written g.K.Sink.sink c.args.sets c.loop-i.i c.args.rack.now c.args.curves.now c.args.out.now c.loop-i.out (inr all) c.loop-i.invariant
