use Rattle.xl_harting.proofs.Common.{◌++◌, ◌+◌, ◌<◌, ◌∙◌, ◌∷◌, ◌≡◌, [], ap, append_assoc, arith, Bool, counts_lines, drop, false, Hart, hart_counts_line, length, List, opening_hart, sink_cut, sink_then, SinkAfter, SinkMeaning, slice_index_or, subst, suc, sym, take, true, zero, ℕ}
use Rattle.std.proofs.lemmas.Bool.Decides.{nat_tests}
use Rattle.std.proofs.lemmas.List.{append-nil, take-append-drop}
use Rattle.xl_harting.proofs.ending.write_each.Goals as goal

-- The lines of harts, one by one.
lines-more : (n i : ℕ) (harts : List Hart) (none : Hart) → i < length harts
    → counts_lines n (take (suc i) harts) ≡ counts_lines n (take i harts) ++ hart_counts_line (n + i) (slice_index_or harts i none).counts
lines-more n i [] none h = absurd (omega arith)
lines-more n zero (x ∷ harts) none h =
    let e : n ≡ n + 0 = omega arith in append-nil (hart_counts_line n x.counts) ∙ ap (λ (j : ℕ). hart_counts_line j x.counts) e
lines-more n (suc i) (x ∷ harts) none h =
    let e : (n + 1) + i ≡ n + suc i = omega arith in
    ap (λ (rest : List ℕ). hart_counts_line n x.counts ++ rest)
    (lines-more (n + 1) i harts none (omega arith) ∙ ap (λ (j : ℕ). counts_lines (n + 1) (take i harts) ++ hart_counts_line j (slice_index_or harts i none).counts) e)
    ∙ sym (append_assoc (hart_counts_line n x.counts) (counts_lines (n + 1) (take i harts)) (hart_counts_line (n + suc i) (slice_index_or harts i none).counts))

lines-append : (n : ℕ) (xs ys : List Hart) → counts_lines n (xs ++ ys) ≡ counts_lines n xs ++ counts_lines (n + length xs) ys
lines-append n [] ys = let e : n ≡ n + 0 = omega arith in ap (λ (j : ℕ). counts_lines j ys) e
lines-append n (x ∷ xs) ys =
    let e : (n + 1) + length xs ≡ n + suc (length xs) = omega arith in
    ap (λ (rest : List ℕ). hart_counts_line n x.counts ++ rest) (lines-append (n + 1) xs ys ∙ ap (λ (j : ℕ). counts_lines (n + 1) xs ++ counts_lines j ys) e)
    ∙ sym (append_assoc (hart_counts_line n x.counts) (counts_lines (n + 1) xs) (counts_lines (n + suc (length xs)) ys))

module _ {K : Type 0} (sink : SinkMeaning K) (harts : List Hart) (none : Hart) (i : ℕ) (inside : i < length harts) (a b c : K) where
  line-next : (whole : Bool) → SinkAfter sink (counts_lines 0 (take i harts)) a b true
      → SinkAfter sink (hart_counts_line i (slice_index_or harts i none).counts) b c whole → SinkAfter sink (counts_lines 0 (take (suc i) harts)) a c whole
  line-next whole x y =
      let e : i ≡ 0 + i = omega arith in
      let line = λ (j : ℕ). hart_counts_line j (slice_index_or harts i none).counts in
      subst (λ (text : List ℕ). SinkAfter sink text a c whole) (ap (λ (j : ℕ). counts_lines 0 (take i harts) ++ line j) e ∙ sym (lines-more 0 i harts none inside))
      (sink_then sink (counts_lines 0 (take i harts)) (line i) a b c whole x y)

  -- the line of one hart more was put
  lines_next : SinkAfter sink (counts_lines 0 (take i harts)) a b true
      → SinkAfter sink (hart_counts_line i (slice_index_or harts i none).counts) b c true → SinkAfter sink (counts_lines 0 (take (i + 1) harts)) a c true
  lines_next x y =
      let e : suc i ≡ i + 1 = omega arith in
      subst (λ (j : ℕ). SinkAfter sink (counts_lines 0 (take j harts)) a c true) e (line-next true x y)

  -- the line of a hart wasn't put whole
  lines_lost : SinkAfter sink (counts_lines 0 (take i harts)) a b true
      → SinkAfter sink (hart_counts_line i (slice_index_or harts i none).counts) b c false → SinkAfter sink (counts_lines 0 harts) a c false
  lines_lost x y =
      let first = take (suc i) harts in
      let rest = drop (suc i) harts in
      subst (λ (text : List ℕ). SinkAfter sink text a c false) (sym (lines-append 0 first rest) ∙ ap (counts_lines 0) (take-append-drop (suc i) harts))
      (sink_cut sink (counts_lines 0 first) (counts_lines (0 + length first) rest) a c (line-next false x y))

pub returns-in-Err : goal.returns-in-Err
returns-in-Err g c =
    let s = c.args.harts.now in
    let inside : c.loop-hart.hart < length s.harts = let e = c.len-hart-end.ensures in grind (arith, nat_tests) in
    lines_lost g.K.Sink.sink s.harts (opening_hart s.spec) c.loop-hart.hart inside c.args.out.now c.loop-hart.out c.write_hart_counts.new.out
    c.loop-hart.invariant (rw c.counts.ensures at c.in-Err.ensures)

pub loop-hart-preserved : goal.loop-hart-preserved
loop-hart-preserved g c =
    let s = c.args.harts.now in
    let inside : c.loop-hart.hart < length s.harts = let e = c.len-hart-end.ensures in grind (arith, nat_tests) in
    lines_next g.K.Sink.sink s.harts (opening_hart s.spec) c.loop-hart.hart inside c.args.out.now c.loop-hart.out c.write_hart_counts.new.out
    c.loop-hart.invariant (rw c.counts.ensures at c.in-Ok.ensures)
