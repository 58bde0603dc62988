use Rattle.xl_report.proofs.Common.{◌++◌, ◌+◌, ◌-◌, ◌<◌, ◌∙◌, ◌∷◌, ◌≡◌, add-one, ap, arith, codes, decimal, drop, drop-cons, length, length-append, List, refl, slice_index, suc, sym, with_more_arrays, ℕ}
use Rattle.xl_report.proofs.row.arrays.Goals as goal

-- One array more.
next_array : (line hits misses : List ℕ) (n i : ℕ) → i < n → i < length hits → i < length misses
    → with_more_arrays line (n - i) (drop i hits) (drop i misses)
    ≡ with_more_arrays (line ++ codes "," ++ decimal (slice_index hits i) ++ codes "/" ++ decimal (slice_index misses i)) (n - (i + 1)) (drop (i + 1) hits) (drop (i + 1) misses)
next_array line hits misses n i less h m =
    let e : n - i ≡ suc (n - (i + 1)) = omega arith in
    let a : drop i hits ≡ slice_index hits i ∷ drop (i + 1) hits = rw add-one (drop-cons hits i 0 h) in
    let b : drop i misses ≡ slice_index misses i ∷ drop (i + 1) misses = rw add-one (drop-cons misses i 0 m) in
    rw (e, a, b) refl

pub loop-i-preserved : goal.loop-i-preserved
loop-i-preserved c =
    let step = next_array c.loop-i.line c.args.hits.now c.args.misses.now c.args.count c.loop-i.i (omega arith) (omega arith) (omega arith) in
    let more : length c.add-in-loop-i.new.self ≡ length c.loop-i.line + 1 = ap length c.add-in-loop-i.ensures ∙ length-append c.loop-i.line (codes ",") in
    record {
      text = rw (c.pair-in-loop-i.ensures.text, c.add-in-loop-i.ensures) (sym step ∙ c.loop-i.invariant.text);
      grows = omega (arith, more, c.pair-in-loop-i.ensures.grows, c.loop-i.invariant.grows);
    }
