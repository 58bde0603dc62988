use Rattle.xl_curve.proofs.Common.{◌%◌, ◌+◌, ◌<◌, ◌^◌, ◌∙◌, ◌≡◌, arith, get_or, hits_below, length, length-set, sym, take_all}
use Rattle.xl_curve.proofs.CurveLemmas.{filled_more, one_more}
use Rattle.xl_curve.proofs.curve.totals.Goals as goal

pub loop-at-preserved : goal.loop-at-preserved
loop-at-preserved c =
    let counts = c.args.counts.now in
    let at = c.loop-at.at in
    let i = c.loop-at.invariant in
    let l : at < length counts = omega arith in
    let room : at < length c.loop-at.totals = omega (arith, i.all) in
    let more : (c.loop-at.total + get_or counts at 0) % 2 ^ 64 ≡ hits_below counts (at + 1) = one_more counts at c.loop-at.total l i.total in
    record {
      all = length-set c.loop-at.totals at _ ∙ i.all;
      total = more;
      filled = filled_more (hits_below counts) c.loop-at.totals at _ room i.filled more;
    }

pub returns : goal.returns
returns c =
    let at_is : c.loop-at.at ≡ 64 = omega arith in
    sym (take_all 64 c.loop-at.totals (omega (arith, c.loop-at.invariant.all))) ∙ (rw at_is at c.loop-at.invariant.filled)
