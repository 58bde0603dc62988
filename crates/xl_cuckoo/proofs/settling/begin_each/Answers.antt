use Rattle.xl_cuckoo.proofs.Common.{◌+◌, ◌<◌, ◌∙◌, ◌≡◌, ap, arith, begins, drop, length, List, one_if, plus, shapes, state_at, sym, total, WayShape, WayState, with_begun, ℕ}
use Rattle.xl_cuckoo.proofs.LoopLemmas.{state-same, total-next, written-more}
use Rattle.xl_cuckoo.proofs.settling.begin_each.Goals as goal

pub ways-preserved : goal.ways-preserved
ways-preserved c =
    let ws : List WayState = c.args.ways.now in
    let vs : List WayState = c.ways.ways in
    let at : ℕ = c.ways.at in
    let f : WayState → WayState = with_begun c.args.threshold in
    let begun_in : WayShape → ℕ = λ w. one_if (begins c.args.threshold w) in
    let here : at < length vs = (let a = c.ways.auto.ways in let t = c.ways-test.true in omega arith) in
    let rest : ℕ = total begun_in (shapes (drop (at + 1) ws)) in
    let one : c.begin_at-growths.result ≡ begun_in (state_at ws at).shape =
    c.begin_at-growths.ensures.growths ∙ ap (λ (w : WayState). begun_in w.shape) (state-same f ws vs at c.ways-test.true c.ways.invariant.ways) in
    record {
      ways = c.begin_at-growths.ensures.ways ∙ written-more f ws vs at c.ways-test.true c.ways.invariant.ways here;
      count = ap (λ (n : ℕ). plus (plus c.ways.growths n) rest) one
          ∙ sym (total-next begun_in c.ways.growths ws at c.ways-test.true)
          ∙ c.ways.invariant.count;
    }
