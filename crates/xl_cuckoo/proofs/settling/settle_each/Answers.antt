use Rattle.xl_cuckoo.proofs.Common.{◌+◌, ◌<◌, ◌∙◌, ◌≡◌, ap, arith, drop, length, List, plus, shapes, slots_settled, state_at, sym, total, WayState, with_settled, ℕ}
use Rattle.xl_cuckoo.proofs.LoopLemmas.{state-same, total-next, written-more}
use Rattle.xl_cuckoo.proofs.settling.settle_each.Goals as goal

pub ways-preserved : goal.ways-preserved
ways-preserved c =
    let ws : List WayState = c.args.ways.now in
    let vs : List WayState = c.ways.ways in
    let at : ℕ = c.ways.at in
    let f : WayState → WayState = with_settled c.args.most in
    let here : at < length vs = (let a = c.ways.auto.ways in let t = c.ways-test.true in omega arith) in
    let rest : ℕ = total (slots_settled c.args.most) (shapes (drop (at + 1) ws)) in
    let one : c.settle_at-migrated.result ≡ slots_settled c.args.most (state_at ws at).shape =
    c.settle_at-migrated.ensures.migrated ∙ ap (λ (w : WayState). slots_settled c.args.most w.shape) (state-same f ws vs at c.ways-test.true c.ways.invariant.ways) in
    record {
      ways = c.settle_at-migrated.ensures.ways ∙ written-more f ws vs at c.ways-test.true c.ways.invariant.ways here;
      count = ap (λ (n : ℕ). plus (plus c.ways.migrated n) rest) one
          ∙ sym (total-next (slots_settled c.args.most) c.ways.migrated ws at c.ways-test.true)
          ∙ c.ways.invariant.count;
    }
