use Rattle.xl_report.proofs.Common.{◌++◌, ◌+◌, ◌-◌, ◌∙◌, ap, arith, Data, drop, List, map, pairs, sym, view}
use Rattle.xl_report.proofs.JsonLemmas.{next_pair, pushed}
use Rattle.xl_report.proofs.object.pairs_value.Goals as goal

pub loop-i-preserved : goal.loop-i-preserved
loop-i-preserved c =
    let hits = c.args.hits.now in
    let misses = c.args.misses.now in
    let i = c.loop-i.i in
    let step = next_pair hits misses c.args.count i (omega arith) (omega arith) (omega arith) in
    let rest = pairs (c.args.count - (i + 1)) (drop (i + 1) hits) (drop (i + 1) misses) in
    pushed c.loop-i.values.items c.push.new.self.items c.in_ok-pair_value.field-0 _ rest c.in_ok-push.ensures.items c.in_ok-pair_value.ensures
    ∙ ap (λ (ds : List Data). map view c.loop-i.values.items ++ ds) (sym step)
    ∙ c.loop-i.invariant
