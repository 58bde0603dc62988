use Rattle.xl_curve.proofs.Common.{◌<◌, ◌∙◌, ◌≡◌, ap, arith, get_or, get_or_default, Leaf, length, List, map, map_over_more, Option, place_without, set}
use Rattle.xl_curve.proofs.SetLemmas.{thinned_kept}
use Rattle.xl_curve.proofs.sets.remove_from_each.Goals as goal

pub loop-stack-preserved : goal.loop-stack-preserved
loop-stack-preserved g c =
    let stacks = c.loop-stack.stacks in
    let i = c.loop-stack.stack-index in
    let l : i < length c.args.stacks.now = omega (arith, c.loop-stack.auto.stacks) in
    let m : i < length stacks = omega arith in
    let old : List (Option Leaf) = get_or stacks i c.stack-item.result in
    let is : old ≡ get_or stacks i old = get_or_default stacks i c.stack-item.result old m in
    record {
      removed = λ q test.
          ap (λ (x : List (Option Leaf)). set stacks i x) (c.remove_where.ensures.removed q test)
          ∙ map_over_more (map (place_without q)) c.args.stacks.now stacks i old l (c.loop-stack.invariant.removed q test) is;
      kept = λ kept. thinned_kept stacks i old c.remove_where.new.self m is (c.loop-stack.invariant.kept kept) c.remove_where.ensures.thinned;
    }
