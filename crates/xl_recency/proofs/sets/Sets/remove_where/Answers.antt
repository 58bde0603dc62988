use Rattle.xl_recency.proofs.Common.{◌<◌, ◌∙◌, [], arith, get_or, get_or_default, length, map_over_more, purged}
use Rattle.xl_recency.proofs.sets.Sets.remove_where.Goals as goal

pub loop-set-preserved : goal.loop-set-preserved
loop-set-preserved g c =
    let set = c.loop-set.set in
    let lists = c.loop-set.self in
    let within : set < length lists = omega (arith, c.loop-set.invariant.sets) in
    record {
      sets = omega (arith, c.loop-set.invariant.sets, c.remove-count.ensures.sets);
      most = omega arith;
      count = omega (arith, c.loop-set.invariant.count, c.remove-count.ensures.count);
      kept = λ q test.
          (c.remove-count.ensures.kept q test).kept
          ∙ map_over_more (purged q) c.args.self.now lists set (get_or lists set []) (omega (arith, c.loop-set.invariant.sets)) (c.loop-set.invariant.kept q test)
          (get_or_default lists set [] (get_or lists set []) within);
    }
