use Rattle.xl_areas.proofs.Common.{nat_le, of_calls, rules}
use Rattle.std.proofs.lemmas.Fn.{always_returns_same}
use Rattle.xl_areas.proofs.CountLemmas.{count-is, parted}
use Rattle.xl_areas.proofs.bounds.count.Goals as goal

pub returns-clause-value : goal.returns-clause-value
returns-clause-value c =
    let bounds = c.args.bounds.now in
    let point = c.partition_point.ensures.partitioned (λ b. nat_le b.key c.args.key) (always_returns_same _ _ _ (λ a r f k. search (rules, of_calls))) (λ i j d le less t. parted c.args.key bounds i j d c.requires le less t) in
    count-is c.args.key bounds c.partition_point.result c.partition_point.ensures.bound point.0 point.1
