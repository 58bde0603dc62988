use Rattle.xl_range.proofs.Common.{ap, row_table}
use Rattle.xl_range.proofs.WalkLemmas.{fence-made, seen-fence}
use Rattle.xl_range.proofs.ranges.RangesStructure.fence.Goals as goal

pub invariant_of-self : goal.invariant_of-self
invariant_of-self c =
    (fence-made c.args.reach c.self.inside.ranges c.drop_reach.result c.self.inside.treap.seen c.self.inside.tlb c.drop_reach.new.self c.self.invariant c.drop_reach.ensures.left c.drop_reach.ensures.after).row

pub returns : goal.returns
returns c =
    record { fences = seen-fence c.args.reach c.self.inside.ranges c.drop_reach.result c.self.inside.treap.seen c.self.inside.tlb c.drop_reach.new.self (row_table c.args.self.now) (ap row_table c.self.view_is) (fence-made c.args.reach c.self.inside.ranges c.drop_reach.result c.self.inside.treap.seen c.self.inside.tlb c.drop_reach.new.self c.self.invariant c.drop_reach.ensures.left c.drop_reach.ensures.after) }
