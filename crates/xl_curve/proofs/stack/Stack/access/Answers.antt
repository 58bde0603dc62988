use Rattle.xl_curve.proofs.Common.{arith, leaf_in, list_of, places_of, same_leaf}
use Rattle.xl_curve.proofs.KernelLemmas.{some_below}
use Rattle.xl_curve.proofs.RankLemmas.{turn_length}
use Rattle.xl_curve.proofs.stack.Stack.access.Goals as goal

pub returns-clause-below : goal.returns-clause-below
returns-clause-below c =
    let s = c.self.inside.slots in
    some_below c.bring_in_front.result (same_leaf (leaf_in c.args.leaf)) (list_of s) 64 c.bring_in_front.ensures.front.was_is
    (omega (arith, turn_length s.ranks (places_of s.places)))
