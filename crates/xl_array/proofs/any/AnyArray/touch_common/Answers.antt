use Rattle.xl_array.proofs.Common.{array_in}
use Rattle.xl_array.proofs.LookupLemmas.{known_touched}
use Rattle.xl_model.specs.declared.address.Order.TheVariants as order
use Rattle.xl_array.proofs.any.AnyArray.touch_common.Goals as goal

pub invariant_of-self : goal.invariant_of-self
invariant_of-self c =
    let t = c.self.inside in
    known_touched t.held t.large t.places order.K4 c.args.lookup c.touch_at_common.result (array_in t.array) (array_in c.touch_at_common.new.arrays) c.touch_at_common.ensures c.self.invariant
