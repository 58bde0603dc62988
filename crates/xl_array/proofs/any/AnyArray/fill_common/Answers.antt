use Rattle.xl_array.proofs.Common.{array_in, leaves_in_sets}
use Rattle.xl_array.proofs.LookupLemmas.{known_filled}
use Rattle.xl_array.proofs.any.AnyArray.fill_common.Goals as goal

pub invariant_of-self : goal.invariant_of-self
invariant_of-self c =
    let t = c.self.inside in
    let is = c.fill_at_common-grown.ensures in
    known_filled t.held _ t.large t.places c.args.lookup c.args.word c.fill_at_common-grown.result (array_in t.array) (array_in c.fill_at_common-grown.new.arrays) is c.self.invariant
    (rw is.held (c.raise.ensures (leaves_in_sets (array_in t.array).sets) c.self.invariant.counts))
