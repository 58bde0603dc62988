use Rattle.xl_array.proofs.Common.{array_in}
use Rattle.xl_array.proofs.LookupLemmas.{known_hit}
use Rattle.xl_array.proofs.any.AnyArray.look.Goals as goal

pub invariant_of-self : goal.invariant_of-self
invariant_of-self c =
    let t = c.self.inside in
    let is = c.look_at_width.ensures in
    known_hit t.held t.large t.places c.args.space c.args.page c.look_at_width.result (array_in t.array) (array_in c.look_at_width.new.arrays) is.some is.none c.self.invariant
