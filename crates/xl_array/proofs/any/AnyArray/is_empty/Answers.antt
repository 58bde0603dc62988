use Rattle.xl_array.proofs.Common.{◌≡◌, arith, array_in, leaves_in_sets, nat_tests}
use Rattle.xl_array.proofs.HeldLemmas.{empty-misses}
use Rattle.xl_array.proofs.any.AnyArray.is_empty.Goals as goal

pub returns : goal.returns
returns c = λ none space page.
    let held : c.self.inside.held ≡ 0 = grind (arith, nat_tests) in
    let few : leaves_in_sets (array_in c.self.inside.array).sets ≡ 0 = omega (arith, held, c.self.invariant.counts (omega (arith, held))) in
    rw (← c.self.view_is) (empty-misses (array_in c.self.inside.array) space page few)
