use Rattle.xl_numbers.proofs.Common.{◌∙◌, ap, arith, length}
use Rattle.xl_numbers.proofs.ViewLemmas.{below-count, put-kept, put-seen}
use Rattle.xl_numbers.proofs.free.FreeNumbers.give.Goals as goal

pub put_number-requires-clause-within : goal.put_number-requires-clause-within
put_number-requires-clause-within c =
    let less = below-count _ _ _ c.args.number c.self.view_is c.requires in
    let room = c.self.invariant.room in
    rw c.deref_mut.ensures.value (omega arith)

pub returns : goal.returns
returns c =
    let s = c.self.inside in
    let less = below-count _ _ _ c.args.number c.self.view_is c.requires in
    put-seen s.low s.count _ c.self.view_is c.args.number 1 less (rw c.deref_mut.ensures.value at c.put_number.ensures.put)

pub invariant_of-self : goal.invariant_of-self
invariant_of-self c =
    let s = c.self.inside in
    let less = below-count _ _ _ c.args.number c.self.view_is c.requires in
    let same = c.put_number.auto.middle ∙ ap length c.deref_mut-2.ensures.value in
    put-kept s.low s.middle c.args.number 1 c.self.invariant less same c.put_number.ensures.stack (rw c.deref_mut.ensures.value at c.put_number.ensures.put)
