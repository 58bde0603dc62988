use Rattle.xl_numbers.proofs.Common.{◌∙◌, ap, arith, length}
use Rattle.xl_numbers.proofs.ViewLemmas.{free-set, free-within, put-kept, put-seen}
use Rattle.xl_numbers.proofs.free.FreeNumbers.take_out.Goals as goal

pub drop_number-requires-clause-within : goal.drop_number-requires-clause-within
drop_number-requires-clause-within c =
    let less = free-within _ _ _ c.args.number c.self.view_is c.requires in
    let room = c.self.invariant.room in
    rw c.deref_mut.ensures.value (omega arith)

pub drop_number-requires-clause-there : goal.drop_number-requires-clause-there
drop_number-requires-clause-there c = rw c.deref_mut.ensures.value (free-set _ _ _ c.args.number c.self.view_is c.requires)

pub returns : goal.returns
returns c =
    let s = c.self.inside in
    let less = free-within _ _ _ c.args.number c.self.view_is c.requires in
    put-seen s.low s.count _ c.self.view_is c.args.number 0 less (rw c.deref_mut.ensures.value at c.drop_number.ensures.put)

pub invariant_of-self : goal.invariant_of-self
invariant_of-self c =
    let s = c.self.inside in
    let less = free-within _ _ _ c.args.number c.self.view_is c.requires in
    let same = c.drop_number.auto.middle ∙ ap length c.deref_mut-2.ensures.value in
    put-kept s.low s.middle c.args.number 0 c.self.invariant less same c.drop_number.ensures.stack (rw c.deref_mut.ensures.value at c.drop_number.ensures.put)
