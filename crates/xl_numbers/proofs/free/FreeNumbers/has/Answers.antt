use Rattle.xl_numbers.proofs.Common.{◌<◌, ◌∙◌, rules}
use Rattle.xl_numbers.proofs.ViewLemmas.{bit-seen, past-seen}
use Rattle.xl_numbers.proofs.free.FreeNumbers.has.Goals as goal

pub returns-then-number-self : goal.returns-then-number-self
returns-then-number-self c = past-seen _ _ _ c.args.number c.self.view_is (search rules)

pub returns : goal.returns
returns c =
    let less : c.args.number < c.self.inside.count = search rules in
    (rw c.deref.ensures.value at c.has_bit.ensures) ∙ bit-seen _ _ _ c.args.number c.self.view_is less
