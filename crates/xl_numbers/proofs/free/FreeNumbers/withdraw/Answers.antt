use Rattle.xl_numbers.proofs.Common.{◌∙◌, sym}
use Rattle.xl_numbers.proofs.FlagLemmas.{set-kept}
use Rattle.xl_numbers.proofs.free.FreeNumbers.withdraw.Goals as goal

pub returns-else-has : goal.returns-else-has
returns-else-has c = sym (set-kept c.args.self.now c.args.number (sym c.has.ensures ∙ c.if-has.false))
