use Rattle.xl_numbers.proofs.Common.{◌∙◌, ap, bit_of, Bool, length, List, sym}
use Rattle.xl_numbers.proofs.FlagLemmas.{length-flags}
use Rattle.xl_numbers.proofs.free.FreeNumbers.count.Goals as goal

pub returns : goal.returns
returns c = sym (length-flags (bit_of c.self.inside.low.items) c.self.inside.count) ∙ ap (λ (bs : List Bool). length bs) c.self.view_is
