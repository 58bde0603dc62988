use Rattle.xl_numbers.proofs.FlagLemmas.{none-free}
use Rattle.xl_numbers.proofs.free.FreeNumbers.none.Goals as goal

pub returns : goal.returns
returns c = none-free c.in_ok-low.low.items _ c.args.count (c.in_ok-low.ensures.items_if_clones_equal (λ y h. h))
