use Rattle.xl_harts.proofs.Common.{◌∙◌, sym}
use Rattle.xl_harts.proofs.LargeLemmas.{small_filled}
use Rattle.xl_harts.proofs.hart.fill_found.Goals as goal

pub returns-in-Some-clause-smalls : goal.returns-in-Some-clause-smalls
returns-in-Some-clause-smalls c = λ smalls none.
    small_filled c.in-Some.leaf c.args.array.now c.fill.new.self c.fill.ensures.array (c.with_order.ensures.new none) (smalls (sym (c.with_order.ensures.same (c.with_order.ensures.new none)) ∙ none))
