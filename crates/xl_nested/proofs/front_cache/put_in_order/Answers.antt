use Rattle.xl_nested.proofs.Common.{◌∙◌, ap, Bool, in_order, sym}
use Rattle.xl_nested.proofs.front_cache.put_in_order.Goals as goal

pub returns-then-fronts-clause-items : goal.returns-then-fronts-clause-items
returns-then-fronts-clause-items c = c.swap.ensures.items ∙ ap (λ (s : Bool). in_order s c.args.cache.now.items) (sym c.if-fronts.true)

pub returns-else-fronts-clause-items : goal.returns-else-fronts-clause-items
returns-else-fronts-clause-items c = ap (λ (s : Bool). in_order s c.args.cache.now.items) (sym c.if-fronts.false)
