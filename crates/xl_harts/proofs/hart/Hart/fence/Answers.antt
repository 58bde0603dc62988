use Rattle.xl_harts.proofs.LargeLemmas.{small_fenced}
use Rattle.xl_harts.proofs.hart.Hart.fence.Goals as goal

pub invariant_of-self : goal.invariant_of-self
invariant_of-self c = λ none. small_fenced c.args.request.before c.self.inside.array c.drop_before-left.new.array c.drop_before-left.ensures.array (c.self.invariant none)
