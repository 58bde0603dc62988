use Rattle.xl_harts.proofs.Common.{refl, small_leaf}
use Rattle.xl_harts.proofs.LargeLemmas.{small_filled}
use Rattle.xl_harts.proofs.hart.Hart.fill_small.Goals as goal

pub invariant_of-self : goal.invariant_of-self
invariant_of-self c = λ none.
    small_filled (small_leaf c.self.inside.space c.args.page c.args.word) c.self.inside.array c.fill_hit.new.self c.fill_hit.ensures.array refl (c.self.invariant none)
