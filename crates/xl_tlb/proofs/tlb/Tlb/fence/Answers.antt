use Rattle.xl_tlb.proofs.ShapeLemmas.{shape_forgot}
use Rattle.xl_tlb.proofs.StepLemmas.{fenced_specs}
use Rattle.xl_tlb.proofs.tlb.Tlb.fence.Goals as goal

pub invariant_of-self : goal.invariant_of-self
invariant_of-self c =
    let t = c.self.inside in
    shape_forgot t.shape t.known.pages _ t.known.levels.arrays c.fence.new.self.arrays c.forget.ensures (fenced_specs c.args.reach t.known.levels c.fence.new.self c.fence.ensures.after) c.self.invariant
