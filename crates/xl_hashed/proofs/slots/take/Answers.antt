use Rattle.xl_hashed.proofs.Common.{arith, One, removed-taken}
use Rattle.xl_hashed.proofs.slots.take.Goals as goal

pub returns : goal.returns
returns c =
    removed-taken One c.args.tag 0 c.args.chains.now c.remove.new.self c.remove.ensures.held c.remove.ensures.shape c.remove.ensures.loads
    (λ i low other. absurd (other (omega arith))) c.requires.sized c.requires.within
