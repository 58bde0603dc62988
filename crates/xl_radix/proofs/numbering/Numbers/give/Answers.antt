use Rattle.xl_radix.proofs.Common.{◌∙◌, None, refl, true}
use Rattle.xl_radix.proofs.FreeLemmas.{put-free}
use Rattle.xl_radix.proofs.numbering.Numbers.give.Goals as goal

pub invariant_of-self : goal.invariant_of-self
invariant_of-self c = c.give.ensures ∙ put-free c.self.inside.nodes.items c.self.inside.free c.args.number None true c.self.invariant refl
