use Rattle.xl_radix.proofs.Common.{◌∙◌, false, refl, Some}
use Rattle.xl_radix.proofs.FreeLemmas.{lowest-position, none-position, put-free}
use Rattle.xl_radix.proofs.SlotLemmas.{put-lowest}
use Rattle.xl_radix.proofs.numbering.Numbers.take.Goals as goal

pub invariant_of-self : goal.invariant_of-self
invariant_of-self c = c.in-Some.ensures.taken ∙ put-free c.self.inside.nodes.items c.self.inside.free c.in-Some.number (Some c.args.node) false c.self.invariant refl

pub returns-in-Some-clause-lowest : goal.returns-in-Some-clause-lowest
returns-in-Some-clause-lowest c = rw (← c.self.view_is) (lowest-position c.self.inside.nodes.items c.self.inside.free c.in-Some.number c.self.invariant c.in-Some.ensures.lowest)

pub returns-in-Some-clause-taken : goal.returns-in-Some-clause-taken
returns-in-Some-clause-taken c = rw (← c.self.view_is) (put-lowest c.self.inside.nodes.items c.in-Some.number c.args.node (lowest-position c.self.inside.nodes.items c.self.inside.free c.in-Some.number c.self.invariant c.in-Some.ensures.lowest))

pub returns-in-None-clause-none : goal.returns-in-None-clause-none
returns-in-None-clause-none c = rw (← c.self.view_is) (none-position c.self.inside.nodes.items c.self.inside.free c.self.invariant c.in-None.ensures.none)
