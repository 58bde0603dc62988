use Rattle.xl_array.proofs.Common.{array_in}
use Rattle.xl_array.proofs.SmallLemmas.{hit-small}
use Rattle.xl_array.proofs.any.AnyArray.has_large.Goals as goal

pub returns : goal.returns
returns c = λ none space page. rw (← c.self.view_is) (hit-small (array_in c.self.inside.array) space page (c.self.invariant.smalls none))
