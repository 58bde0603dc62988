use Rattle.xl_array.proofs.Common.{◌∙◌, small_leaf, sym}
use Rattle.xl_array.proofs.SmallLemmas.{hit-small}
use Rattle.xl_array.proofs.TouchLemmas.{array_found}
use Rattle.xl_array.proofs.array.Array.look.Goals as goal

pub returns-in-Some-clause-found : goal.returns-in-Some-clause-found
returns-in-Some-clause-found g c = array_found c.args.self.now c.args.space c.args.page (small_leaf c.args.space c.args.page c.in-Some.word) c.in-Some.ensures.found

pub returns-in-None-2-clause-found : goal.returns-in-None-2-clause-found
returns-in-None-2-clause-found g c =
    c.in-None.ensures.found ∙ sym (hit-small c.args.self.now c.args.space c.args.page (c.requires.smalls c.if-large.false))
