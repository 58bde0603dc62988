use Rattle.xl_array.proofs.Common.{◌∙◌, small_leaf, sym}
use Rattle.xl_array.proofs.PageLemmas.{small_says}
use Rattle.xl_array.proofs.SmallLemmas.{hit-small}
use Rattle.xl_array.proofs.TouchLemmas.{array_found}
use Rattle.xl_array.proofs.array.Array.look_page.Goals as goal

pub returns-in-Some-clause-some : goal.returns-in-Some-clause-some
returns-in-Some-clause-some g c = record {
  leaf = small_leaf c.args.space c.args.page c.in-Some.word;
  found = array_found c.args.self.now c.args.space c.args.page (small_leaf c.args.space c.args.page c.in-Some.word) c.in-Some.ensures.found;
  says = small_says c.args.space c.args.page c.in-Some.word;
  moved = c.in-Some.ensures.some;
}

pub returns-in-None-2-clause-missed : goal.returns-in-None-2-clause-missed
returns-in-None-2-clause-missed g c =
    c.in-None.ensures.found ∙ sym (hit-small c.args.self.now c.args.space c.args.page (c.requires.smalls c.if-large.false))
