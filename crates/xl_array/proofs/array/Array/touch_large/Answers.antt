use Rattle.xl_array.proofs.Common.{leaf_hit}
use Rattle.xl_array.proofs.TouchLemmas.{large_found}
use Rattle.xl_array.proofs.array.Array.touch_large.Goals as goal

pub returns-clause-some : goal.returns-clause-some
returns-clause-some g c =
    let leaf = leaf_hit c.args.space c.args.page c.in-Some.hit in
    record {
      leaf = leaf;
      found = large_found c.args.self.now c.args.space c.args.page leaf c.requires.lacks c.in-Some.ensures.found;
      says = c.page_word.ensures c.args.space;
      moved = c.in-Some.ensures.some;
    }
