use Rattle.xl_array.proofs.Common.{◌∙◌, arith, leaf_hit, sym}
use Rattle.xl_array.proofs.FillLemmas.{not_filled}
use Rattle.xl_array.proofs.array.Array.fill_hit.Goals as goal

pub returns-then-not-takes : goal.returns-then-not-takes
returns-then-not-takes g c = record {
  taken = sym (sym c.takes.ensures ∙ c.if-not-takes.true);
  array = not_filled c.args.self.now (leaf_hit c.args.space c.args.page c.args.hit) (sym c.takes.ensures ∙ c.if-not-takes.true);
  grown = omega arith;
}
