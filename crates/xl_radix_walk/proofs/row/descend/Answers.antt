use Rattle.xl_radix_walk.proofs.Common.{◌+◌, ◌-◌, ◌∙◌, ◌≡◌, ap, arith, end_level, end_of, number-some, rules, suc}
use Rattle.xl_radix_walk.proofs.DescentLemmas.{end-at-level, loads-are, walk-path}
use Rattle.xl_radix_walk.proofs.row.descend.Goals as goal

pub walk-requires-clause-node : goal.walk-requires-clause-node
walk-requires-clause-node g c =
    let h = (number-some c.args.space (suc c.args.from.level) _ c.args.from.node _ c.requires.node).0 in
    let s = c.words_read_back.ensures.kept.small in
    omega arith

pub returns : goal.returns
returns g c =
    let back = c.words_read_back.ensures in
    let e : end_of c.walk.result ≡ end_level (g.row.LEVELS - 1) 0 c.args.space c.args.page c.args.radix.now.leaves = ap end_of (c.walk.ensures.end ∙ back.back c.args.space c.args.page c.args.from.level c.args.from.node c.requires.node) ∙ end-at-level g.row.LEVELS c.args.space c.args.page _ _ _ _ back in
    let h = c.walk.ensures.level in
    let n = c.args.from.level - end_level (g.row.LEVELS - 1) 0 c.args.space c.args.page c.args.radix.now.leaves in
    let a : c.args.from.level + 1 - end_of c.walk.result ≡ suc n = omega arith in
    let b : n + 1 ≡ suc n = omega arith in
    record {
      end = search rules;
      low = omega arith;
      path = rw c.walk.ensures.path (walk-path _ g.row.LEVELS _ c.args.space c.args.page c.args.from.level c.args.from.node _ _ c.words_read_back.ensures c.requires.node);
      length = search rules;
      loads = c.walk.ensures.bus ∙ rw (a, b) (loads-are n c.args.radix.now);
    }
