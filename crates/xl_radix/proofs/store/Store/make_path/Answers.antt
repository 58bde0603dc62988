use Rattle.xl_radix.proofs.Common.{◌-◌, ◌∙◌, ap, arith, sym, with_path}
use Rattle.xl_radix.proofs.PathLemmas.{path-step}
use Rattle.xl_radix.proofs.store.Store.make_path.Goals as goal

pub down-preserved : goal.down-preserved
down-preserved g c =
    let inv = c.down.invariant in
    let made = c.make_node-node.ensures in
    let count = inv.count in
    let free = made.free in
    record {
      low = omega arith;
      high = omega arith;
      free = let r = inv.free in omega arith;
      leaves = made.leaves ∙ inv.leaves;
      nodes = ap (with_path c.args.space c.args.page c.args.least (c.down.at.level - 1 - c.args.least)) made.nodes ∙ sym (path-step c.args.space c.args.page c.args.least c.down.at.level _ c.down-test.true inv.ready.absent) ∙ inv.nodes;
      spaces = made.spaces ∙ inv.spaces;
      ready = made.ready;
      nearly = made.nearly c.args.least c.down-test.true inv.nearly;
      count = omega arith;
      fall = omega arith;
    }
