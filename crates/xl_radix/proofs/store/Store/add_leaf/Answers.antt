use Rattle.xl_radix.proofs.Common.{arith, lit<, sym, with_leaf_nodes}
use Rattle.xl_radix.proofs.PlacedLeafLemmas.{nearly-start}
use Rattle.xl_radix.proofs.StepLemmas.{end-ready}
use Rattle.xl_radix.proofs.store.Store.add_leaf.Goals as goal

pub make_path-node-requires : goal.make_path-node-requires
make_path-node-requires g c =
    let e = c.level.ensures in
    let end = c.requires.end in (
      lit< tt,
      (
        end-ready g.row.LEVELS _ c.args.from.level c.args.from.node c.args.leaf _ _ c.requires.exact c.requires.new end,
        (
          let h = end.least_in in omega arith,
          (
            end.level_in,
            (
              let h = c.requires.free in omega arith,
              nearly-start g.row.LEVELS c.args.leaf.space c.args.leaf.first c.level.result _ _ c.requires.exact,
            ),
          ),
        ),
      ),
    )

pub returns-clause-nodes : goal.returns-clause-nodes
unfolding with_leaf_nodes
returns-clause-nodes g c =
    let e = c.level.ensures in
    rw (c.write_leaf.ensures.nodes, c.make_path-node.ensures.nodes, e) (sym c.requires.end.path)
