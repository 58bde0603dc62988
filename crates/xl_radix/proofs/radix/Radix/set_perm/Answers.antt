use Rattle.xl_radix.proofs.Common.{refl}
use Rattle.xl_radix.proofs.PermLemmas.{shape-protected}
use Rattle.xl_radix.proofs.ShapeLemmas.{count-same, less-same}
use Rattle.xl_radix.proofs.radix.Radix.set_perm.Goals as goal

pub returns-clause-made : goal.returns-clause-made
returns-clause-made g c =
    let i = c.self.inside in
    let p = c.set_perm.new.self in
    let set = c.set_perm.ensures in
    let shape = shape-protected g.row.LEVELS i.store.spaces c.args.space c.args.first c.args.order c.args.perm i.store.leaves p.leaves i.store.nodes p.nodes set.leaves set.nodes set.exact in
    rw (← c.self.view_is) (record {
      leaves = set.leaves;
      shape = rw set.spaces shape;
      less = less-same i.store.nodes p.nodes set.nodes;
      count = count-same i.store.nodes p.nodes set.nodes;
      spaces = set.spaces;
      loads = refl;
    })
