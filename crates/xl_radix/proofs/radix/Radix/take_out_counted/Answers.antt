use Rattle.xl_radix.proofs.Common.{◌∙◌, refl, sym}
use Rattle.xl_radix.proofs.TakingLemmas.{removed-is, shape-removed}
use Rattle.xl_radix.proofs.radix.Radix.take_out_counted.Goals as goal

pub returns-clause-made : goal.returns-clause-made
returns-clause-made g c =
    let i = c.self.inside in
    let p = c.take_leaf-given.new.self in
    let taken = c.take_leaf-given.ensures in
    let e = taken.leaves ∙ sym (removed-is c.args.space c.args.first c.args.order i.store.leaves (rw (← c.self.view_is) at c.requires)) in
    let shape = shape-removed g.row.LEVELS i.store.spaces c.args.space c.args.first c.args.order i.store.leaves p.leaves i.store.nodes p.nodes e taken.nodes in
    rw (← c.self.view_is) (record { leaves = e; shape = rw taken.spaces shape; less = taken.less; count = taken.free; spaces = taken.spaces; loads = refl })
