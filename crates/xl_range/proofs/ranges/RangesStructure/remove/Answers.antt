use Rattle.xl_range.proofs.Common.{ap, Err, Ok, Remove, row_table}
use Rattle.xl_range.proofs.RowLemmas.{change-refused, remove-made, seen-change, seen-named}
use Rattle.xl_range.proofs.ranges.RangesStructure.remove.Goals as goal

pub returns-then-not-take_out : goal.returns-then-not-take_out
returns-then-not-take_out c =
    record { changes = seen-change (Remove c.args.space c.args.first c.args.order) c.self.inside.ranges c.self.inside.treap.seen c.take_out.new.treap.seen c.self.inside.tlb c.self.inside.tlb (Err c.no_room.result) (row_table c.args.self.now) (ap row_table c.self.view_is) (change-refused (Remove c.args.space c.args.first c.args.order) c.self.inside.ranges c.self.inside.treap.seen c.take_out.new.treap.seen c.self.inside.tlb c.take_out.result c.no_room.result c.self.invariant c.take_out.ensures c.if-not-take_out.true c.no_room.ensures) }

pub invariant_of-self-2 : goal.invariant_of-self-2
invariant_of-self-2 c =
    (remove-made c.args.space c.args.first c.args.order c.self.inside.ranges c.self.inside.treap.seen c.take_out.new.treap.seen c.self.inside.tlb c.purge.new.tlb c.take_out.result c.purge.result c.self.invariant (seen-named c.args.space c.args.first c.args.order c.self.inside.ranges c.self.inside.treap.seen c.self.inside.tlb (row_table c.args.self.now) (ap row_table c.self.view_is) c.requires) c.take_out.ensures c.if-not-take_out.false c.purge.ensures.after c.purge.ensures.work).row

pub returns : goal.returns
returns c =
    record { changes = seen-change (Remove c.args.space c.args.first c.args.order) c.self.inside.ranges c.self.inside.treap.seen c.take_out.new.treap.seen c.self.inside.tlb c.purge.new.tlb (Ok c.purge.result) (row_table c.args.self.now) (ap row_table c.self.view_is) (remove-made c.args.space c.args.first c.args.order c.self.inside.ranges c.self.inside.treap.seen c.take_out.new.treap.seen c.self.inside.tlb c.purge.new.tlb c.take_out.result c.purge.result c.self.invariant (seen-named c.args.space c.args.first c.args.order c.self.inside.ranges c.self.inside.treap.seen c.self.inside.tlb (row_table c.args.self.now) (ap row_table c.self.view_is) c.requires) c.take_out.ensures c.if-not-take_out.false c.purge.ensures.after c.purge.ensures.work) }
