use Rattle.xl_range.proofs.Common.{ap, Err, Ok, Relocate, row_table}
use Rattle.xl_range.proofs.RowLemmas.{change-refused, relocate-made, seen-block, seen-change, seen-free, seen-named}
use Rattle.xl_range.proofs.ranges.RangesStructure.relocate.Goals as goal

pub returns-then-not-move_to : goal.returns-then-not-move_to
returns-then-not-move_to c =
    record { changes = seen-change (Relocate c.args.space c.args.first c.args.to c.args.order) c.self.inside.ranges c.self.inside.treap.seen c.move_to.new.treap.seen c.self.inside.tlb c.self.inside.tlb (Err c.no_room.result) (row_table c.args.self.now) (ap row_table c.self.view_is) (change-refused (Relocate c.args.space c.args.first c.args.to c.args.order) c.self.inside.ranges c.self.inside.treap.seen c.move_to.new.treap.seen c.self.inside.tlb c.move_to.result c.no_room.result c.self.invariant c.move_to.ensures c.if-not-move_to.true c.no_room.ensures) }

pub invariant_of-self-2 : goal.invariant_of-self-2
invariant_of-self-2 c =
    (relocate-made c.args.space c.args.first c.args.to c.args.order c.self.inside.ranges c.self.inside.treap.seen c.move_to.new.treap.seen c.self.inside.tlb c.purge.new.tlb c.move_to.result c.purge.result c.self.invariant (seen-named c.args.space c.args.first c.args.order c.self.inside.ranges c.self.inside.treap.seen c.self.inside.tlb (row_table c.args.self.now) (ap row_table c.self.view_is) c.requires.there) (seen-block c.args.space c.args.to c.args.order c.self.inside.ranges c.self.inside.treap.seen c.self.inside.tlb (row_table c.args.self.now) (ap row_table c.self.view_is) c.requires.valid) (seen-free c.args.space c.args.to c.args.order c.self.inside.ranges c.self.inside.treap.seen c.self.inside.tlb (row_table c.args.self.now) (ap row_table c.self.view_is) c.requires.free) c.move_to.ensures c.if-not-move_to.false c.purge.ensures.after c.purge.ensures.work).row

pub returns : goal.returns
returns c =
    record { changes = seen-change (Relocate c.args.space c.args.first c.args.to c.args.order) c.self.inside.ranges c.self.inside.treap.seen c.move_to.new.treap.seen c.self.inside.tlb c.purge.new.tlb (Ok c.purge.result) (row_table c.args.self.now) (ap row_table c.self.view_is) (relocate-made c.args.space c.args.first c.args.to c.args.order c.self.inside.ranges c.self.inside.treap.seen c.move_to.new.treap.seen c.self.inside.tlb c.purge.new.tlb c.move_to.result c.purge.result c.self.invariant (seen-named c.args.space c.args.first c.args.order c.self.inside.ranges c.self.inside.treap.seen c.self.inside.tlb (row_table c.args.self.now) (ap row_table c.self.view_is) c.requires.there) (seen-block c.args.space c.args.to c.args.order c.self.inside.ranges c.self.inside.treap.seen c.self.inside.tlb (row_table c.args.self.now) (ap row_table c.self.view_is) c.requires.valid) (seen-free c.args.space c.args.to c.args.order c.self.inside.ranges c.self.inside.treap.seen c.self.inside.tlb (row_table c.args.self.now) (ap row_table c.self.view_is) c.requires.free) c.move_to.ensures c.if-not-move_to.false c.purge.ensures.after c.purge.ensures.work) }
