use Rattle.xl_range.proofs.Common.{ap, Err, Insert, Ok, row_table}
use Rattle.xl_range.proofs.RowLemmas.{change-refused, insert-made, seen-change, seen-free, seen-leaf}
use Rattle.xl_range.proofs.ranges.RangesStructure.insert.Goals as goal

pub returns-then-not-add : goal.returns-then-not-add
returns-then-not-add c =
    record { changes = seen-change (Insert c.args.leaf) c.self.inside.ranges c.self.inside.treap.seen c.add.new.treap.seen c.self.inside.tlb c.self.inside.tlb (Err c.no_room.result) (row_table c.args.self.now) (ap row_table c.self.view_is) (change-refused (Insert c.args.leaf) c.self.inside.ranges c.self.inside.treap.seen c.add.new.treap.seen c.self.inside.tlb c.add.result c.no_room.result c.self.invariant c.add.ensures c.if-not-add.true c.no_room.ensures) }

pub invariant_of-self-2 : goal.invariant_of-self-2
invariant_of-self-2 c =
    (insert-made c.args.leaf c.self.inside.ranges c.self.inside.treap.seen c.add.new.treap.seen c.self.inside.tlb c.add.result c.none.result c.self.invariant (seen-leaf c.args.leaf c.self.inside.ranges c.self.inside.treap.seen c.self.inside.tlb (row_table c.args.self.now) (ap row_table c.self.view_is) c.requires.valid) (seen-free c.args.leaf.space c.args.leaf.first c.args.leaf.order c.self.inside.ranges c.self.inside.treap.seen c.self.inside.tlb (row_table c.args.self.now) (ap row_table c.self.view_is) c.requires.free) c.add.ensures c.if-not-add.false c.none.ensures).row

pub returns : goal.returns
returns c =
    record { changes = seen-change (Insert c.args.leaf) c.self.inside.ranges c.self.inside.treap.seen c.add.new.treap.seen c.self.inside.tlb c.self.inside.tlb (Ok c.none.result) (row_table c.args.self.now) (ap row_table c.self.view_is) (insert-made c.args.leaf c.self.inside.ranges c.self.inside.treap.seen c.add.new.treap.seen c.self.inside.tlb c.add.result c.none.result c.self.invariant (seen-leaf c.args.leaf c.self.inside.ranges c.self.inside.treap.seen c.self.inside.tlb (row_table c.args.self.now) (ap row_table c.self.view_is) c.requires.valid) (seen-free c.args.leaf.space c.args.leaf.first c.args.leaf.order c.self.inside.ranges c.self.inside.treap.seen c.self.inside.tlb (row_table c.args.self.now) (ap row_table c.self.view_is) c.requires.free) c.add.ensures c.if-not-add.false c.none.ensures) }
