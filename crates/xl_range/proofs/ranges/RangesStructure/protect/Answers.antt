use Rattle.xl_range.proofs.Common.{ap, Err, Ok, Protect, row_table}
use Rattle.xl_range.proofs.RowLemmas.{change-refused, protect-made, seen-change, seen-named}
use Rattle.xl_range.proofs.ranges.RangesStructure.protect.Goals as goal

pub returns-then-not-set_perm : goal.returns-then-not-set_perm
returns-then-not-set_perm c =
    record { changes = seen-change (Protect c.args.space c.args.first c.args.order c.args.perm) c.self.inside.ranges c.self.inside.treap.seen c.set_perm.new.treap.seen c.self.inside.tlb c.self.inside.tlb (Err c.no_room.result) (row_table c.args.self.now) (ap row_table c.self.view_is) (change-refused (Protect c.args.space c.args.first c.args.order c.args.perm) c.self.inside.ranges c.self.inside.treap.seen c.set_perm.new.treap.seen c.self.inside.tlb c.set_perm.result c.no_room.result c.self.invariant c.set_perm.ensures c.if-not-set_perm.true c.no_room.ensures) }

pub invariant_of-self-2 : goal.invariant_of-self-2
invariant_of-self-2 c =
    (protect-made c.args.space c.args.first c.args.order c.args.perm c.self.inside.ranges c.self.inside.treap.seen c.set_perm.new.treap.seen c.self.inside.tlb c.purge.new.tlb c.set_perm.result c.purge.result c.self.invariant (seen-named c.args.space c.args.first c.args.order c.self.inside.ranges c.self.inside.treap.seen c.self.inside.tlb (row_table c.args.self.now) (ap row_table c.self.view_is) c.requires) c.set_perm.ensures c.if-not-set_perm.false c.purge.ensures.after c.purge.ensures.work).row

pub returns : goal.returns
returns c =
    record { changes = seen-change (Protect c.args.space c.args.first c.args.order c.args.perm) c.self.inside.ranges c.self.inside.treap.seen c.set_perm.new.treap.seen c.self.inside.tlb c.purge.new.tlb (Ok c.purge.result) (row_table c.args.self.now) (ap row_table c.self.view_is) (protect-made c.args.space c.args.first c.args.order c.args.perm c.self.inside.ranges c.self.inside.treap.seen c.set_perm.new.treap.seen c.self.inside.tlb c.purge.new.tlb c.set_perm.result c.purge.result c.self.invariant (seen-named c.args.space c.args.first c.args.order c.self.inside.ranges c.self.inside.treap.seen c.self.inside.tlb (row_table c.args.self.now) (ap row_table c.self.view_is) c.requires) c.set_perm.ensures c.if-not-set_perm.false c.purge.ensures.after c.purge.ensures.work) }
