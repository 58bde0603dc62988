use Rattle.xl_recency.proofs.Common.{arith}
use Rattle.xl_recency.proofs.TotalLemmas.{few_counted, few_purged, many_counted, many_purged}
use Rattle.xl_recency.proofs.sets.Sets.remove.Goals as goal

pub returns-then-this-le32-clause-kept : goal.returns-then-this-le32-clause-kept
returns-then-this-le32-clause-kept g c = λ q test.
    rw (← c.self.view_is) (few_purged g.row.W c.args.set c.remove.result c.self.inside.few.items c.self.inside.many.items c.index_mut-list.result.now c.remove.new.self
    (rw (← c.self.view_is) at c.requires.set) q c.if-this-le32.true c.index_mut-list.ensures.value (c.remove.ensures.kept q test))

pub returns-then-this-le32-clause-count : goal.returns-then-this-le32-clause-count
returns-then-this-le32-clause-count g c =
    rw (← c.self.view_is) (few_counted g.row.W c.args.set c.remove.result c.self.inside.few.items c.self.inside.many.items c.index_mut-list.result.now c.remove.new.self
    (rw (← c.self.view_is) at c.requires.set) c.if-this-le32.true c.index_mut-list.ensures.value c.remove.ensures.count)

pub returns-clause-kept : goal.returns-clause-kept
returns-clause-kept g c = λ q test.
    rw (← c.self.view_is) (many_purged g.row.W c.args.set c.remove-2.result c.self.inside.few.items c.self.inside.many.items c.index_mut-list-2.result.now c.remove-2.new.self
    (rw (← c.self.view_is) at c.requires.set) q (omega (arith, c.if-this-le32.false)) c.index_mut-list-2.ensures.value (c.remove-2.ensures.kept q test))

pub returns-clause-count : goal.returns-clause-count
returns-clause-count g c =
    rw (← c.self.view_is) (many_counted g.row.W c.args.set c.remove-2.result c.self.inside.few.items c.self.inside.many.items c.index_mut-list-2.result.now c.remove-2.new.self
    (rw (← c.self.view_is) at c.requires.set) (omega (arith, c.if-this-le32.false)) c.index_mut-list-2.ensures.value c.remove-2.ensures.count)
