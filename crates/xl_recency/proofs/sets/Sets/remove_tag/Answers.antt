use Rattle.xl_recency.proofs.Common.{arith, has_tag}
use Rattle.xl_recency.proofs.TotalLemmas.{many_purged}
use Rattle.xl_recency.proofs.sets.Sets.remove_tag.Goals as goal

pub returns-clause-gone : goal.returns-clause-gone
returns-clause-gone g c =
    rw (← c.self.view_is) (many_purged g.row.W c.args.set c.remove_tag.result c.self.inside.few.items c.self.inside.many.items c.index_mut-list.result.now c.remove_tag.new.self
    (rw (← c.self.view_is) at c.requires.set) (has_tag c.args.tag) (omega (arith, c.if-this-le32.false)) c.index_mut-list.ensures.value c.remove_tag.ensures.kept)
