use Rattle.xl_recency.proofs.Common.{has_tag}
use Rattle.xl_recency.proofs.MarkLemmas.{none_purges}
use Rattle.xl_recency.proofs.marked.Marked.remove_tag.Goals as goal

pub returns-in-None-clause-kept : goal.returns-in-None-clause-kept
returns-in-None-clause-kept g c = none_purges (has_tag c.args.tag) c.args.self.now c.in-None.ensures
