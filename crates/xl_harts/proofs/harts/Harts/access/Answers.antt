use Rattle.xl_harts.proofs.Common.{◌∙◌}
use Rattle.xl_harts.proofs.AccessLemmas.{access-event}
use Rattle.xl_harts.proofs.harts.Harts.access.Goals as goal

pub returns-clause-after : goal.returns-clause-after
returns-clause-after c = c.access_each.ensures.after ∙ access-event c.args.self.now c.args.va c.args.kind
