use Rattle.xl_harting.proofs.Common.{◌∙◌, Reply, subst, sym}
use Rattle.xl_model.specs.Tally.{IsSmall}
use Rattle.xl_harting.proofs.EventLemmas.{access_outcome, replied}
use Rattle.xl_harting.proofs.events.reply.Goals as goal

pub unreachable-requires : goal.unreachable-requires
unreachable-requires c = c.in_default.not-Replied _ (c.step.ensures.outcome ∙ access_outcome c.args.va c.args.kind c.args.harts.now)

pub returns-clause-reply : goal.returns-clause-reply
returns-clause-reply c = replied _ _ (sym c.in-Replied.is ∙ c.step.ensures.outcome ∙ access_outcome c.args.va c.args.kind c.args.harts.now)

pub returns-clause-small : goal.returns-clause-small
returns-clause-small c =
    subst (λ (r : Reply). IsSmall r) (sym (replied _ _ (sym c.in-Replied.is ∙ c.step.ensures.outcome ∙ access_outcome c.args.va c.args.kind c.args.harts.now)))
    (c.step.ensures.small c.args.harts.now.current c.args.va c.args.kind)
