use Rattle.xl_nested.proofs.Common.{◌∙◌, NestState}
use Rattle.xl_nested.proofs.LawLemmas.{reply-laws}
use Rattle.xl_nested.proofs.WalkLemmas.{accessed-is}
use Rattle.xl_nested.proofs.nested.Nested.access.Goals as goal

pub returns-clause-after : goal.returns-clause-after
returns-clause-after c =
    let s : NestState = record { guest = c.self.inside.guest; host = c.self.inside.host; counts = c.self.inside.counts } in
    accessed-is c.args.va c.args.kind c.args.self.now s c.reply.new.self c.walk-reply.result (c.self.view_is ∙ c.walk-reply.ensures.after) c.walk-reply.ensures.reply c.reply.ensures

pub returns-clause-laws : goal.returns-clause-laws
returns-clause-laws c =
    let s : NestState = record { guest = c.self.inside.guest; host = c.self.inside.host; counts = c.self.inside.counts } in
    reply-laws c.args.va c.args.kind c.walk-reply.result c.args.self.now _ c.walk-reply.ensures.reply
    (accessed-is c.args.va c.args.kind c.args.self.now s c.reply.new.self c.walk-reply.result (c.self.view_is ∙ c.walk-reply.ensures.after) c.walk-reply.ensures.reply c.reply.ensures)
