use Rattle.xl_nested.proofs.Common.{NestState}
use Rattle.xl_nested.proofs.CommandLemmas.{vunmap-settled}
use Rattle.xl_nested.proofs.nested.Nested.vunmap_or_refuse.Goals as goal

pub returns : goal.returns
returns c =
    let s : NestState = record { guest = c.self.inside.guest; host = c.self.inside.host; counts = c.self.inside.counts } in
    rw (c.put_in_order.ensures.outcome, c.put_in_order.ensures.counts, ← c.self.view_is) (vunmap-settled s c.args.va c.args.order c.vunmap-served.result c.vunmap-served.new.guest c.vunmap-served.ensures)
