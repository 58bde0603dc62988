use Rattle.xl_nested.proofs.Common.{NestState}
use Rattle.xl_nested.proofs.CommandLemmas.{vmap-settled}
use Rattle.xl_nested.proofs.nested.Nested.vmap_or_refuse.Goals as goal

pub returns : goal.returns
returns c =
    let s : NestState = record { guest = c.self.inside.guest; host = c.self.inside.host; counts = c.self.inside.counts } in
    rw (c.put_in_order.ensures.outcome, c.put_in_order.ensures.counts, ← c.self.view_is) (vmap-settled s c.args.va c.args.order c.args.gaddr c.args.perm c.vmap-served.result c.vmap-served.new.guest c.vmap-served.ensures)
