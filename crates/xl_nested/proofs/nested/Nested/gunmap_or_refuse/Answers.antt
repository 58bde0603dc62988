use Rattle.xl_nested.proofs.Common.{NestState}
use Rattle.xl_nested.proofs.CommandLemmas.{gunmap-settled}
use Rattle.xl_nested.proofs.nested.Nested.gunmap_or_refuse.Goals as goal

pub returns : goal.returns
returns c =
    let s : NestState = record { guest = c.self.inside.guest; host = c.self.inside.host; counts = c.self.inside.counts } in
    rw (c.put_in_order.ensures.outcome, c.put_in_order.ensures.counts, ← c.self.view_is) (gunmap-settled s c.args.gaddr c.args.order c.gunmap-served.result c.gunmap-served.new.host c.gunmap-served.ensures)
