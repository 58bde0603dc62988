use Rattle.xl_nested.proofs.Common.{NestState}
use Rattle.xl_nested.proofs.CommandLemmas.{gmap-settled}
use Rattle.xl_nested.proofs.nested.Nested.gmap_or_refuse.Goals as goal

pub returns : goal.returns
returns c =
    let s : NestState = record { guest = c.self.inside.guest; host = c.self.inside.host; counts = c.self.inside.counts } in
    rw (c.put_in_order.ensures.outcome, c.put_in_order.ensures.counts, ← c.self.view_is) (gmap-settled s c.args.gaddr c.args.order c.args.perm c.gmap-served.result c.gmap-served.new.host c.gmap-served.ensures)
