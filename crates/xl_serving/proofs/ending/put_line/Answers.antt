use Rattle.xl_serving.proofs.Common.{codes, is_ok, List, sink_then, SinkAfter, subst, true, ℕ}
use Rattle.xl_serving.proofs.ending.put_line.Goals as goal

pub returns-in-Ok : goal.returns-in-Ok
returns-in-Ok g c =
    let sink = g.K.Sink.sink in
    let first = subst (λ (text : List ℕ). SinkAfter sink text c.args.out.now c.put_all.new.out true) c.as_bytes.ensures.value c.in-Ok.ensures in
    sink_then sink c.args.text.now (codes "\n") c.args.out.now c.put_all.new.out c.put_all-in-Ok.new.out (is_ok c.put_all-in-Ok.result) first c.put_all-in-Ok.ensures
