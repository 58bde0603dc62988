use Rattle.xl_outside.proofs.Common.{is_ok}
use Rattle.xl_outside.proofs.SinkLemmas.{sent_cut, sent_flushed}
use Rattle.xl_outside.proofs.sink.send_all.Goals as goal

pub returns-in-Ok : goal.returns-in-Ok
returns-in-Ok g c =
    sent_flushed g.K.Sink.sink c.args.bytes.now c.args.out.now c.put_all.new.out c.flush.new.self (is_ok c.flush.result)
    c.requires c.in-Ok.ensures c.flush.ensures (g.met.K.Sink.fronts c.flush.new.self)

pub returns-in-Err : goal.returns-in-Err
returns-in-Err g c =
    sent_cut g.K.Sink.sink c.args.bytes.now c.args.out.now c.put_all.new.out
    c.requires c.in-Err.ensures (g.met.K.Sink.fronts c.put_all.new.out)
