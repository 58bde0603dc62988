use Rattle.xl_rack.proofs.Common.{is_ok}
use Rattle.xl_rack.proofs.RowsLemmas.{item-served}
use Rattle.xl_rack.proofs.rows.RackRows.answer.Goals as goal

pub returns : goal.returns
returns g c =
    item-served g.K.Sink.sink c.args.item c.args.areas.now c.args.self.now c.answer.new.self c.args.out.now c.answer.new.out (is_ok c.answer.result)
    c.requires c.answer.ensures.rows c.answer.ensures.lines
