use Rattle.xl_radix.proofs.Common.{◌∙◌}
use Rattle.std.proofs.lemmas.Result.{err_from_is_err_and}
use Rattle.xl_radix.proofs.ShiftLemmas.{room-moved, shifted}
use Rattle.xl_radix.proofs.radix.Radix.shift_counted.Goals as goal

pub returns-in_err-add-clause-answer : goal.returns-in_err-add-clause-answer
returns-in_err-add-clause-answer g c =
    let p = err_from_is_err_and c.from_residual.result c.from_residual.ensures.1 in
    rw p.1
    (c.in_err-add.ensures.answer
    ∙ room-moved g.row.LEVELS c.args.space c.args.first c.args.to c.args.order c.moved-moved.result c.args.self.now c.moved-moved.ensures)

pub returns-clause-answer : goal.returns-clause-answer
returns-clause-answer g c =
    c.in_ok-add.ensures.answer
    ∙ room-moved g.row.LEVELS c.args.space c.args.first c.args.to c.args.order c.moved-moved.result c.args.self.now c.moved-moved.ensures

pub returns-clause-made : goal.returns-clause-made
returns-clause-made g c =
    let added = c.in_ok-add.ensures in
    let taken = c.take_out_counted.ensures in
    shifted g.row.LEVELS c.args.space c.args.first c.args.to c.take_out_counted.result c.args.order c.moved-moved.result c.args.self.now c.add.new.self c.take_out_counted.new.self
    c.moved-moved.ensures added.leaves added.nodes added.spaces added.loads taken.made taken.leaves
