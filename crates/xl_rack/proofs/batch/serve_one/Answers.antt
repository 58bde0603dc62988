use Rattle.xl_rack.proofs.Common.{◌∙◌}
use Rattle.xl_rack.proofs.AnswerLemmas.{access-alone, access-demands}
use Rattle.xl_rack.proofs.BatchLemmas.{framed-alone}
use Rattle.xl_rack.proofs.batch.serve_one.Goals as goal

pub returns-then-access_at_once : goal.returns-then-access_at_once
returns-then-access_at_once g c =
    framed-alone c.args.va c.args.kind c.args.areas.now c.args.machine.now c.access_at_once.new.self (c.access_at_once.ensures.done c.if-access_at_once.true)

pub returns-in-Unmapped : goal.returns-in-Unmapped
returns-in-Unmapped g c =
    let same = c.access_at_once.ensures.not c.if-access_at_once.false in
    access-demands c.args.va c.args.kind c.args.areas.now c.args.machine.now c.access_as.new.self c.serve_demand.new.machine c.access_as.result
    (c.access_as.ensures.reply_is ∙ same.reply_is) c.in-Unmapped.is (c.access_as.ensures.after_is ∙ same.after) c.serve_demand.ensures

pub returns-in_default : goal.returns-in_default
returns-in_default g c =
    let same = c.access_at_once.ensures.not c.if-access_at_once.false in
    access-alone c.args.va c.args.kind c.args.areas.now c.args.machine.now c.access_as.new.self c.access_as.result
    (c.access_as.ensures.reply_is ∙ same.reply_is) c.in_default.not-Unmapped (c.access_as.ensures.after_is ∙ same.after)
