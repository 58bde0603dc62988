use Rattle.xl_recency.proofs.Common.{◌≡◌, arith}
use Rattle.xl_recency.proofs.FrontLemmas.{filled-full, filled-more}
use Rattle.xl_recency.proofs.kernel.fill_slots.Goals as goal

pub returns-then-len-width-clause-filled : goal.returns-then-len-width-clause-filled
returns-then-len-width-clause-filled g c =
    filled-more c.args.width c.args.len.now c.args.item c.args.slots.now c.put_within.new.slots c.if-len-width.true (omega arith) c.put_within.ensures

pub returns-clause-filled : goal.returns-clause-filled
returns-clause-filled g c =
    let full : c.args.len.now ≡ c.args.width = omega (arith, c.requires.few, c.if-len-width.false) in
    rw full (filled-full c.args.width c.args.item c.index-slots-width.result c.args.slots.now c.put_within.new.slots c.requires.some (omega arith) c.put_within.ensures)
