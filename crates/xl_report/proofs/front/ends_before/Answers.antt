use Rattle.xl_report.proofs.FrontLemmas.{ends_joined}
use Rattle.xl_report.proofs.front.ends_before.Goals as goal

pub returns-clause-text : goal.returns-clause-text
returns-clause-text g c =
    let r = c.requires in
    let last = c.chunk_before.ensures in
    ends_joined c.args.bytes.now _ c.chunk_before-2.new.buffer c.chunk_before.new.buffer g.row.N c.args.end c.chunk_before.result c.chunk_before-2.result
    r.least r.most r.room last.start last.text c.chunk_before-2.ensures.text
