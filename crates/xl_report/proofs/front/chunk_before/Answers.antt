use Rattle.xl_report.proofs.FrontLemmas.{chunk_stored}
use Rattle.xl_report.proofs.front.chunk_before.Goals as goal

pub returns-clause-text : goal.returns-clause-text
returns-clause-text g c = chunk_stored c.args.buffer.now c.args.chunk g.row.N c.args.end c.requires.room c.requires.within c.fits-chunk.0
