use Rattle.xl_report.proofs.HexLemmas.{halves_picked}
use Rattle.xl_report.proofs.line.halves.Goals as goal

pub returns : goal.returns
returns c = halves_picked c.args.bytes c.fits-bytes.0
