use Rattle.xl_report.proofs.HexLemmas.{glyphs_made}
use Rattle.xl_report.proofs.line.glyphs.Goals as goal

pub returns : goal.returns
returns c = glyphs_made 16 c.args.digits c.fits-digits.0 c.requires
