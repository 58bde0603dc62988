use Rattle.xl_lackey.proofs.LaneLemmas.{lanes_read}
use Rattle.xl_lackey.proofs.digits.lane_values.Goals as goal

pub returns : goal.returns
returns c = lanes_read c.args.bytes c.fits-bytes.0
