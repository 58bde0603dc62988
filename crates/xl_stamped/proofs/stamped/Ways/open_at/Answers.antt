use Rattle.xl_stamped.proofs.Common.{◌-◌, arith}
use Rattle.xl_stamped.proofs.TouchLemmas.{no_items, no_stamps}
use Rattle.xl_stamped.proofs.stamped.Ways.open_at.Goals as goal

pub invariant_of-result : goal.invariant_of-result
invariant_of-result g c = (omega arith, omega (arith, c.in_ok-places.places.ok.0, c.in_ok-places.ensures.len), c.requires.width, no_stamps (c.args.next - 1))

pub returns : goal.returns
returns g c = no_items
