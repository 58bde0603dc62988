use Rattle.xl_radix.proofs.radix.Radix.take_out.Goals as goal

pub returns : goal.returns
returns g c = (c.take_out_counted.result, c.take_out_counted.ensures.made)
