use Rattle.xl_radix.proofs.radix.Radix.shift.Goals as goal

pub returns-clause-made : goal.returns-clause-made
returns-clause-made g c = (c.in_ok-shift_counted.field-0, c.in_ok-shift_counted.ensures.made)
