use Rattle.xl_machine.proofs.Common.{◌*◌, ◌/◌, levels_of, page_of}
use Rattle.std.proofs.lemmas.Nat.{and_mask}
use Rattle.xl_machine.proofs.span.Span.page_of.Goals as goal

pub returns : goal.returns
unfolding page_of
returns c = rw (← c.self.view_is, c.self.invariant.last_is) (and_mask (c.args.va / 4096) (9 * levels_of c.self.inside.mode))
