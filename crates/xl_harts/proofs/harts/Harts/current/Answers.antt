use Rattle.xl_harts.proofs.harts.Harts.current.Goals as goal

pub returns-clause-within : goal.returns-clause-within
returns-clause-within c = rw (← c.self.view_is) c.self.invariant.kept.current_in
