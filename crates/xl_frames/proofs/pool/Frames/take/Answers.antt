use Rattle.xl_frames.proofs.Common.{◌≡◌, Bool, false, IfSome, List, marked, pages_of, subst}
use Rattle.xl_frames.proofs.SetLemmas.{taken_marked}
use Rattle.xl_frames.proofs.pool.Frames.take.Goals as goal

pub returns-clause-taken : goal.returns-clause-taken
returns-clause-taken c =
    subst (λ (pool : List Bool). IfSome c.take.result (λ frame. c.take.new.self.frames ≡ marked pool frame (pages_of c.args.order) false)) c.self.view_is
    (taken_marked c.take.result c.self.inside.sets.frames c.take.new.self.frames (pages_of c.args.order) c.take.ensures.lowest c.take.ensures.taken)
