use Rattle.xl_frames.proofs.Common.{◌+◌, ◌∙◌, ◌≤◌, ap, Bool, length, List, marked, pages_of, subst, sym, true}
use Rattle.xl_frames.proofs.SetLemmas.{marked_is}
use Rattle.xl_frames.proofs.pool.Frames.give.Goals as goal

pub returns : goal.returns
returns c =
    let s = c.self.inside.sets in
    let n = pages_of c.args.order in
    let fits : c.args.frame + n ≤ length s.frames = subst (λ (pool : List Bool). c.args.frame + n ≤ length pool) (sym c.self.view_is) c.requires in
    marked_is s.frames c.give.new.self.frames c.args.frame n true fits c.give.ensures ∙ ap (λ (pool : List Bool). marked pool c.args.frame n true) c.self.view_is
