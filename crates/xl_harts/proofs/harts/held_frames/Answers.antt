use Rattle.xl_harts.proofs.Common.{ap, arith, frames_in, held_leaves, List, Request}
use Rattle.xl_harts.proofs.StepLemmas.{held-append}
use Rattle.xl_harts.proofs.harts.held_frames.Goals as goal

pub returns : goal.returns
returns c =
    let a = c.held_in.ensures.held in
    let b = c.held_in-2.ensures.held in
    let e = ap (λ (rs : List Request). frames_in (held_leaves rs)) c.as_slices.ensures in
    let f = held-append c.as_slices.result.0.now c.as_slices.result.1.now in
    omega arith
