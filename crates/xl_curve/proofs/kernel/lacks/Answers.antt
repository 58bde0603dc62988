use Rattle.xl_curve.proofs.Common.{◌<◌, ◌≡◌, ◌≢◌, arith, false, get_or, length, mark_of, ℕ}
use Rattle.xl_curve.proofs.KernelLemmas.{none_named, turned}
use Rattle.xl_curve.proofs.kernel.lacks.Goals as goal

pub returns : goal.returns
returns c = λ space first o n e.
    let marks = c.args.marks.now in
    let slots = c.args._slots.now in
    let none : c.is_marked.result ≡ false = turned c.is_marked.result e in
    let all : length slots ≡ 64 = c.told-_slots in
    let others : (k : ℕ) → k < length slots → get_or marks k 0 ≢ mark_of c.args.named =
    λ k l. rw c.mark.ensures at (c.is_marked.ensures none k (omega arith)) in
    none_named space first o c.args.named marks slots n c.requires others
