use Rattle.xl_radix.proofs.Common.{◌≡◌, arith}
use Rattle.xl_radix.proofs.FreeLemmas.{all-free}
use Rattle.xl_radix.proofs.numbering.Numbers.empty.Goals as goal

pub invariant_of-result : goal.invariant_of-result
invariant_of-result c =
    let h = c.free.auto._number-end in
    let e : c.free._number ≡ c.args.frames = omega arith in
    all-free c.free.nodes.items c.in_ok-free.free c.args.frames (rw e at c.free.invariant.made) c.in_ok-free.ensures
