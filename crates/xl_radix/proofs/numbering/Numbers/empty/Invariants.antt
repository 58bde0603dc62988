use Rattle.xl_radix.proofs.Common.{◌≡◌, None, replicate}
use Rattle.xl_radix.proofs.numbering.Numbers.empty.Given as goal

abbrev pub invariant-free : goal.invariant-free
invariant-free l = record { made : l.nodes.items ≡ replicate l._number None }
