use Rattle.xl_config.proofs.Common.{◌-◌, ◌≡◌, drop, length, none_clash}
use Rattle.xl_config.proofs.arrays.none_clash.Given as goal

abbrev pub invariant-loop-i : goal.invariant-loop-i
invariant-loop-i l =
    none_clash (drop l.i l.arrays) ≡ none_clash l.arrays

abbrev pub decreases-loop-i : goal.decreases-loop-i
decreases-loop-i l = length l.arrays - l.i
