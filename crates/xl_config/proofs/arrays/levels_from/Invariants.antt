use Rattle.xl_config.proofs.Common.{◌≡◌, drop, levels_rise_from}
use Rattle.xl_config.proofs.arrays.levels_from.Given as goal

abbrev pub invariant-loop-spec : goal.invariant-loop-spec
invariant-loop-spec l =
    levels_rise_from l.before (drop l.spec-index l.arrays) ≡ levels_rise_from l.level l.arrays
