use Rattle.xl_radix.proofs.Common.{◌≡◌, ◌≤◌, opening_nodes}
use Rattle.xl_radix.proofs.numbering.Numbers.open.Given as goal

abbrev pub invariant-roots : goal.invariant-roots
invariant-roots l = record {
  made : l.numbers ≡ opening_nodes l.levels l.space l.frames;
  within : l.space ≤ l.spaces;
}
