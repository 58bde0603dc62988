use Rattle.xl_radix.proofs.Common.{arith}
use Rattle.xl_radix.proofs.FreeLemmas.{opened, root-taken}
use Rattle.xl_radix.proofs.numbering.Numbers.open.Goals as goal

pub roots-init : goal.roots-init
roots-init c = record { made = opened c.args.levels c.args.frames c.in_ok-numbers.numbers c.in_ok-numbers.ensures; within = omega arith }

pub roots-preserved : goal.roots-preserved
roots-preserved c = record {
  made = root-taken c.args.levels c.roots.space c.args.frames c.args.spaces c.roots.numbers c.take.new.self c.new.result c.take.result c.roots.invariant.made c.roots-test.true c.requires.spaces c.new.ensures c.take.ensures.taken c.take.ensures.none;
  within = omega arith;
}
