use Rattle.xl_made.proofs.Common.{arith, refl, takes_none}
use Rattle.xl_made.proofs.ReadLemmas.{takes_first}
use Rattle.xl_made.proofs.trace.MadeTrace.skim.Goals as goal

pub loop-taken-init : goal.loop-taken-init
loop-taken-init c = record {
  takes = λ n h. takes_none n c.args.self.now c.args.into.now.items h;
  few = omega arith;
  no_more = omega arith;
}

pub returns-then-not-put_next-clause-takes : goal.returns-then-not-put_next-clause-takes
returns-then-not-put_next-clause-takes c n h = rw (c.if-not-put_next.ensures.none refl, c.if-not-put_next.ensures.still refl) (c.loop-taken.invariant.takes n h)

pub loop-taken-preserved : goal.loop-taken-preserved
loop-taken-preserved c = record {
  takes = λ n h. takes_first n c.args.self.now c.loop-taken.self c.put_next.new.self c.args.into.now.items c.loop-taken.into.items c.put_next.new.into.items c.loop-taken.taken (c.loop-taken.invariant.takes n h) (c.if-not-put_next.ensures.some refl);
  few = omega (arith, c.loop-taken-test.true);
  no_more = omega (arith, c.loop-taken.invariant.no_more, c.put_next.ensures.no_more);
}
