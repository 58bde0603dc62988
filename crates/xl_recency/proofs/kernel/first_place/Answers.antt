use Rattle.xl_recency.proofs.Common.{◌≡◌, arith, cases_lt, false, FnReturnsAt, get_or_read, inl, inr, says_at, subst, true}
use Rattle.xl_recency.proofs.kernel.first_place.Goals as goal

pub returns-then-test-clause-some : goal.returns-then-test-clause-some
returns-then-test-clause-some g c = record {
  meets = λ d.
      subst (λ (x : _). FnReturnsAt g.P.Fn c.args.test.now x true)
      (get_or_read c.args.items.now c.loop-i.i c.index-items-i.result c.loop-i-test.true c.index-items-i.is d)
      (says_at g.P.Fn c.test.ensures c.if-test.true);
  before = c.loop-i.invariant;
}

pub loop-i-preserved : goal.loop-i-preserved
loop-i-preserved g c = λ k d s.
    elim (cases_lt k c.loop-i.i) [
      | inl below ↦ c.loop-i.invariant k d below
      | inr here ↦
          let e : k ≡ c.loop-i.i = omega arith in
          rw e (subst (λ (x : _). FnReturnsAt g.P.Fn c.args.test.now x false)
          (get_or_read c.args.items.now c.loop-i.i c.index-items-i.result c.loop-i-test.true c.index-items-i.is d)
          (says_at g.P.Fn c.test.ensures c.if-test.false))
    ]
