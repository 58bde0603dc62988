use Rattle.xl_cuckoo_walk.proofs.SoleLemmas.{middle-plans, small-plans}
use Rattle.xl_cuckoo_walk.proofs.sole.sole_of.Goals as goal

pub returns-then-large-eq1 : goal.returns-then-large-eq1
returns-then-large-eq1 c = small-plans c.args.middle c.args.large c.if-middle-eq1.true c.if-large-eq1.true

pub returns-then-middle-ne0 : goal.returns-then-middle-ne0
returns-then-middle-ne0 c = middle-plans c.args.middle c.args.large c.if-middle-eq2.true c.if-large-eq1-2.true c.if-middle-ne0.true
