use Rattle.xl_curve.proofs.Common.{is_leaf, rules}
use Rattle.xl_curve.proofs.purge.remove_named_in.Goals as goal

pub returns-in-Some : goal.returns-in-Some
returns-in-Some c = c.remove_place_in.ensures c.args.space c.args.first c.args.order c.in-Some.ensures

pub returns-in-None : goal.returns-in-None
returns-in-None c = c.remove_in.ensures (is_leaf c.args.space c.args.first c.args.order) (record { same = λ x answer h. search (rules, h) })
