use Rattle.xl_curve.proofs.Common.{covers_as, rules}
use Rattle.xl_curve.proofs.purge.remove_covering_in.Goals as goal

pub returns : goal.returns
returns c = c.remove_in.ensures (covers_as c.args.space c.args.page c.args.order) (record { same = λ x answer h. search (rules, h) })
