use Rattle.xl_array.proofs.Common.{◌∙◌, ap, array_without, covers, covers_as, TlbArray}
use Rattle.xl_array.proofs.DropLemmas.{array_in_turn, each_order}
use Rattle.xl_model.specs.declared.address.Order.TheVariants as order
use Rattle.xl_array.proofs.array.Array.drop_page.Goals as goal

pub returns-clause-array : goal.returns-clause-array
returns-clause-array g c =
    c.drop_as-3.ensures.array
    ∙ ap (λ (a : TlbArray). array_without (covers_as c.args.space c.args.page order.G1) a) (c.drop_as-2.ensures.array ∙ ap (λ (a : TlbArray). array_without (covers_as c.args.space c.args.page order.M2) a) c.drop_as.ensures.array)
    ∙ array_in_turn (covers_as c.args.space c.args.page order.K4) (covers_as c.args.space c.args.page order.M2) (covers_as c.args.space c.args.page order.G1) (covers c.args.space c.args.page) (each_order c.args.space c.args.page) c.args.self.now
