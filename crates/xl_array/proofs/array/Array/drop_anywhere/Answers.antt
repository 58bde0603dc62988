use Rattle.xl_array.proofs.Common.{◌∙◌, ap, array_without, covers_anywhere, covers_anywhere_as, TlbArray}
use Rattle.xl_array.proofs.DropLemmas.{array_in_turn, each_order}
use Rattle.xl_model.specs.declared.address.Order.TheVariants as order
use Rattle.xl_array.proofs.array.Array.drop_anywhere.Goals as goal

pub returns-clause-array : goal.returns-clause-array
returns-clause-array g c =
    c.drop_anywhere_as-3.ensures.array
    ∙ ap (λ (a : TlbArray). array_without (covers_anywhere_as c.args.page order.G1) a) (c.drop_anywhere_as-2.ensures.array ∙ ap (λ (a : TlbArray). array_without (covers_anywhere_as c.args.page order.M2) a) c.drop_anywhere_as.ensures.array)
    ∙ array_in_turn (covers_anywhere_as c.args.page order.K4) (covers_anywhere_as c.args.page order.M2) (covers_anywhere_as c.args.page order.G1) (covers_anywhere c.args.page) (λ x. each_order x.space c.args.page x) c.args.self.now
