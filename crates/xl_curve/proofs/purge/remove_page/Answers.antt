use Rattle.xl_curve.proofs.Common.{◌∙◌, ap, covers, covers_as, each_order, removed}
use Rattle.xl_curve.proofs.SetLemmas.{removed_in_turn}
use Rattle.xl_model.specs.declared.address.Order.TheVariants as order
use Rattle.xl_curve.proofs.purge.remove_page.Goals as goal

pub returns : goal.returns
returns c =
    let space = c.args.space in
    let page = c.args.page in
    c.remove_as-3.ensures.removed
    ∙ ap (removed (covers_as space page order.G1)) c.remove_as-2.ensures.removed
    ∙ ap (λ (xs : _). removed (covers_as space page order.G1) (removed (covers_as space page order.M2) xs)) c.remove_as.ensures.removed
    ∙ removed_in_turn (covers_as space page order.K4) (covers_as space page order.M2) (covers_as space page order.G1) (covers space page) (each_order space page) c.args.stacks.now
