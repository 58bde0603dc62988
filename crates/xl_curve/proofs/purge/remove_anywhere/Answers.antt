use Rattle.xl_curve.proofs.Common.{◌∙◌, ap, covers_anywhere, covers_anywhere_as, each_order, removed}
use Rattle.xl_curve.proofs.SetLemmas.{removed_in_turn}
use Rattle.xl_model.specs.declared.address.Order.TheVariants as order
use Rattle.xl_curve.proofs.purge.remove_anywhere.Goals as goal

pub returns : goal.returns
returns c =
    let page = c.args.page in
    c.remove_anywhere_as-3.ensures.removed
    ∙ ap (removed (covers_anywhere_as page order.G1)) c.remove_anywhere_as-2.ensures.removed
    ∙ ap (λ (xs : _). removed (covers_anywhere_as page order.G1) (removed (covers_anywhere_as page order.M2) xs)) c.remove_anywhere_as.ensures.removed
    ∙ removed_in_turn (covers_anywhere_as page order.K4) (covers_anywhere_as page order.M2) (covers_anywhere_as page order.G1) (covers_anywhere page)
    (λ x. each_order x.space page x) c.args.stacks.now
