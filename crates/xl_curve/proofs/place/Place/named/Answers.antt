use Rattle.xl_curve.proofs.Common.{◌*◌, ◌+◌, ap, Place}
use Rattle.xl_curve.proofs.PlaceLemmas.{named_place}
use Rattle.xl_curve.proofs.place.Place.named.Goals as goal

pub returns : goal.returns
returns c =
    let p : Place = record { tag = (c.args.first * 64 + c.args.space) * 3 + c.level.result; word = 0 } in
    named_place c.args.space c.args.first c.args.order p (c.is_kept.ensures.first c.if-not-is_kept.false) (c.is_kept.ensures.space c.if-not-is_kept.false)
    (ap (λ (n : _). (c.args.first * 64 + c.args.space) * 3 + n) c.level.ensures)
