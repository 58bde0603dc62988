use Rattle.xl_curve.proofs.Common.{◌*◌, ◌+◌, refl}
use Rattle.xl_curve.proofs.PlaceLemmas.{small_back}
use Rattle.xl_curve.proofs.place.Place.small.Goals as goal

pub returns-clause-leaf : goal.returns-clause-leaf
returns-clause-leaf c =
    small_back c.args.space c.args.page (record { tag = (c.args.page * 64 + c.args.space) * 3; word = c.args.word }) c.requires.space_in refl
