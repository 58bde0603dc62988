use Rattle.xl_nested.proofs.Common.{refl}
use Rattle.xl_nested.proofs.front_cache.Fronts.following.Goals as goal

pub returns : goal.returns
returns c = record { first_is = refl; straight = refl; second_small = c.beside.ensures.small; second_was = c.beside.ensures.same; apart = c.beside.ensures.apart }
