use Rattle.xl_nested.proofs.Common.{refl}
use Rattle.xl_nested.proofs.FrontLemmas.{unknown}
use Rattle.xl_nested.proofs.front_cache.Fronts.none.Goals as goal

pub returns-clause-known : goal.returns-clause-known
returns-clause-known c leaves = unknown _ leaves c.none.ensures.small c.none-2.ensures.small c.none.ensures.none c.none-2.ensures.none refl
