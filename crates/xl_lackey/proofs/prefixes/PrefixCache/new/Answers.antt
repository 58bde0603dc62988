use Rattle.xl_lackey.proofs.Common.{All-replicate, IsPrefix}
use Rattle.xl_lackey.proofs.PageLemmas.{first_of_eight, first_of_ten, first_of_twelve}
use Rattle.xl_lackey.proofs.prefixes.PrefixCache.new.Goals as goal

pub invariant_of-result : goal.invariant_of-result
invariant_of-result c = (
  All-replicate (IsPrefix 0) 256 _ first_of_eight,
  All-replicate (IsPrefix 2) 256 _ first_of_ten,
  All-replicate (IsPrefix 4) 256 _ first_of_twelve,
)
