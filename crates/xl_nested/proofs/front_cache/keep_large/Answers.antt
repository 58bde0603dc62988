use Rattle.xl_nested.proofs.Common.{inl, inr, refl}
use Rattle.xl_nested.proofs.front_cache.keep_large.Goals as goal

pub returns-then-block-gt1 : goal.returns-then-block-gt1
returns-then-block-gt1 c = record { first_is = inl refl; second_is = refl; swapped_is = refl }

pub returns-else-block-gt1 : goal.returns-else-block-gt1
returns-else-block-gt1 c = record { first_is = inr refl; second_is = refl; swapped_is = refl }
