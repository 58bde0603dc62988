use Rattle.xl_numbers.proofs.Common.{◌-◌, ◌^◌, IsAlike, subst, sym}
use Rattle.xl_numbers.proofs.FlagLemmas.{alike-ones, alike-zero}
use Rattle.xl_numbers.proofs.bits.word_of.Goals as goal

pub returns-then-set : goal.returns-then-set
returns-then-set c = subst (λ v. IsAlike (2 ^ 64 - 1) v) (sym c.if-set.true) alike-ones

pub returns-else-set : goal.returns-else-set
returns-else-set c = subst (λ v. IsAlike 0 v) (sym c.if-set.false) alike-zero
