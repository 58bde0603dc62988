use Rattle.xl_tlb.proofs.Common.{IsKey, page_place, subst, ℕ}
use Rattle.xl_tlb.proofs.KnownLemmas.{none_of, not_a_key}
use Rattle.xl_tlb.proofs.newest.MruPages.none.Goals as goal

pub returns : goal.returns
returns c first arrays space page key = absurd (not_a_key space page (subst (λ (z : ℕ). IsKey z space page) (none_of 16 (page_place first page)) key))
