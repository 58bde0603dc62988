mod Common
pub mod CodeLemmas
pub mod BitLemmas
pub mod HolderLemmas
pub mod PlanLemmas
pub mod WalkLemmas
pub mod LookLemmas
pub mod ValueLemmas
pub mod RowLemmas
pub mod CountLemmas
pub mod PurgeLemmas
pub mod IndexLemmas
pub mod HoldLemmas
pub mod WordsLemmas
pub mod ComparedLemmas
pub mod VerdictLemmas
pub mod StepLemmas
pub mod CacheLemmas
pub mod SoleLemmas
mod SectionLemmas
