mod Common
pub mod KnownLemmas
pub mod MeaningLemmas
pub mod ServedLemmas
pub mod CourseLemmas
pub mod EndLemmas
pub mod MessageLemmas
