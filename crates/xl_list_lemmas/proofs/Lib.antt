pub mod BucketLemmas
pub mod MemberLemmas
pub mod OnceLemmas
pub mod RecencyLemmas
pub mod TallyLemmas
