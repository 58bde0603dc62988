mod Common
mod FollowLemmas
mod ItemLemmas
