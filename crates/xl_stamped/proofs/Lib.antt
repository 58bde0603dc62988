mod Common
mod OrderLemmas
mod TouchLemmas
mod RankLemmas
