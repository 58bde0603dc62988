mod Common
mod EventLemmas
