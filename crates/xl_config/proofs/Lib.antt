mod Common
mod FitLemmas
mod ItemLemmas
