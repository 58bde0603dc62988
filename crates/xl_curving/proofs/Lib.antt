mod Common
mod EndLemmas
mod SceneLemmas
