mod Common
mod CountLemmas
mod CutLemmas
mod IndexLemmas
