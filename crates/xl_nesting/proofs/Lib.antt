mod Common
mod AccessLemmas
mod ScriptLemmas
