mod Common
mod DigitLemmas
mod PermLemmas
pub mod ScriptLemmas
mod TextLemmas
pub mod WordLemmas
