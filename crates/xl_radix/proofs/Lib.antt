mod Common
mod CaseLemmas
mod ListLemmas
pub mod UpLemmas
mod MeetLemmas
pub mod SlotLemmas
mod EndLemmas
mod MadeNodeLemmas
mod PlacedLeafLemmas
mod ReadBackLemmas
mod CountLemmas
mod StepLemmas
mod PathLemmas
pub mod OpeningLemmas
mod FreeLemmas
mod LookLemmas
pub mod LazyLemmas
mod TakenLeafLemmas
pub mod FreedNodeLemmas
mod RemovalLemmas
pub mod ShapeLemmas
pub mod TakingLemmas
mod PermLemmas
mod ShiftLemmas
