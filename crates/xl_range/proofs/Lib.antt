mod Common
pub mod HoldLemmas
pub mod NeighbourLemmas
pub mod PutLemmas
pub mod CutCallLemmas
pub mod FindLemmas
pub mod SpreadLeafLemmas
pub mod LeafChangeLemmas
pub mod StepLemmas
pub mod MoveStepLemmas
pub mod RowLemmas
pub mod WalkLemmas
mod RangeLemmas
mod RunLemmas
mod TouchLemmas
mod LeafInLemmas
mod CutLemmas
mod MeetRangeLemmas
mod CutCountLemmas
