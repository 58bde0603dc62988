mod Common
mod BufferLemmas
pub mod FolderLemmas
mod FrontLemmas
mod HeldLemmas
pub mod SinkLemmas
