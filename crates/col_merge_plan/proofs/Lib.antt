pub mod CountLemmas
pub mod ListLemmas
mod DistinctLemmas
mod RunLemmas
pub mod SegmentLemmas
pub mod LeftLemmas
mod RequiredLemmas
