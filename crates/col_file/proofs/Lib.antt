mod PlaceLemmas
mod RunLemmas
mod NameLemmas
pub mod ListLemmas
mod EndLemmas
pub mod PartLemmas
pub mod ReadLemmas
pub mod OpenedLemmas
mod TypeLemmas
mod CheckLemmas
