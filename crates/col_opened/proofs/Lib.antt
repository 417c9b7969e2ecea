mod ChosenLemmas
pub mod KeyLemmas
mod FoundLemmas
mod ReadLemmas
mod OpenLemmas
mod TableLemmas
mod PlaceLemmas
