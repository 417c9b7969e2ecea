pub mod KeyLemmas
pub mod StreamLemmas
pub mod StepLemmas
pub mod MergerLemmas
pub mod ItemLemmas
pub mod PlaceLemmas
pub mod NumberingLemmas
